use Rattle.writer.proofs.Filling.{Filling}
use Rattle.writer.proofs.pack.pack_fields.Given as goal

abbrev pub invariant-loop-width : goal.invariant-loop-width
invariant-loop-width g l = Filling l.initial.bytes l.bytes l.fields l.width-index l.offset
