use Rattle.std.specs.Fmt.{HasWritten, IsPlainFormatter}
use Rattle.tallies.specs.Texts.{lines_below}
use Rattle.tallies.proofs.RefusalsDisplay.fmt.Given as goal

abbrev pub invariant-loop-number : goal.invariant-loop-number
invariant-loop-number g l =
    IsPlainFormatter l.initial.f
    → HasWritten g.W.Write.write_str_gives l.initial.f (lines_below l.times-items l.number-counter) l.f
