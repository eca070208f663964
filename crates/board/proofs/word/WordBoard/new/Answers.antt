use Rattle.std.proofs.Common.{length, ap, ◌∙◌}
use Rattle.sets.proofs.Members.{length-empty}
use Rattle.board.proofs.word.WordBoard.new.Goals as goal

pub invariant_of-result : goal.invariant_of-result
invariant_of-result c = record { many = ap length c.empty.ensures ∙ length-empty 32 }
