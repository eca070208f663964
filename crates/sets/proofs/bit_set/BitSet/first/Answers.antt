use Rattle.std.proofs.Common.{◌∙◌}
use Rattle.sets.proofs.Digits.{first_digit}
use Rattle.sets.proofs.bit_set.BitSet.first.Goals as goal

pub returns : goal.returns
returns c = rw (← c.self.view_is) (c.then_some.ensures ∙ first_digit c.self.inside.range 64 c.self.inside.word c.self.invariant.narrow)
