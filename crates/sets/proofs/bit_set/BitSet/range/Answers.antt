use Rattle.std.proofs.Common.{sym}
use Rattle.sets.proofs.Digits.{length_digits}
use Rattle.sets.proofs.bit_set.BitSet.range.Goals as goal

pub returns : goal.returns
returns c = rw (← c.self.view_is) (sym (length_digits c.self.inside.range c.self.inside.word))
