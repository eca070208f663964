use Rattle.std.proofs.Common.{sym}
use Rattle.sets.proofs.Digits.{size-digits}
use Rattle.sets.proofs.bit_set.BitSet.len.Goals as goal

pub returns : goal.returns
returns c = rw (← c.self.view_is) (sym (size-digits c.self.inside.range c.self.inside.word c.self.invariant.within))
