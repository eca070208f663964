use Rattle.sets.proofs.Digits.{test_digit, test_past}
use Rattle.sets.proofs.bit_set.BitSet.contains.Goals as goal

pub returns-then-k-self : goal.returns-then-k-self
returns-then-k-self c = rw (← c.self.view_is) (test_digit _ c.self.inside.word c.args.k c.if-k-self.true)

pub returns-else-k-self : goal.returns-else-k-self
returns-else-k-self c = rw (← c.self.view_is) (test_past _ c.self.inside.word c.args.k c.if-k-self.false)
