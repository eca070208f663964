use Rattle.std.proofs.Common.{◌≡◌, ℕ, Bool, true, List, Some, sym, ap, ◌∙◌, arith}
use Rattle.sets.specs.Sets.{member, smallest}
use Rattle.sets.specs.Digits.{digits}
use Rattle.sets.proofs.Digits.{within-digits, digits-off, off_below}
use Rattle.sets.proofs.Members.{smallest-member}
use Rattle.sets.proofs.bit_set.BitSet.pop_first.Goals as goal

-- the number that was found is a member
present : (range word k : ℕ) (xs : List Bool) → digits range word ≡ xs → Some k ≡ smallest xs → member (digits range word) k ≡ true
present range word k xs view found = smallest-member (digits range word) (Some k) (ap smallest view ∙ sym found)

pub overflow_shl-self : goal.overflow_shl-self
overflow_shl-self c =
    let set = c.self.inside in
    omega (arith, within-digits set.range set.word _ (present set.range set.word _ _ c.self.view_is c.in_ok-first.ensures))

pub invariant_of-self : goal.invariant_of-self
invariant_of-self c =
    let set = c.self.inside in
    let within = within-digits set.range set.word _ (present set.range set.word _ _ c.self.view_is c.in_ok-first.ensures) in
    record { narrow = c.self.invariant.narrow; within = off_below 64 set.range set.word _ within c.self.invariant.narrow c.self.invariant.within }

pub returns-clause-after : goal.returns-clause-after
returns-clause-after c =
    let set = c.self.inside in
    let k = c.in_ok-first.first in
    let member = present set.range set.word k _ c.self.view_is c.in_ok-first.ensures in
    rw (← c.self.view_is) (digits-off 64 set.range set.word k (omega (arith, within-digits set.range set.word k member)) member)
