use Rattle.std.proofs.Common.{◌≡◌, ℕ, Bool, true, List, sym, ap, ◌∙◌, arith}
use Rattle.sets.specs.Sets.{member}
use Rattle.sets.specs.Digits.{digits}
use Rattle.sets.proofs.Digits.{within-digits, digits-off, off_below}
use Rattle.sets.proofs.Members.{leave_present}
use Rattle.sets.proofs.bit_set.BitSet.remove.Goals as goal

present : (range word k : ℕ) (xs : List Bool) → digits range word ≡ xs → true ≡ member xs k → member (digits range word) k ≡ true
present range word k xs view found = ap (λ xs. member xs k) view ∙ sym found

pub overflow_shl-self : goal.overflow_shl-self
overflow_shl-self c =
    let set = c.self.inside in
    omega (arith, within-digits set.range set.word _ (present set.range set.word _ _ c.self.view_is c.if-not-contains.ensures))

pub invariant_of-self : goal.invariant_of-self
invariant_of-self c =
    let set = c.self.inside in
    let within = within-digits set.range set.word _ (present set.range set.word _ _ c.self.view_is c.if-not-contains.ensures) in
    record { narrow = c.self.invariant.narrow; within = off_below 64 set.range set.word _ within c.self.invariant.narrow c.self.invariant.within }

pub returns : goal.returns
returns c =
    let set = c.self.inside in
    let k = c.args.k in
    let member = present set.range set.word k _ c.self.view_is c.if-not-contains.ensures in
    rw (← c.self.view_is)
    (leave_present (digits set.range set.word) _ k member (digits-off 64 set.range set.word k (omega (arith, within-digits set.range set.word k member)) member))
