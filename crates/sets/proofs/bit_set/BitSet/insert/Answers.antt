use Rattle.std.proofs.Common.{◌≡◌, false, length, sym, ap, ◌∙◌, arith}
use Rattle.sets.specs.Sets.{member}
use Rattle.sets.specs.Digits.{digits}
use Rattle.sets.proofs.Digits.{length_digits, digits_on, on_below}
use Rattle.sets.proofs.Members.{join_absent, join_past, join_present}
use Rattle.sets.proofs.bit_set.BitSet.insert.Goals as goal
use Rattle.sets.proofs.bit_set.BitSet.insert.Goals.{then-k-self-via-then-k-self, then-k-self-via-else-k-self+then-contains}

pub returns-then-k-self : goal.returns-then-k-self
returns-then-k-self c =
    let set = c.self.inside in
    elim c.then-k-self.branch [
      | then-k-self-via-then-k-self w ↦ join_past c.args.self.now c.args.k (omega (arith, ap length c.self.view_is, length_digits set.range set.word))
      | then-k-self-via-else-k-self+then-contains w ↦ join_present c.args.self.now c.args.k (sym w.if-contains.ensures)
    ]

pub invariant_of-self : goal.invariant_of-self
invariant_of-self c =
    let set = c.self.inside in
    record {
      narrow = c.self.invariant.narrow;
      within = on_below 64 set.range set.word c.args.k c.if-k-self.false c.self.invariant.narrow c.self.invariant.within;
    }

pub returns : goal.returns
returns c =
    let set = c.self.inside in
    let absent : member (digits set.range set.word) c.args.k ≡ false = ap (λ xs. member xs c.args.k) c.self.view_is ∙ sym c.if-contains.ensures in
    rw (← c.self.view_is)
    (join_absent (digits set.range set.word) _ c.args.k (omega (arith, length_digits set.range set.word)) absent
    (digits_on 64 set.range set.word c.args.k (omega (arith, c.self.invariant.narrow))))
