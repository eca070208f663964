use Rattle.std.proofs.Common.{◌≡◌, ℕ, zero, suc, ◌-◌, ◌^◌, ◌≤◌, refl, ap, ◌∙◌, arith}
use Rattle.std.proofs.lemmas.Nat.{pow_pos}
use Rattle.sets.specs.Sets.{full}
use Rattle.sets.specs.Digits.{digits}
use Rattle.sets.proofs.Digits.{digits-full, ones_shifted}
use Rattle.sets.proofs.bit_set.BitSet.full.Goals as goal
use Rattle.sets.proofs.bit_set.BitSet.full.Goals.{Joined-range-gt0, then-range-gt0, else-range-gt0}

no_ones : (n : ℕ) → n ≤ 0 → 0 ≡ 2 ^ n - 1
no_ones zero h = refl
no_ones (suc n) h = let no_more : ⊥ = omega arith in absurd no_more

all_ones : (c : Joined-range-gt0) → c.if-range-gt0.word ≡ 2 ^ c.min-range.result - 1
all_ones c =
    elim c.if-range-gt0.branch [
      | then-range-gt0 w ↦ w.word-is ∙ ones_shifted 64 c.min-range.result (omega arith)
      | else-range-gt0 w ↦ w.word-is ∙ no_ones c.min-range.result (omega arith)
    ]

pub invariant_of-result : goal.invariant_of-result
invariant_of-result c = record { narrow = omega arith; within = omega (arith, all_ones c, pow_pos c.min-range.result) }

pub returns : goal.returns
returns c =
    let range = c.min-range.result in
    ap (digits range) (all_ones c) ∙ digits-full range ∙ ap full c.min-range.ensures
