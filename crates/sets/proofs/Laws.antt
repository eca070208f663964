-- The laws of sets, each from what is known of lists. Assumes nothing.
use Rattle.std.proofs.Common.{◌≡◌, ℕ, ◌<◌, Bool, true, false, cond, List, length, set, Some, None, Option, sym, refl, ap, ◌∙◌, inl, inr}
use Rattle.std.proofs.lemmas.List.{length-set, get_or-set_same, get_or-set_other, get_or_past}
use Rattle.std.proofs.lemmas.Bool.{cases_lt}
use Rattle.sets.specs.Sets.{member, joins, joined, without}
use Rattle.sets.specs.Laws.{Laws}
use Rattle.sets.proofs.Members.{join_absent, smallest_least}

-- what holds of the set with k's place changed and of the set as it was holds of either
either : (P : List Bool → Type 0) (b : Bool) (xs ys : List Bool) → P ys → P xs → P (cond b ys xs)
either P true xs ys p q = p
either P false xs ys p q = q

absent_after : (xs : List Bool) (k : ℕ) → member (set xs k false) k ≡ false
absent_after xs k =
    elim (cases_lt k (length xs)) [
      | inl h ↦ get_or-set_same xs k false false h
      | inr h ↦ get_or_past (set xs k false) k false (rw (length-set xs k false) h)
    ]

no_join : (b : Bool) (xs ys : List Bool) → b ≡ false → cond b ys xs ≡ xs
no_join b xs ys e = ap (λ b. cond b ys xs) e

gone : (b : Bool) (xs : List Bool) (k : ℕ) → member xs k ≡ b → member (cond b (set xs k false) xs) k ≡ false
gone true xs k e = absent_after xs k
gone false xs k e = e

without_range : (xs : List Bool) (found : Option ℕ) → length (without xs found) ≡ length xs
without_range xs None = refl
without_range xs (Some k) = length-set xs k false

can_join : (xs : List Bool) (k : ℕ) → k < length xs → member xs k ≡ false → (joins xs k ≡ true) × (member (joined xs k) k ≡ true)
can_join xs k h absent =
    let j = join_absent xs (set xs k true) k h absent refl in
    (sym j.answer, ap (λ ys. member ys k) (sym j.after) ∙ get_or-set_same xs k true false h)

pub laws : Laws
laws = record {
  can_join = can_join;
  join_no = λ xs k e. no_join (joins xs k) xs (set xs k true) e;
  leave_no = λ xs k e. no_join (member xs k) xs (set xs k false) e;
  gone = λ xs k. gone (member xs k) xs k refl;
  taken = absent_after;
  joined_others = λ xs k j ne. either (λ ys. member ys j ≡ member xs j) (joins xs k) xs (set xs k true) (get_or-set_other xs k j true false ne) refl;
  left_others = λ xs k j ne. either (λ ys. member ys j ≡ member xs j) (member xs k) xs (set xs k false) (get_or-set_other xs k j false false ne) refl;
  taken_others = λ xs k j ne. get_or-set_other xs k j false false ne;
  joined_range = λ xs k. either (λ ys. length ys ≡ length xs) (joins xs k) xs (set xs k true) (length-set xs k true) refl;
  left_range = λ xs k. either (λ ys. length ys ≡ length xs) (member xs k) xs (set xs k false) (length-set xs k false) refl;
  without_range = without_range;
  smallest_is = λ xs. smallest_least xs _ refl;
}
