-- Sums over the rows above a row, and functions of rows that change at one place. Assumes nothing.
use Rattle.std.proofs.Common.{◌≡◌, ℕ, zero, suc, ◌+◌, ◌<◌, ◌≤◌, cond, eqb, List, length, get_or, take, sum_by, refl, ap, ◌∙◌, subst, inl, inr, add-one, arith}
use Rattle.std.proofs.lemmas.List.Sums.{sum_by_more}
use Rattle.std.proofs.lemmas.Bool.{cases_eq, eq-eqb, ne_eqb}

-- f 0 + .. + f (i - 1)
unfoldable pub sum_to : ℕ → (ℕ → ℕ) → ℕ
sum_to zero f = 0
sum_to (suc i) f = sum_to i f + f i

pub sum_none : (i : ℕ) → sum_to i (λ _. 0) ≡ 0
unfolding sum_to
sum_none zero = refl
sum_none (suc i) = omega (arith, sum_none i)

pub sum_le : (i : ℕ) (f g : ℕ → ℕ) → ((j : ℕ) → j < i → f j ≤ g j) → sum_to i f ≤ sum_to i g
unfolding sum_to
sum_le zero f g h = omega arith
sum_le (suc i) f g h = omega (arith, sum_le i f g (λ j l. h j (omega arith)), h i (omega arith))

pub sum_add : (i : ℕ) (f g : ℕ → ℕ) → sum_to i (λ j. f j + g j) ≡ sum_to i f + sum_to i g
unfolding sum_to
sum_add zero f g = refl
sum_add (suc i) f g = omega (arith, sum_add i f g)

pub part_le_sum : (i : ℕ) (f : ℕ → ℕ) (d : ℕ) → d < i → f d ≤ sum_to i f
unfolding sum_to
part_le_sum zero f d h = omega arith
part_le_sum (suc i) f d h = elim (cases_eq d i) [
  | inl e ↦ omega (arith, ap f e)
  | inr n ↦ omega (arith, part_le_sum i f d (omega arith))
]

pub sum_same : (i : ℕ) (f g : ℕ → ℕ) → ((j : ℕ) → j < i → g j ≡ f j) → sum_to i g ≡ sum_to i f
unfolding sum_to
sum_same zero f g h = refl
sum_same (suc i) f g h = omega (arith, sum_same i f g (λ j l. h j (omega arith)), h i (omega arith))

-- of n numbers that are each at most 1, one of them 0
pub sum_ones : (n : ℕ) (f : ℕ → ℕ) → ((j : ℕ) → f j ≤ 1) → sum_to n f ≤ n
unfolding sum_to
sum_ones zero f small = omega arith
sum_ones (suc n) f small = omega (arith, sum_ones n f small, small n)

pub sum_ones_but : (n : ℕ) (f : ℕ → ℕ) (d : ℕ) → ((j : ℕ) → f j ≤ 1) → d < n → f d ≡ 0 → sum_to n f < n
unfolding sum_to
sum_ones_but zero f d small l e = omega arith
sum_ones_but (suc n) f d small l e = elim (cases_eq d n) [
  | inl s ↦ omega (arith, sum_ones n f small, e, ap f s)
  | inr k ↦ omega (arith, sum_ones_but n f d small (omega arith) e, small n)
]

-- g is f, raised by one at d
pub sum_raised : (i : ℕ) (f g : ℕ → ℕ) (d : ℕ) → d < i → g d ≡ f d + 1 → ((j : ℕ) → (d ≡ j → ⊥) → g j ≡ f j) → sum_to i g ≡ sum_to i f + 1
unfolding sum_to
sum_raised zero f g d h e o = omega arith
sum_raised (suc i) f g d h e o = elim (cases_eq d i) [
  | inl s ↦ omega (arith, ap f s, ap g s, sum_same i f g (λ j l. o j (λ z. omega arith)))
  | inr n ↦ omega (arith, sum_raised i f g d (omega arith) e o, o i n)
]

-- a sum over the first i elements of a list is one over their places
pub sum_above : {X : Type 0} (f : X → ℕ) (xs : List X) (d : X) (i : ℕ) → i ≤ length xs → sum_by f (take i xs) ≡ sum_to i (λ j. f (get_or xs j d))
unfolding sum_to
sum_above f xs d zero h = refl
sum_above f xs d (suc i) h =
    let more : sum_by f (take (suc i) xs) ≡ sum_by f (take i xs) + f (get_or xs i d) = rw add-one at (sum_by_more f xs i d h) in
    more ∙ ap (λ z. z + f (get_or xs i d)) (sum_above f xs d i (omega arith))

-- f, with v at x
pub put : {A : Type 0} → ℕ → A → (ℕ → A) → ℕ → A
put x v f j = cond (eqb x j) v (f j)

pub put_at : {A : Type 0} (x : ℕ) (v : A) (f : ℕ → A) → put x v f x ≡ v
unfolding put
put_at x v f = rw (eq-eqb x x refl)

pub put_else : {A : Type 0} (x : ℕ) (v : A) (f : ℕ → A) (j : ℕ) → (x ≡ j → ⊥) → put x v f j ≡ f j
unfolding put
put_else x v f j n = rw (ne_eqb x j n)

-- what holds of v at x, and of f elsewhere, holds of f with v at x
pub put_both : {A : Type 0} (P : ℕ → A → Type 0) (x : ℕ) (v : A) (f : ℕ → A) → P x v → ((j : ℕ) → (x ≡ j → ⊥) → P j (f j)) → (j : ℕ) → P j (put x v f j)
put_both P x v f at else j = elim (cases_eq x j) [
  | inl e ↦ subst (λ z. P z (put x v f z)) e (rw (put_at x v f) at)
  | inr n ↦ rw (put_else x v f j n) (else j n)
]
