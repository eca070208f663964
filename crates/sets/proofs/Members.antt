-- What holds of sets as lists of Booleans. Assumes nothing.
use Rattle.std.proofs.Common.{◌≡◌, ℕ, zero, suc, ◌+◌, ◌<◌, ◌≤◌, Bool, true, false, cond, ltb, List, [], ◌∷◌, length, set, Some, None, Option, sym, refl, ap, ◌∙◌, subst, arith, le-ltb, lt-ltb}
use borrow.Author.Tests.{both_ways, clash}
use Rattle.std.proofs.Math.Bool.{and-false}
use Rattle.std.proofs.lemmas.List.{length-replicate, length-set, get_or-set_same, set-set, set-get_or}
use Rattle.sets.specs.Sets.{empty, full, member, joins, joined, left, smallest, further, size, IsSmallest, IsMember, IsEmpty}

smallest_is : (xs : List Bool) → IsSmallest xs (smallest xs)
smallest_is [] = λ k. refl
smallest_is (true ∷ xs) = (refl, λ j h. let none_below : ⊥ = omega arith in absurd none_below)
smallest_is (false ∷ xs) = step (smallest xs) (smallest_is xs)
  where
    step : (found : Option ℕ) → IsSmallest xs found → IsSmallest (false ∷ xs) (further found)
    step None h = past
      where
        past : (k : ℕ) → member (false ∷ xs) k ≡ false
        past zero = refl
        past (suc k) = h k
    step (Some k) h = (h.0, before)
      where
        before : (j : ℕ) → j < suc k → member (false ∷ xs) j ≡ false
        before zero l = refl
        before (suc j) l = h.1 j (omega arith)

-- what `smallest` finds is the smallest member
pub smallest_least : (xs : List Bool) (found : Option ℕ) → smallest xs ≡ found → IsSmallest xs found
smallest_least xs found e = subst (IsSmallest xs) e (smallest_is xs)

least_member : (xs : List Bool) (found : Option ℕ) → IsSmallest xs found → IsMember xs found
least_member xs None h = h
least_member xs (Some k) h = h.0

-- and so a member
pub smallest-member : (xs : List Bool) (found : Option ℕ) → smallest xs ≡ found → IsMember xs found
smallest-member xs found e = least_member xs found (smallest_least xs found e)

-- a member is within the range
pub member-within : (xs : List Bool) (k : ℕ) → member xs k ≡ true → k < length xs
member-within [] k e = absurd (clash e)
member-within (x ∷ xs) zero e = omega arith
member-within (x ∷ xs) (suc k) e = let rest = member-within xs k e in omega arith

pub member-empty : (n k : ℕ) → member (empty n) k ≡ false
unfolding empty
member-empty zero k = refl
member-empty (suc n) zero = refl
member-empty (suc n) (suc k) = member-empty n k

-- what is answered and what the set xs has become where k was asked to join
abbrev pub Joining : Bool → List Bool → List Bool → ℕ → Type 0
Joining says xs ys k = record { answer : says ≡ joins xs k; after : ys ≡ joined xs k }

pub join_absent : (xs ys : List Bool) (k : ℕ) → k < length xs → member xs k ≡ false → ys ≡ set xs k true → Joining true xs ys k
join_absent xs ys k h absent e =
    let can : joins xs k ≡ true = rw (lt-ltb k (length xs) h, absent) in
    record { answer = sym can; after = e ∙ ap (λ b. cond b (set xs k true) xs) (sym can) }

pub join_past : (xs : List Bool) (k : ℕ) → length xs ≤ k → Joining false xs xs k
join_past xs k h =
    let cannot : joins xs k ≡ false = rw (le-ltb k (length xs) h) in
    record { answer = sym cannot; after = ap (λ b. cond b (set xs k true) xs) (sym cannot) }

pub join_present : (xs : List Bool) (k : ℕ) → member xs k ≡ true → Joining false xs xs k
join_present xs k present =
    let cannot : joins xs k ≡ false = rw present (and-false (ltb k (length xs))) in
    record { answer = sym cannot; after = ap (λ b. cond b (set xs k true) xs) (sym cannot) }

-- what is answered and what the set xs has become where k was asked to leave
abbrev pub Leaving : Bool → List Bool → List Bool → ℕ → Type 0
Leaving says xs ys k = record { answer : says ≡ member xs k; after : ys ≡ left xs k }

pub leave_present : (xs ys : List Bool) (k : ℕ) → member xs k ≡ true → ys ≡ set xs k false → Leaving true xs ys k
leave_present xs ys k present e =
    record { answer = sym present; after = e ∙ ap (λ b. cond b (set xs k false) xs) (sym present) }

pub leave_absent : (xs : List Bool) (k : ℕ) → member xs k ≡ false → Leaving false xs xs k
leave_absent xs k absent =
    record { answer = sym absent; after = ap (λ b. cond b (set xs k false) xs) (sym absent) }

pub length-empty : (n : ℕ) → length (empty n) ≡ n
unfolding empty
length-empty n = length-replicate n false

pub length-full : (n : ℕ) → length (full n) ≡ n
unfolding full
length-full n = length-replicate n true

pub size-empty : (n : ℕ) → size (empty n) ≡ 0
unfolding empty
size-empty zero = refl
size-empty (suc n) = size-empty n

pub size-within : (xs : List Bool) → size xs ≤ length xs
size-within [] = omega arith
size-within (true ∷ xs) = omega (arith, size-within xs)
size-within (false ∷ xs) = omega (arith, size-within xs)

-- a set of no members is empty
pub none_empty : (xs : List Bool) → size xs ≡ 0 → IsEmpty xs
none_empty [] e k = refl
none_empty (true ∷ xs) e k = let none : ⊥ = omega arith in absurd none
none_empty (false ∷ xs) e zero = refl
none_empty (false ∷ xs) e (suc k) = none_empty xs e k

-- one more member where k joins, and one less where it leaves
pub size_join : (xs : List Bool) (k : ℕ) → k < length xs → member xs k ≡ false → size (set xs k true) ≡ size xs + 1
size_join [] k h e = let none : ⊥ = omega arith in absurd none
size_join (true ∷ xs) zero h e = absurd (both_ways true e refl)
size_join (false ∷ xs) zero h e = omega arith
size_join (true ∷ xs) (suc k) h e = omega (arith, size_join xs k (omega arith) e)
size_join (false ∷ xs) (suc k) h e = size_join xs k (omega arith) e

pub size_leave : (xs : List Bool) (k : ℕ) → member xs k ≡ true → size xs ≡ size (set xs k false) + 1
size_leave [] k e = absurd (clash e)
size_leave (true ∷ xs) zero e = omega arith
size_leave (false ∷ xs) zero e = absurd (clash e)
size_leave (true ∷ xs) (suc k) e = omega (arith, size_leave xs k e)
size_leave (false ∷ xs) (suc k) e = size_leave xs k e

-- an empty set has no members
pub empty_none : (xs : List Bool) → IsEmpty xs → size xs ≡ 0
empty_none [] e = refl
empty_none (true ∷ xs) e = absurd (clash (sym (e 0)))
empty_none (false ∷ xs) e = empty_none xs (λ k. e (suc k))

-- a member that leaves can join again, and the set is then as it was
pub rejoin : (xs : List Bool) (k : ℕ) → member xs k ≡ true → (joins (set xs k false) k ≡ true) × (joined (set xs k false) k ≡ xs)
rejoin xs k present =
    let within = member-within xs k present in
    let back : set (set xs k false) k true ≡ xs = set-set xs k false true ∙ ap (set xs k) (sym present) ∙ set-get_or xs k false in
    let h = join_absent (set xs k false) xs k (omega (arith, length-set xs k false)) (get_or-set_same xs k false false within) (sym back) in
    (sym h.answer, sym h.after)

-- a set of a number of members that is 1 to 64
pub sized : (xs : List Bool) (n : ℕ) → length xs ≡ n → (1 ≤ n) × (n ≤ 64) → (1 ≤ length xs) × (length xs ≤ 64)
sized xs n e h = (omega (arith, e, h.0), omega (arith, e, h.1))
