-- The smallest member from a place on, and how it changes where a number joins or leaves. Assumes nothing.
use Rattle.std.proofs.Common.{◌≡◌, ℕ, zero, suc, ◌-◌, ◌<◌, ◌≤◌, Bool, true, false, ◌⊎◌, List, [], ◌∷◌, length, drop, set, Some, None, Option, sym, refl, ap, ◌∙◌, subst, inl, inr, arith, ltb, lt-ltb, le-ltb}
use Rattle.std.specs.Bool.{then_some}
use borrow.Author.Tests.{both_ways}
use Rattle.std.proofs.lemmas.List.{length-drop, length-set, get_or-drop, get_or-set_same, get_or-set_other}
use Rattle.std.proofs.lemmas.Bool.{cases_lt, cases_order}
use Rattle.sets.specs.Sets.{member, smallest, IsSmallest}
use Rattle.sets.proofs.Members.{smallest_least, member-within}
use Rattle.board.specs.Order.{before, next_from}

-- j is the smallest member from k on, or the end of the range where there is none
pub record Follows (xs : List Bool) (k j : ℕ) : Type 0 where
  pub behind : k ≤ j
  pub within : j ≤ length xs
  pub gap : (i : ℕ) → k ≤ i → i < j → member xs i ≡ false
  pub found : j < length xs → member xs j ≡ true

one_before : (xs : List Bool) (j : ℕ) → Follows xs 0 j → Follows (false ∷ xs) 0 (suc j)
one_before xs j rest = record { behind = omega arith; within = omega arith; gap = λ i l h. gap i h; found = λ h. rest.found (omega arith) }
  where
    gap : (i : ℕ) → i < suc j → member (false ∷ xs) i ≡ false
    gap zero h = refl
    gap (suc i) h = rest.gap i (omega arith) (omega arith)

before-follows : (xs : List Bool) → Follows xs 0 (before xs)
before-follows [] = record {
  behind = omega arith;
  within = omega arith;
  gap = λ i l h. refl;
  found = λ h. let none : ⊥ = omega arith in absurd none;
}
before-follows (true ∷ xs) = record {
  behind = omega arith;
  within = omega arith;
  gap = λ i l h. let none : ⊥ = omega arith in absurd none;
  found = λ h. refl;
}
before-follows (false ∷ xs) = one_before xs (before xs) (before-follows xs)

pub next_follows : (xs : List Bool) (k : ℕ) → k ≤ length xs → Follows xs k (next_from xs k)
next_follows xs k h =
    let rest = before-follows (drop k xs) in
    let many = length-drop k xs in
    record {
      behind = omega arith;
      within = omega arith;
      gap = λ i l below. subst (λ m. member xs m ≡ false) (omega arith) (sym (get_or-drop k xs (i - k) false) ∙ rest.gap (i - k) (omega arith) (omega arith));
      found = λ below. sym (get_or-drop k xs (before (drop k xs)) false) ∙ rest.found (omega arith);
    }

-- there is only one
pub follows_one : (xs : List Bool) (k i j : ℕ) → Follows xs k i → Follows xs k j → i ≡ j
follows_one xs k i j p q =
    elim (cases_order i j) [
      | inl e ↦ e
      | inr (inl h) ↦ absurd (both_ways (member xs i) (q.gap i p.behind h) (p.found (omega arith)))
      | inr (inr h) ↦ absurd (both_ways (member xs j) (p.gap j q.behind h) (q.found (omega arith)))
    ]

-- a member from k on does not stand before what follows
pub not_before : (xs : List Bool) (k j i : ℕ) → Follows xs k j → k ≤ i → member xs i ≡ true → j ≤ i
not_before xs k j i p l e =
    elim (cases_lt i j) [ inl h ↦ absurd (both_ways (member xs i) (p.gap i l h) e) | inr h ↦ h ]

-- a change before k or behind j leaves what follows
pub keep : (xs : List Bool) (k j r : ℕ) (b : Bool) → Follows xs k j → (r < k) ⊎ (j < r) → Follows (set xs r b) k j
keep xs k j r b p apart =
    let many = length-set xs r b in
    let p1 = p.behind in
    let p2 = p.within in
    record {
      behind = p.behind;
      within = omega arith;
      gap = λ i l h. get_or-set_other xs r i b false (omega arith) ∙ p.gap i l h;
      found = λ h. get_or-set_other xs r j b false (omega arith) ∙ p.found (omega arith);
    }

-- where r joins inside the gap, r follows k
pub join_before : (xs : List Bool) (k q r : ℕ) → Follows xs k q → k ≤ r → r < q → Follows (set xs r true) k r
join_before xs k q r p l h =
    let many = length-set xs r true in
    let p2 = p.within in
    record {
      behind = l;
      within = omega arith;
      gap = λ i m below. get_or-set_other xs r i true false (omega arith) ∙ p.gap i m (omega arith);
      found = λ _. get_or-set_same xs r true false (omega arith);
    }

-- and what followed k follows r
pub join_behind : (xs : List Bool) (k q r : ℕ) → Follows xs k q → k ≤ r → r < q → Follows (set xs r true) (suc r) q
join_behind xs k q r p l h =
    let many = length-set xs r true in
    let p2 = p.within in
    record {
      behind = h;
      within = omega arith;
      gap = λ i m below. get_or-set_other xs r i true false (omega arith) ∙ p.gap i (omega arith) below;
      found = λ below. get_or-set_other xs r q true false (omega arith) ∙ p.found (omega arith);
    }

-- where r, which followed k, leaves, what followed r follows k
pub leave_between : (xs : List Bool) (k r q : ℕ) → Follows xs k r → r < length xs → Follows xs (suc r) q → Follows (set xs r false) k q
leave_between xs k r q p h s =
    let many = length-set xs r false in
    let p1 = p.behind in
    let s1 = s.behind in
    let s2 = s.within in
    record {
      behind = omega arith;
      within = omega arith;
      gap = gap;
      found = λ below. get_or-set_other xs r q false false (omega arith) ∙ s.found (omega arith);
    }
  where
    gap : (i : ℕ) → k ≤ i → i < q → member (set xs r false) i ≡ false
    gap i l below =
        elim (cases_order i r) [
          | inl e ↦ ap (λ m. member (set xs r false) m) e ∙ get_or-set_same xs r false false h
          | inr (inl m) ↦ get_or-set_other xs r i false false (omega arith) ∙ p.gap i l m
          | inr (inr m) ↦ get_or-set_other xs r i false false (omega arith) ∙ s.gap i m below
        ]

-- what follows 0 is the smallest member
follows-smallest : (xs : List Bool) (j : ℕ) → Follows xs 0 j → j < length xs → smallest xs ≡ Some j
follows-smallest xs j p h = go (smallest xs) (smallest_least xs (smallest xs) refl)
  where
    go : (found : Option ℕ) → IsSmallest xs found → found ≡ Some j
    go None s = absurd (both_ways (member xs j) (s j) (p.found h))
    go (Some k) s =
        elim (cases_order k j) [
          | inl e ↦ ap Some e
          | inr (inl l) ↦ absurd (both_ways (member xs k) (p.gap k (omega arith) l) s.0)
          | inr (inr l) ↦ absurd (both_ways (member xs j) (s.1 j l) (p.found h))
        ]

-- and where that is the end, there is none
follows_none : (xs : List Bool) (j : ℕ) → Follows xs 0 j → length xs ≤ j → smallest xs ≡ None
follows_none xs j p h = go (smallest xs) (smallest_least xs (smallest xs) refl)
  where
    go : (found : Option ℕ) → IsSmallest xs found → found ≡ None
    go None s = refl
    go (Some k) s = let low = member-within xs k s.0 in absurd (both_ways (member xs k) (p.gap k (omega arith) (omega arith)) s.0)

-- so the test whether it is in the range finds the smallest member
pub first_follows : (xs : List Bool) (j : ℕ) → Follows xs 0 j → then_some (ltb j (length xs)) j ≡ smallest xs
first_follows xs j p =
    elim (cases_lt j (length xs)) [
      | inl h ↦ ap (λ b. then_some b j) (lt-ltb j (length xs) h) ∙ sym (follows-smallest xs j p h)
      | inr h ↦ ap (λ b. then_some b j) (le-ltb j (length xs) h) ∙ sym (follows_none xs j p h)
    ]
