-- Least and greatest numbers by tests that compute. Assumes nothing.
use Rattle.std.proofs.Common.{◌≡◌, ℕ, zero, suc, ◌<◌, ◌≤◌, Bool, true, false, cond, not, ◌&&◌, eqb, leb, subst, inl, inr, arith}
use Rattle.std.proofs.lemmas.Bool.{cases_lt, and_parts, and_cases, not-true, not-false, both_ways, leb-true, eqb-true, le-leb, and_from}
use Rattle.judge.specs.Bounds.{Least, Greatest}

-- whether every number below n passes the test
abbrev pub all_below : (ℕ → Bool) → ℕ → Bool
all_below f zero = true
all_below f (suc n) = f n && all_below f n

pub all_below_lem : (f : ℕ → Bool) (n : ℕ) → all_below f n ≡ true → (u : ℕ) → u < n → f u ≡ true
all_below_lem f zero e u l = absurd (omega arith)
all_below_lem f (suc n) e u l =
    let p = and_parts (f n) (all_below f n) e in
    elim (cases_lt u n) [
      | inl less ↦ all_below_lem f n p.1 u less
      | inr last ↦ let same : n ≡ u = omega arith in subst (λ k. f k ≡ true) same p.0
    ]

-- where not every number passes, one fails
pub some_below : (f : ℕ → Bool) (n : ℕ) → all_below f n ≡ false → (u : ℕ) × (u < n) × (f u ≡ false)
some_below f zero e = absurd cc
some_below f (suc n) e = elim (and_cases (f n) (all_below f n) e) [
  | inl here ↦ (n, omega arith, here)
  | inr before ↦ let p = some_below f n before in (p.0, omega (arith, p.1), p.2)
]

-- whether t is the least number that passes the test
abbrev pub is_least : (ℕ → Bool) → ℕ → Bool
is_least f t = f t && all_below (λ u. not (f u)) t

pub least : (P : ℕ → Type 0) (f : ℕ → Bool) → ((t : ℕ) → f t ≡ true → P t) → ((t : ℕ) → P t → f t ≡ true) → (t : ℕ) → is_least f t ≡ true → Least P t
least P f passes tested t e =
    let p = and_parts (f t) (all_below (λ u. not (f u)) t) e in
    record {
      holds = passes t p.0;
      first = λ u l h. both_ways (f u) (not-true (f u) (all_below_lem (λ v. not (f v)) t p.1 u l)) (tested u h);
    }

-- the first number from t on that passes the test, looking at n numbers
abbrev pub first_from : ℕ → (ℕ → Bool) → ℕ → ℕ
first_from zero f t = t
first_from (suc n) f t = cond (f t) t (first_from n f (suc t))

-- whether a window of length t, at least `low`, has room for its demand
abbrev pub room_from : ℕ → (ℕ → ℕ) → ℕ → Bool
room_from low demand t = leb low t && leb (demand t) t

room : (low : ℕ) (demand : ℕ → ℕ) (t : ℕ) → room_from low demand t ≡ true → (low ≤ t) × (demand t ≤ t)
room low demand t e = let p = and_parts (leb low t) (leb (demand t) t) e in (leb-true low t p.0, leb-true (demand t) t p.1)

pub room_tested : (low : ℕ) (demand : ℕ → ℕ) (t : ℕ) → (low ≤ t) × (demand t ≤ t) → room_from low demand t ≡ true
room_tested low demand t p = and_from (leb low t) (leb (demand t) t) (le-leb low t p.0) (le-leb (demand t) t p.1)

pub least_room : (low : ℕ) (demand : ℕ → ℕ) (t : ℕ) → is_least (room_from low demand) t ≡ true → Least (λ u. (low ≤ u) × (demand u ≤ u)) t
least_room low demand = least (λ u. (low ≤ u) × (demand u ≤ u)) (room_from low demand) (room low demand) (room_tested low demand)

-- whether m is the greatest of the values below n
abbrev pub is_greatest : ℕ → (ℕ → ℕ) → ℕ → Bool
is_greatest n value m = all_below (λ s. leb (value s) m) n && not (all_below (λ s. not (eqb (value s) m)) n)

pub greatest : (Value : ℕ → ℕ → Type 0) (n : ℕ) (value : ℕ → ℕ) (m : ℕ) → ((s : ℕ) → s < n → Value s (value s)) → is_greatest n value m ≡ true → Greatest n Value m
greatest Value n value m is e =
    let p = and_parts (all_below (λ s. leb (value s) m) n) (not (all_below (λ s. not (eqb (value s) m)) n)) e in
    let top = some_below (λ s. not (eqb (value s) m)) n (not-true (all_below (λ s. not (eqb (value s) m)) n) p.1) in
    let same : value top.0 ≡ m = eqb-true (value top.0) m (not-false (eqb (value top.0) m) top.2) in
    record {
      each = λ s l. (value s, is s l, leb-true (value s) m (all_below_lem (λ s. leb (value s) m) n p.0 s l));
      some = (top.0, top.1, subst (Value top.0) same (is top.0 top.1));
    }
