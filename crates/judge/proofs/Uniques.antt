-- Each bound has at most one value. Assumes nothing.
use Rattle.std.proofs.Common.{◌≡◌, ℕ, ◌-◌, ◌≤◌, max, List, subst, inl, inr, arith}
use Rattle.std.proofs.lemmas.Bool.{cases_lt}
use Rattle.row.specs.declared.rows.Row.{Row}
use Rattle.judge.specs.Determined.{AtMostOne}
use Rattle.judge.specs.Bounds.{Least, Greatest, LateFinish, MixedBound, LongBound}

pub least_single : (P : ℕ → Type 0) → AtMostOne (Least P)
least_single P t u p q =
    elim (cases_lt t u) [
      | inl less ↦ let b : ⊥ = q.first t less p.holds in absurd b
      | inr more ↦ elim (cases_lt u t) [ inl less ↦ let b : ⊥ = p.first u less q.holds in absurd b | inr same ↦ omega arith ]
    ]

greatest_least : (n : ℕ) (Value : ℕ → ℕ → Type 0) → ((s : ℕ) → AtMostOne (Value s)) → (t u : ℕ) → Greatest n Value t → Greatest n Value u → t ≤ u
greatest_least n Value single t u p q =
    let top = p.some in
    let same = q.each top.0 top.1 in
    let e = single top.0 t same.0 top.2 same.1 in
    let le = same.2 in
    omega arith

pub greatest_single : (n : ℕ) (Value : ℕ → ℕ → Type 0) → ((s : ℕ) → AtMostOne (Value s)) → AtMostOne (Greatest n Value)
greatest_single n Value single t u p q =
    let there = greatest_least n Value single t u p q in
    let back = greatest_least n Value single u t q p in
    omega arith

pub mixed_single : (above : List Row) (C : ℕ) → AtMostOne (MixedBound above C)
mixed_single above C t u p q =
    let normal = least_single _ q.normal p.normal q.is_normal p.is_normal in
    let late = greatest_single p.normal (LateFinish above C) (λ s. least_single _) p.late q.late p.is_late
    (subst (λ n. Greatest n (LateFinish above C) q.late) normal q.is_late) in
    omega (arith, p.greater, q.greater)

-- at most one value is the late finish less s
from_single : (above : List Row) (L s : ℕ) → AtMostOne (λ v. (F : ℕ) × LateFinish above L s F × (v ≡ F - s))
from_single above L s t u p q =
    let same = least_single _ p.0 q.0 p.1 q.1 in
    omega (arith, p.2, q.2)

pub long_single : (above : List Row) (L : ℕ) → AtMostOne (LongBound above L)
long_single above L t u p q =
    let start = least_single _ q.start p.start q.is_start p.is_start in
    let Value : ℕ → ℕ → Type 0 = λ s v. (F : ℕ) × LateFinish above L s F × (v ≡ F - s) in
    greatest_single (max 1 p.start) Value (from_single above L) t u p.greatest (subst (λ n. Greatest (max 1 n) Value u) start q.greatest)
