-- The greatest value, instant by instant. Assumes nothing.
use Rattle.std.proofs.Common.{◌≡◌, ℕ, ◌+◌, ◌<◌, ◌≤◌, max, Some, None, Option, sym, refl, subst, inl, inr, arith}
use Rattle.std.proofs.lemmas.Bool.{cases_lt}
use Rattle.judge.specs.Bounds.{FoundUpTo, Greatest, GreatestAnswer}

-- m is the greatest value below n, and 0 where there is none yet
pub record SoFar (n : ℕ) (Value : ℕ → ℕ → Type 0) (m : ℕ) : Type 0 where
  pub each : (s : ℕ) → s < n → (v : ℕ) × Value s v × (v ≤ m)
  pub some : 1 ≤ n → (s : ℕ) × (s < n) × Value s m
  pub none : n < 1 → m ≡ 0

module _ (Value : ℕ → ℕ → Type 0) where
  pub none_yet : SoFar 0 Value 0
  none_yet = record { each = λ s below. let b : ⊥ = omega arith in absurd b; some = λ more. let b : ⊥ = omega arith in absurd b; none = λ less. refl }

  pub one_more : (n m v : ℕ) → SoFar n Value m → Value n v → SoFar (n + 1) Value (max m v)
  one_more n m v far value = record { each = each; some = λ more. some; none = λ less. let b : ⊥ = omega arith in absurd b }
    where
      each : (s : ℕ) → s < n + 1 → (w : ℕ) × Value s w × (w ≤ max m v)
      each s below =
          elim (cases_lt s n) [
            | inl before ↦ let old = far.each s before in (old.0, old.1, let le = old.2 in omega arith)
            | inr past ↦ let here : n ≡ s = omega arith in (v, subst (λ x. Value x v) here value, omega arith)
          ]

      newest : max m v ≡ v → (s : ℕ) × (s < n + 1) × Value s (max m v)
      newest e = (n, omega arith, subst (λ x. Value n x) (sym e) value)

      some : (s : ℕ) × (s < n + 1) × Value s (max m v)
      some =
          elim (cases_lt n 1) [
            | inl first ↦ let zero = far.none first in newest (omega arith)
            | inr later ↦ elim (cases_lt m v) [
              | inl greater ↦ newest (omega arith)
              | inr less ↦ let old = far.some later in let same : m ≡ max m v = omega arith in (old.0, let le = old.1 in omega arith, subst (λ x. Value old.0 x) same old.2)
            ]
          ]

  pub greatest : (n m : ℕ) → 1 ≤ n → SoFar n Value m → Greatest n Value m
  greatest n m some far = record { each = far.each; some = far.some some }

-- where the answers at the instants find values up to D, or miss them, so does the greatest of them
pub greatest-found : {n : ℕ} {Answer : ℕ → Option ℕ → Type 0} (D : ℕ) (Value : ℕ → ℕ → Type 0) →
    ((s : ℕ) (o : Option ℕ) → s < n → Answer s o → FoundUpTo D (Value s) o) → (o : Option ℕ) → GreatestAnswer n Answer o → FoundUpTo D (Greatest n Value) o
greatest-found D Value found None g = λ m h most.
    let missed = g.is in
    let v = most.each missed.0 missed.1 in
    found missed.0 None missed.1 missed.2 v.0 (let le = v.2 in omega arith) v.1
greatest-found D Value found (Some m) g =
    let top = g.is.some in
    let last = found top.0 (Some m) top.1 top.2 in (
      record {
        each = λ s below. let old = g.is.each s below in (old.0, (found s (Some old.0) below old.1).0, old.2);
        some = (top.0, top.1, last.0);
      },
      last.1,
    )
