-- Accepted rows, one after another. Assumes nothing.
use Rattle.std.proofs.Common.{◌≡◌, ℕ, ◌+◌, ◌<◌, ◌≤◌, List, [], ◌∷◌, ◌++◌, map, length, get_or, take, None, sym, subst, inl, inr, arith}
use Rattle.std.proofs.lemmas.Bool.{cases_lt}
use Rattle.std.proofs.Math.Seq.{get_or-append_seam}
use Rattle.std.proofs.lemmas.List.{get_or_append_left, get_or_read}
use Rattle.row.specs.Rows.{numbers_of}
use Rattle.row.specs.declared.rows.Row.{Row}
use Rattle.row.specs.declared.rows.RowNumbers.{RowNumbers}
use Rattle.judge.specs.Accepted.{Passes, Accepted, FailsNormal, FailsMixed, FailsLong}
use Rattle.judge.specs.Judged.{FailsBy, FailsFirst, FirstFailure, Refused}
use Rattle.judge.specs.Plan.{rows_of, bounds_of}
use Rattle.judge.specs.declared.bounds.Bounds.{Bounds}
use Rattle.judge.specs.declared.bounds.JudgeFault.{JudgeFault}
use Rattle.judge.specs.declared.bounds.JudgeFault.TheVariants.{TooManyRows, NoRows, OutsideLimits, NormalBound, MixedBound, LongBound}
use Rattle.judge.specs.declared.plan.Plan.{Plan}

-- every plan that exists is accepted
pub plan-accepted : (p : Plan) → ∥ Accepted (rows_of p) (bounds_of p) ∥₁
plan-accepted p = p.accepted

-- the first n rows pass with these bounds
abbrev pub PassTo : ℕ → List Row → List Bounds → Type 0
PassTo n rows bounds = (j : ℕ) → j < n → (r : Row) (b : Bounds) → Passes (take j rows) (get_or rows j r) (get_or bounds j b)

module _ (rows : List Row) (bounds : List Bounds) where
  -- one row more passes
  pub pass_more : (i : ℕ) (row : Row) (new : Bounds) → i < length rows → length bounds ≡ i → row ≡ get_or rows i row →
      PassTo i rows bounds → Passes (take i rows) row new → PassTo (i + 1) rows (bounds ++ new ∷ [])
  pass_more i row new within many read before passes j below r b =
      elim (cases_lt j i) [
        | inl past ↦ rw (get_or_append_left bounds (new ∷ []) b j (omega arith)) (before j past r b)
        | inr last ↦ let same : i ≡ j = omega arith in subst (λ k. Passes (take k rows) (get_or rows k r) (get_or (bounds ++ new ∷ []) k b)) same here
      ]
    where
      newest : get_or (bounds ++ new ∷ []) i b ≡ new
      newest = subst (λ k. get_or (bounds ++ new ∷ []) k b ≡ new) many (get_or-append_seam bounds new [] b)

      here : Passes (take i rows) (get_or rows i r) (get_or (bounds ++ new ∷ []) i b)
      here = rw (newest, ← (get_or_read rows i row within read r)) passes

  -- the row after those that pass fails
  pub fails-first : (i : ℕ) (row : Row) (f : JudgeFault) → i < length rows → row ≡ get_or rows i row →
      PassTo i rows bounds → FailsBy (take i rows) row i f → FailsFirst rows f
  fails-first i row f within read before fails = record {
    place = i;
    within = within;
    before = λ j below r. (_, before j below r (record { normal = 0; late = None }));
    fails = λ r. subst (λ x. FailsBy (take i rows) x i f) (get_or_read rows i row within read r) fails;
  }

pub some-row : (rows : List Row) (i : ℕ) → i < length rows → Row
some-row [] i within = let b : ⊥ = omega arith in absurd b
some-row (r ∷ rows) i within = r

-- a failing row refuses the numbers that the rows are made of
module _ (given : List RowNumbers) (rows : List Row) (made : map numbers_of rows ≡ given) (few : length rows ≤ 32) where
  first_failure : (i place : ℕ) (Fails : List Row → Row → Type 0) → place < length rows →
      ((j : ℕ) → j < place → (r : Row) → (b : Bounds) × Passes (take j rows) (get_or rows j r) b) →
      ((r : Row) → (i ≡ place) × Fails (take place rows) (get_or rows place r)) → FirstFailure given i Fails
  first_failure i place Fails within before fails =
      let same : place ≡ i = sym (fails (some-row rows place within)).0 in
      subst (λ k. FirstFailure given k Fails) same
      (record { rows = rows; made = made; few = few; within = within; before = before; fails = λ r. (fails r).1 })

  pub refused : (f : JudgeFault) → FailsFirst rows f → Refused given f
  refused (TooManyRows n) first = absurd (first.fails (some-row rows first.place first.within))
  refused NoRows first = absurd (first.fails (some-row rows first.place first.within))
  refused OutsideLimits first = absurd (first.fails (some-row rows first.place first.within))
  refused (NormalBound i) first = first_failure i first.place FailsNormal first.within first.before first.fails
  refused (MixedBound i) first = first_failure i first.place FailsMixed first.within first.before first.fails
  refused (LongBound i) first = first_failure i first.place FailsLong first.within first.before first.fails
