-- The judge's answer is determined: the definitions leave no choice. Assumes nothing.
use Rattle.std.specs.Prelude.{◌≡◌, ℕ, List}
use Rattle.row.specs.declared.rows.Row.{Row}
use Rattle.row.specs.declared.rows.RowNumbers.{RowNumbers}
use Rattle.judge.specs.Bounds.{NormalBound, LateFinish, LatestStart, MixedBound, LongBound}
use Rattle.judge.specs.Accepted.{Passes, Accepted}
use Rattle.judge.specs.Judged.{Refused}
use Rattle.judge.specs.Plan.{rows_of, bounds_of, Filled}
use Rattle.judge.specs.declared.bounds.JudgeFault.{JudgeFault}
use Rattle.judge.specs.declared.plan.Plan.{Plan}

-- at most one value has P
abbrev pub AtMostOne : {X : Type 0} → (X → Type 0) → Type 0
AtMostOne {X} P = (x y : X) → P x → P y → x ≡ y

pub record Determined : Type 0 where
  -- each bound of a row has at most one value
  pub normal : (above : List Row) (C : ℕ) → AtMostOne (NormalBound above C)
  pub finish : (above : List Row) (B s : ℕ) → AtMostOne (LateFinish above B s)
  pub start : (above : List Row) → AtMostOne (LatestStart above)
  pub mixed : (above : List Row) (C : ℕ) → AtMostOne (MixedBound above C)
  pub long : (above : List Row) (L : ℕ) → AtMostOne (LongBound above L)
  -- a row passes with one record of bounds at most, and a list of rows with one list
  pub passes : (above : List Row) (r : Row) → AtMostOne (Passes above r)
  pub accepted : (rows : List Row) → AtMostOne (Accepted rows)
  -- numbers fill a plan in one way, are refused by one fault, and never both
  pub filled : (given : List RowNumbers) (p q : Plan) → Filled given p → Filled given q → (rows_of p ≡ rows_of q) × (bounds_of p ≡ bounds_of q)
  pub refused : (given : List RowNumbers) → AtMostOne (Refused given)
  pub apart : (given : List RowNumbers) (p : Plan) (f : JudgeFault) → Filled given p → Refused given f → ⊥
