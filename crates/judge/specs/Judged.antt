-- Which answer the judge gives to a list of plain numbers. Assumes nothing.
use Rattle.std.specs.Prelude.{◌≡◌, ℕ, ◌<◌, ◌≤◌, Bool, true, false, ◌&&◌, List, [], ◌∷◌, map, length, take, slice_index_or}
use Rattle.row.specs.Rows.{numbers_of, keeps}
use Rattle.row.specs.declared.faults.Fault.{Fault}
use Rattle.row.specs.declared.faults.Layer.TheVariants.{Judge}
use Rattle.row.specs.declared.faults.Refusal.TheVariants as refusals
use Rattle.row.specs.declared.rows.Row.{Row}
use Rattle.row.specs.declared.rows.RowNumbers.{RowNumbers}
use Rattle.judge.specs.Accepted.{Passes, FailsNormal, FailsMixed, FailsLong}
use Rattle.judge.specs.declared.bounds.Bounds.{Bounds}
use Rattle.judge.specs.declared.bounds.JudgeFault.{JudgeFault}
use Rattle.judge.specs.declared.bounds.JudgeFault.TheVariants.{TooManyRows, NoRows, OutsideLimits, NormalBound, MixedBound, LongBound}

-- each refusal of the judge with its number, its layer and its place
abbrev pub fault_of : JudgeFault → Fault
fault_of (TooManyRows n) = record { refusal = refusals.TooManyRows; layer = Judge; place = n }
fault_of NoRows = record { refusal = refusals.WrongCount; layer = Judge; place = 0 }
fault_of OutsideLimits = record { refusal = refusals.OutsideLimits; layer = Judge; place = 0 }
fault_of (NormalBound i) = record { refusal = refusals.NormalBound; layer = Judge; place = i }
fault_of (MixedBound i) = record { refusal = refusals.MixedBound; layer = Judge; place = i }
fault_of (LongBound i) = record { refusal = refusals.LongBound; layer = Judge; place = i }

-- whether all the numbers given make rows
abbrev pub all_keep : List RowNumbers → Bool
all_keep [] = true
all_keep (n ∷ given) = keeps n && all_keep given

-- some of the numbers given make no row
abbrev pub NoRowsMade : List RowNumbers → JudgeFault → Type 0
NoRowsMade given f = (f ≡ OutsideLimits) × (all_keep given ≡ false)

-- row r, at place i below the rows `above`, fails first by the check that the fault names
abbrev pub FailsBy : List Row → Row → ℕ → JudgeFault → Type 0
FailsBy above r i (TooManyRows n) = ⊥
FailsBy above r i NoRows = ⊥
FailsBy above r i OutsideLimits = ⊥
FailsBy above r i (NormalBound j) = (j ≡ i) × FailsNormal above r
FailsBy above r i (MixedBound j) = (j ≡ i) × FailsMixed above r
FailsBy above r i (LongBound j) = (j ≡ i) × FailsLong above r

-- the first row that does not pass fails by the check that the fault names
pub record FailsFirst (rows : List Row) (f : JudgeFault) : Type 0 where
  pub place : ℕ
  pub within : place < length rows
  pub before : (j : ℕ) → j < place → (r : Row) → (b : Bounds) × Passes (take j rows) (slice_index_or rows j r) b
  pub fails : (r : Row) → FailsBy (take place rows) (slice_index_or rows place r) place f

-- the numbers make 1 to 32 rows; row i is the first that does not pass, and it fails by Fails
pub record FirstFailure (given : List RowNumbers) (i : ℕ) (Fails : List Row → Row → Type 0) : Type 0 where
  pub rows : List Row
  pub made : map numbers_of rows ≡ given
  pub few : length rows ≤ 32
  pub within : i < length rows
  pub before : (j : ℕ) → j < i → (r : Row) → (b : Bounds) × Passes (take j rows) (slice_index_or rows j r) b
  pub fails : (r : Row) → Fails (take i rows) (slice_index_or rows i r)

-- the fault is the one that applies to the numbers given: the first in the order of the checks
abbrev pub Refused : List RowNumbers → JudgeFault → Type 0
Refused given (TooManyRows n) = (32 < length given) × (n ≡ length given)
Refused given NoRows = length given ≡ 0
Refused given OutsideLimits = (1 ≤ length given) × (length given ≤ 32) × (all_keep given ≡ false)
Refused given (NormalBound i) = FirstFailure given i FailsNormal
Refused given (MixedBound i) = FirstFailure given i FailsMixed
Refused given (LongBound i) = FirstFailure given i FailsLong
