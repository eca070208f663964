-- What it is for a row and for a list of rows to pass. Assumes nothing.
use Rattle.std.specs.Prelude.{◌≡◌, ℕ, ◌<◌, ◌≤◌, true, List, length, take, Some, None, Option, slice_index_or}
use Rattle.row.specs.Rows.{deadline_of, short_of, long_of, is_track}
use Rattle.row.specs.declared.rows.Row.{Row}
use Rattle.row.specs.declared.rows.Row.TheVariants.{Track, Helper}
use Rattle.judge.specs.Bounds.{NormalBound, MixedBound, LongBound}
use Rattle.judge.specs.declared.bounds.Bounds.{Bounds}
use Rattle.judge.specs.declared.bounds.LateBounds.{LateBounds}

-- the late bounds of a track are its mixed and long bound, each at most its deadline; a helper has none
abbrev pub LatePasses : List Row → Row → Option LateBounds → Type 0
LatePasses above (Track t) (Some b) = MixedBound above t.short b.mixed × (b.mixed ≤ t.deadline) × LongBound above t.long b.long × (b.long ≤ t.deadline)
LatePasses above (Track t) None = ⊥
LatePasses above (Helper h) (Some b) = ⊥
LatePasses above (Helper h) None = Unit {0}

-- row r passes below the rows `above`: b are its bounds, and each is at most its deadline
pub record Passes (above : List Row) (r : Row) (b : Bounds) : Type 0 where
  pub normal : NormalBound above (short_of r) b.normal
  pub in_time : b.normal ≤ deadline_of r
  pub late : LatePasses above r b.late

-- every row passes, with these bounds
pub record Accepted (rows : List Row) (bounds : List Bounds) : Type 0 where
  pub many : length bounds ≡ length rows
  pub each : (i : ℕ) → i < length rows → (r : Row) (b : Bounds) → Passes (take i rows) (slice_index_or rows i r) (slice_index_or bounds i b)

-- the three ways in which row r fails below the rows `above`, in the order of the checks
abbrev pub NormalInTime : List Row → Row → Type 0
NormalInTime above r = (R : ℕ) × NormalBound above (short_of r) R × (R ≤ deadline_of r)

abbrev pub MixedInTime : List Row → Row → Type 0
MixedInTime above r = (m : ℕ) × MixedBound above (short_of r) m × (m ≤ deadline_of r)

abbrev pub LongInTime : List Row → Row → Type 0
LongInTime above r = (m : ℕ) × LongBound above (long_of r) m × (m ≤ deadline_of r)

abbrev pub FailsNormal : List Row → Row → Type 0
FailsNormal above r = NormalInTime above r → ⊥

abbrev pub FailsMixed : List Row → Row → Type 0
FailsMixed above r = (is_track r ≡ true) × NormalInTime above r × (MixedInTime above r → ⊥)

abbrev pub FailsLong : List Row → Row → Type 0
FailsLong above r = (is_track r ≡ true) × NormalInTime above r × MixedInTime above r × (LongInTime above r → ⊥)
