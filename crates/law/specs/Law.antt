-- The law of a session: no job is late, no block is shared or lost, and enough blocks are always enough. Assumes nothing.
--
-- A history is the list of calls made since opening with their answers, newest first. It tells the clock, each row's
-- unended job with its kind, arrival and block, and the free blocks. It is lawful if each answer is one that the rules
-- allow. Each record below says what is never seen at any point of a lawful history; `rows` are the rows of the plan,
-- `free₀` the blocks that were free at opening.
use Rattle.std.specs.Prelude.{◌≡◌, ℕ, ◌+◌, ◌<◌, ◌≤◌, Bool, true, false, ◌⊎◌, List, [], ◌∷◌, length, take, Some, slice_index_or, Err}
use Rattle.row.specs.Rows.{short_of, long_of, is_track}
use Rattle.row.specs.declared.faults.Fault.{Fault}
use Rattle.row.specs.declared.faults.Refusal.TheVariants.{NoFreeBlock}
use Rattle.row.specs.declared.rows.Kind.{Kind}
use Rattle.row.specs.declared.rows.Kind.TheVariants.{Normal, Abnormal}
use Rattle.row.specs.declared.rows.Row.{Row}
use Rattle.judge.specs.Accepted.{Accepted}
use Rattle.judge.specs.Bounds.{NormalBound, MixedBound, LongBound}
use Rattle.judge.specs.declared.bounds.Bounds.{Bounds}
use Rattle.law.specs.declared.calls.Call.TheVariants.{Arrive}
use Rattle.law.specs.declared.calls.Job.{Job}
use Rattle.law.specs.Checks.{count}
use Rattle.law.specs.History.{History, clock_at, job_at, free_at, disturbed}
use Rattle.law.specs.Rules.{Lawful}
use Rattle.law.specs.State.{row_at}

-- m is the bound of a job of track r below the rows `above`: the mixed bound if the job is normal, the long bound if it is abnormal
abbrev pub TrackBound : List Row → Row → Kind → ℕ → Type 0
TrackBound above r Normal m = MixedBound above (short_of r) m
TrackBound above r Abnormal m = LongBound above (long_of r) m

-- a track's job is unended though the clock has reached its arrival plus its bound
pub record LateTrack (rows : List Row) (h : History) : Type 0 where
  pub row : ℕ
  pub track : is_track (row_at rows row) ≡ true
  pub mine : Job
  pub unended : job_at rows h row ≡ Some mine
  pub bound : ℕ
  pub is_bound : TrackBound (take row rows) (row_at rows row) mine.kind bound
  pub late : mine.arrival + bound ≤ clock_at h

-- the same of a helper's job and its normal bound, though no abnormal arrival was admitted since that job arrived
pub record LateHelper (rows : List Row) (h : History) : Type 0 where
  pub row : ℕ
  pub helper : is_track (row_at rows row) ≡ false
  pub mine : Job
  pub unended : job_at rows h row ≡ Some mine
  pub undisturbed : disturbed h row ≡ false
  pub bound : ℕ
  pub is_bound : NormalBound (take row rows) (short_of (row_at rows row)) bound
  pub late : mine.arrival + bound ≤ clock_at h

-- an unended job of row r holds block b
pub record Holds (rows : List Row) (h : History) (r b : ℕ) : Type 0 where
  pub mine : Job
  pub unended : job_at rows h r ≡ Some mine
  pub block : mine.block ≡ b

-- two unended jobs hold one block
abbrev pub Shared : List Row → History → Type 0
Shared rows h = (q r b : ℕ) × (q < r) × Holds rows h q b × Holds rows h r b

-- a block that was free at opening is neither free now nor held, or is both
abbrev pub Strayed : List Row → List Bool → List Bool → History → Type 0
Strayed rows free₀ now h = (b : ℕ) × (slice_index_or free₀ b false ≡ true)
    × (((slice_index_or now b false ≡ false) × ((r : ℕ) → Holds rows h r b → ⊥)) ⊎ ((slice_index_or now b false ≡ true) × ((r : ℕ) × Holds rows h r b)))

-- the newest call is an arrival refused for want of a block, though as many blocks were free at opening as the plan has rows
abbrev pub Starved : List Row → List Bool → History → Type 0
Starved rows free₀ [] = ⊥
Starved rows free₀ (e ∷ h) = (r : ℕ) × (k : Kind) × (f : Fault)
    × (e.call ≡ Arrive r k) × (e.answer ≡ Err f) × (f.refusal ≡ NoFreeBlock) × (length rows ≤ count free₀)

-- at the end of the history h none of these is seen
pub record Sound (rows : List Row) (free₀ : List Bool) (h : History) : Type 0 where
  pub tracks : LateTrack rows h → ⊥
  pub helpers : LateHelper rows h → ⊥
  pub apart : Shared rows h → ⊥
  pub kept : Strayed rows free₀ (free_at rows free₀ h) h → ⊥
  pub enough : Starved rows free₀ h → ⊥

-- P holds at the end of a history and at every point before
abbrev pub Throughout : (History → Type 0) → History → Type 0
Throughout P [] = P []
Throughout P (e ∷ h) = P (e ∷ h) × Throughout P h

-- The law: for every accepted plan and whichever blocks were free at opening, every lawful history is sound throughout.
-- (That the plan is accepted says that each row has its bounds, and that they are within its deadline.)
abbrev pub TheLaw : Type 0
TheLaw = (rows : List Row) (bounds : List Bounds) → Accepted rows bounds →
    (number : ℕ) (free₀ : List Bool) (h : History) → Lawful rows number free₀ h → Throughout (Sound rows free₀) h
