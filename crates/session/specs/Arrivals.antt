-- An arrival in two steps: the checks, up to the want of a block, which is seen when one is taken; and the change. Assumes nothing.
use Rattle.std.specs.Prelude.{◌≡◌, ℕ, ◌+◌, ◌<◌, ◌≤◌, Bool, cond, List, length, Some, None, Ok, Err, Option, Result, ◌==◌, slice_set}
use Rattle.row.specs.Rows.{period_of}
use Rattle.row.specs.declared.faults.Fault.{Fault}
use Rattle.row.specs.declared.faults.Refusal.TheVariants.{NoFreeBlock}
use Rattle.row.specs.declared.rows.Kind.{Kind}
use Rattle.row.specs.declared.rows.Row.{Row}
use Rattle.law.specs.declared.calls.Call.TheVariants.{Arrive}
use Rattle.law.specs.Checks.{count, checks, first_fault}
use Rattle.law.specs.State.{State, row_at, new_job, mode_with}
use Rattle.sets.specs.Sets.{joined}
use Rattle.session.specs.Faults.{fault_in}
use Rattle.session.specs.declared.faults.SessionFault.{SessionFault}
use Rattle.session.specs.declared.session.Session.{Session}

-- row r of the plan, or none past the last
abbrev pub RowOf : List Row → ℕ → Option Row → Type 0
RowOf rows r (Some a) = (r < length rows) × (row_at rows r ≡ a)
RowOf rows r None = length rows ≤ r

-- the last check of an arrival: whether a block is wanting
abbrev pub wanting : State → ℕ → Option Fault
wanting s r = cond (count s.free == 0) (Some (fault_in (record { refusal = NoFreeBlock; place = r }))) None

-- what all checks come to, when those before the last came to this: the same fault, or else what the last one gives
abbrev pub Checked : Option Fault → State → ℕ → Result Unit SessionFault → Type 0
Checked all s r (Err e) = all ≡ Some (fault_in e)
Checked all s r (Ok _) = all ≡ wanting s r

-- an arrival is refused by this fault; or it is of this row of the plan, and is admitted if no block is wanting
abbrev pub Admissible : List Row → State → ℕ → Kind → Result Row SessionFault → Type 0
Admissible rows s r k (Err e) = first_fault (checks rows s (Arrive r k)) ≡ Some (fault_in e)
Admissible rows s r k (Ok a) = (r < length rows) × (row_at rows r ≡ a) × (first_fault (checks rows s (Arrive r k)) ≡ wanting s r)

-- s' is the session s with a new job of row r, which is the row a of the plan; the pool is as it was
pub record Admitted {B P : Type 0} (on : B → List Bool) (s : Session B P) (a : Row) (r : ℕ) (k : Kind) (b : ℕ) (s' : Session B P) : Type 0 where
  pub plan : s'.plan ≡ s.plan
  pub board : on s'.board ≡ joined (on s.board) r
  pub pool : s'.pool ≡ s.pool
  pub number : s'.number ≡ s.number
  pub clock : s'.clock ≡ s.clock
  pub mode : s'.mode ≡ mode_with k s.mode
  pub rows : s'.rows ≡ slice_set s.rows r (record { job = Some (new_job k s.clock b); ready = s.clock + period_of a })
  pub turn : s'.turn ≡ s.turn
