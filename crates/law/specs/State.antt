-- What there is to know of a session at one point, and what a call with its answer makes of it. Assumes nothing.
use Rattle.std.specs.Prelude.{ℕ, zero, suc, ◌+◌, Bool, true, false, cond, not, ◌&&◌, ◌||◌, List, length, is_some, Some, None, Option, ◌==◌, nat_le, slice_index_or, slice_set, Ok, Err}
use Rattle.std.proofs.Common.{lit≤, Ok, Err}
use Rattle.row.specs.Rows.{period_of, short_of, long_of}
use Rattle.row.specs.declared.rows.Kind.{Kind}
use Rattle.row.specs.declared.rows.Kind.TheVariants.{Normal, Abnormal}
use Rattle.row.specs.declared.rows.Row.{Row}
use Rattle.row.specs.declared.rows.Row.TheVariants.{Helper}
use Rattle.law.specs.Answer.{Answer}
use Rattle.law.specs.declared.calls.Reply.TheVariants.{Block, Turn, Done}
use Rattle.law.specs.declared.calls.Call.{Call}
use Rattle.law.specs.declared.calls.Call.TheVariants.{Arrive, Begin, Report}
use Rattle.law.specs.declared.calls.Job.{Job}
use Rattle.law.specs.declared.calls.TurnNumbers.{TurnNumbers}
use Rattle.law.specs.declared.calls.Work.{Work}

pub record State : Type 0 where
  pub clock : ℕ
  pub mode : Kind
  -- the unended job of each row
  pub job : ℕ → Option Job
  -- the clock from which each row may arrive again
  pub ready : ℕ → ℕ
  -- the turn that was begun and is not reported
  pub open_turn : Option TurnNumbers
  -- the pool's free blocks
  pub free : List Bool

-- row r of the plan; of a number outside the plan nothing is asked, and the least row stands for it
abbrev pub least_row : Row
least_row = Helper (record { period = 1; deadline = 1; short = 1; limits = (lit≤ tt, lit≤ tt, lit≤ tt, lit≤ tt, lit≤ tt) })

abbrev pub row_at : List Row → ℕ → Row
row_at rows r = slice_index_or rows r least_row

-- what a call with its answer changes: an arrival is admitted, a turn is opened, a report is accepted, or nothing changes
pub data Change : Type 0 where
  admits : ℕ → Kind → ℕ → Change
  opens : TurnNumbers → Change
  reports : TurnNumbers → Bool → Change
  nothing : Change

abbrev pub change : Call → Answer → Change
change (Arrive r k) (Ok (Block b)) = admits r k b
change (Arrive r k) (Ok (Turn t)) = nothing
change (Arrive r k) (Ok (Done o)) = nothing
change Begin (Ok (Block b)) = nothing
change Begin (Ok (Turn t)) = opens t
change Begin (Ok (Done o)) = nothing
change (Report t f) (Ok (Block b)) = nothing
change (Report t f) (Ok (Turn u)) = nothing
change (Report t f) (Ok (Done o)) = reports t f
change c (Err f) = nothing

-- the clock counts the accepted reports
abbrev pub clock_after : Change → ℕ → ℕ
clock_after (admits r k b) c = c
clock_after (opens t) c = c
clock_after (reports t f) c = c + 1
clock_after nothing c = c

-- the budget of a job of row r: the short one if it is normal, the long one if it is abnormal
abbrev pub budget_of : Row → Kind → ℕ
budget_of r Normal = short_of r
budget_of r Abnormal = long_of r

-- the job that an arrival at clock c makes
abbrev pub new_job : Kind → ℕ → ℕ → Job
new_job k c b = record { kind = k; arrival = c; block = b; ticks = 0 }

-- job j with one more tick
abbrev pub ticked : Job → Job
ticked j = record { kind = j.kind; arrival = j.arrival; block = j.block; ticks = j.ticks + 1 }

-- whether one more tick ends job j of row r: the report says finished, or it brings the ticks to the budget
abbrev pub ends : Row → Bool → Job → Bool
ends r finished j = finished || nat_le (budget_of r j.kind) (j.ticks + 1)

-- what is left of a row's unended job after one more tick
abbrev pub after_tick : Row → Bool → Option Job → Option Job
after_tick r finished (Some j) = cond (ends r finished j) None (Some (ticked j))
after_tick r finished None = None

-- whether a turn is for row r
abbrev pub is_for : Option Work → ℕ → Bool
is_for (Some w) r = w.row == r
is_for None r = false

-- row r's unended job, at clock c: an admitted arrival of r makes one, a report of a turn for r gives it a tick
abbrev pub job_after : List Row → Change → ℕ → ℕ → Option Job → Option Job
job_after rows (admits q k b) c r o = cond (q == r) (Some (new_job k c b)) o
job_after rows (opens t) c r o = o
job_after rows (reports t f) c r o = cond (is_for t.work r) (after_tick (row_at rows r) f o) o
job_after rows nothing c r o = o

-- the clock from which row r may arrive again: a period after its last admitted arrival
abbrev pub ready_after : List Row → Change → ℕ → ℕ → ℕ → ℕ
ready_after rows (admits q k b) c r from = cond (q == r) (c + period_of (row_at rows r)) from
ready_after rows (opens t) c r from = from
ready_after rows (reports t f) c r from = from
ready_after rows nothing c r from = from

-- whether none of the first n rows has an unended job
abbrev pub quiet_below : ℕ → (ℕ → Option Job) → Bool
quiet_below zero jobs = true
quiet_below (suc n) jobs = not (is_some (jobs n)) && quiet_below n jobs

abbrev pub is_abnormal : Kind → Bool
is_abnormal Normal = false
is_abnormal Abnormal = true

-- an abnormal arrival makes the mode abnormal
abbrev pub mode_with : Kind → Kind → Kind
mode_with Normal m = m
mode_with Abnormal m = Abnormal

-- and a report after which no job is unended makes it normal
abbrev pub mode_after : Change → Bool → Kind → Kind
mode_after (admits r k b) quiet m = mode_with k m
mode_after (opens t) quiet m = m
mode_after (reports t f) quiet m = cond quiet Normal m
mode_after nothing quiet m = m

abbrev pub open_turn_after : Change → Option TurnNumbers → Option TurnNumbers
open_turn_after (admits r k b) o = o
open_turn_after (opens t) o = Some t
open_turn_after (reports t f) o = None
open_turn_after nothing o = o

-- the block that goes back when a row's unended job has one more tick: its own, if that ends it
abbrev pub given_back : Row → Bool → Option Job → Option ℕ
given_back r finished (Some j) = cond (ends r finished j) (Some j.block) None
given_back r finished None = None

abbrev pub back_from : List Row → (ℕ → Option Job) → Bool → Option Work → Option ℕ
back_from rows jobs finished (Some w) = given_back (row_at rows w.row) finished (jobs w.row)
back_from rows jobs finished None = None

abbrev pub with_block : Option ℕ → List Bool → List Bool
with_block (Some b) blocks = slice_set blocks b true
with_block None blocks = blocks

-- the free blocks: an admitted arrival takes its block, and a job that ends gives its own back
abbrev pub free_after : List Row → Change → (ℕ → Option Job) → List Bool → List Bool
free_after rows (admits r k b) jobs blocks = slice_set blocks b false
free_after rows (opens t) jobs blocks = blocks
free_after rows (reports t f) jobs blocks = with_block (back_from rows jobs f t.work) blocks
free_after rows nothing jobs blocks = blocks

-- the state after a change
abbrev pub after : List Row → State → Change → State
after rows s x =
    let jobs : ℕ → Option Job = λ r. job_after rows x s.clock r (s.job r) in
    record {
      clock = clock_after x s.clock;
      mode = mode_after x (quiet_below (length rows) jobs) s.mode;
      job = jobs;
      ready = λ r. ready_after rows x s.clock r (s.ready r);
      open_turn = open_turn_after x s.open_turn;
      free = free_after rows x s.job s.free;
    }
