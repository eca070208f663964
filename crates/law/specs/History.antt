-- Histories of calls and answers, and what they tell of a session: its clock, jobs, mode, open turn and free blocks.
-- Assumes nothing.
use Rattle.std.specs.Prelude.{ℕ, zero, suc, Bool, false, cond, ◌||◌, List, [], ◌∷◌, length, Some, None, Option, ◌==◌, slice_index_or, Ok}
use Rattle.row.specs.declared.rows.Kind.{Kind}
use Rattle.row.specs.declared.rows.Kind.TheVariants.{Normal}
use Rattle.row.specs.declared.rows.Row.{Row}
use Rattle.law.specs.Answer.{Answer}
use Rattle.law.specs.declared.calls.Reply.TheVariants.{Done}
use Rattle.law.specs.declared.calls.Call.{Call}
use Rattle.law.specs.declared.calls.Call.TheVariants.{Begin, Report}
use Rattle.law.specs.declared.calls.Job.{Job}
use Rattle.law.specs.declared.calls.Outcome.TheVariants.{Idle}
use Rattle.law.specs.declared.calls.Step.{Step}
use Rattle.law.specs.declared.calls.Step.TheVariants.{Given, ReportOpen}
use Rattle.law.specs.declared.calls.TurnNumbers.{TurnNumbers}
use Rattle.law.specs.State.{State, Change, admits, opens, reports, nothing, change, clock_after, job_after, ready_after, mode_after, open_turn_after, free_after, quiet_below, is_abnormal}

-- a call with its answer
pub record Event : Type 0 where
  pub call : Call
  pub answer : Answer

-- the newest event comes first, and at opening there is none
abbrev pub History : Type 0
History = List Event

abbrev pub change_of : Event → Change
change_of e = change e.call e.answer

-- the clock is the number of accepted reports
abbrev pub clock_at : History → ℕ
clock_at [] = 0
clock_at (e ∷ h) = clock_after (change_of e) (clock_at h)

-- The unended job of row r. A job is an admitted arrival: it arrived at the clock then, its kind is as asked, its block is
-- the answer. Its ticks are the accepted reports, since then, of turns for its row. It ends with the first of these that
-- says finished or brings its ticks to its budget.
abbrev pub job_at : List Row → History → ℕ → Option Job
job_at rows [] r = None
job_at rows (e ∷ h) r = job_after rows (change_of e) (clock_at h) r (job_at rows h r)

-- the clock from which row r may arrive again: the clock at its last admitted arrival plus its period, and 0 before the first
abbrev pub ready_at : List Row → History → ℕ → ℕ
ready_at rows [] r = 0
ready_at rows (e ∷ h) r = ready_after rows (change_of e) (clock_at h) r (ready_at rows h r)

-- the mode is abnormal from an abnormal job's arrival until no job is unended
abbrev pub mode_at : List Row → History → Kind
mode_at rows [] = Normal
mode_at rows (e ∷ h) = mode_after (change_of e) (quiet_below (length rows) (job_at rows (e ∷ h))) (mode_at rows h)

-- the open turn is the one last begun, if it has not been reported
abbrev pub open_turn_at : History → Option TurnNumbers
open_turn_at [] = None
open_turn_at (e ∷ h) = open_turn_after (change_of e) (open_turn_at h)

-- the free blocks are those at opening, without those that arrivals took, with those that went back
abbrev pub free_at : List Row → List Bool → History → List Bool
free_at rows free₀ [] = free₀
free_at rows free₀ (e ∷ h) = free_after rows (change_of e) (job_at rows h) (free_at rows free₀ h)

-- the state that a history tells
abbrev pub state_at : List Row → List Bool → History → State
state_at rows free₀ h = record { clock = clock_at h; mode = mode_at rows h; job = job_at rows h; ready = ready_at rows h; open_turn = open_turn_at h; free = free_at rows free₀ h }

-- whether an abnormal arrival was admitted after the last admitted arrival of row r
abbrev pub disturbed_after : Change → ℕ → Bool → Bool
disturbed_after (admits q k b) r before = cond (q == r) false (is_abnormal k || before)
disturbed_after (opens t) r before = before
disturbed_after (reports t f) r before = before
disturbed_after nothing r before = before

abbrev pub disturbed : History → ℕ → Bool
disturbed [] r = false
disturbed (e ∷ h) r = disturbed_after (change_of e) r (disturbed h r)

-- The call that a step comes to when this turn is open. Where none is, a report of the open turn has only an idle
-- turn to bring, which is refused like any other.
abbrev pub no_turn : TurnNumbers
no_turn = record { number = 0; clock = 0; work = None }

abbrev pub made : Option TurnNumbers → Step → Call
made o (Given c) = c
made (Some t) (ReportOpen finished) = Report t finished
made None (ReportOpen finished) = Report no_turn finished

-- The history of the first n lines of a list, whose answers were written to a log. `makes` gives the call that a line
-- makes when this turn is open, and `past` is the line that is read past the end of the list.
abbrev pub logged_by : {L : Type 0} → (Option TurnNumbers → L → Call) → L → List L → List Answer → ℕ → History
logged_by makes past lines log zero = []
logged_by makes past lines log (suc n) =
    let before : History = logged_by makes past lines log n in
    record { call = makes (open_turn_at before) (slice_index_or lines n past); answer = slice_index_or log n (Ok (Done Idle)) } ∷ before

-- of a list of calls, each of which is made as it stands
abbrev pub logged : List Call → List Answer → ℕ → History
logged calls log n = logged_by (λ o c. c) Begin calls log n

-- of a list of steps
abbrev pub logged_steps : List Step → List Answer → ℕ → History
logged_steps steps log n = logged_by made (Given Begin) steps log n
