-- The rules of a session: which answer a call gets. Assumes nothing.
--
-- A call to which a check applies is refused by the first that does. Otherwise an arrival is answered by a free block,
-- begin by a turn for the smallest row with an unended job or an idle turn where there is none, and a report by what
-- became of the job that the turn was for. Which free block an arrival gets is all that the rules leave open.
use Rattle.std.specs.Prelude.{◌≡◌, ℕ, ◌<◌, Bool, true, false, cond, List, [], ◌∷◌, Some, None, Option, slice_index_or, Ok, Err}
use Rattle.row.specs.declared.faults.Fault.{Fault}
use Rattle.row.specs.declared.rows.Row.{Row}
use Rattle.law.specs.Answer.{Answer}
use Rattle.law.specs.declared.calls.Reply.TheVariants.{Block, Turn, Done}
use Rattle.law.specs.declared.calls.Call.{Call}
use Rattle.law.specs.declared.calls.Call.TheVariants.{Arrive, Begin, Report}
use Rattle.law.specs.declared.calls.Job.{Job}
use Rattle.law.specs.declared.calls.Outcome.{Outcome}
use Rattle.law.specs.declared.calls.Outcome.TheVariants.{Idle, GoesOn, Finished, Cut}
use Rattle.law.specs.declared.calls.TurnNumbers.{TurnNumbers}
use Rattle.law.specs.declared.calls.Work.{Work}
use Rattle.law.specs.Checks.{checks, first_fault}
use Rattle.law.specs.History.{History, state_at}
use Rattle.law.specs.State.{State, row_at, ends}

-- w is due: its row is the smallest with an unended job, and its block is the one that this job holds
pub record Due (jobs : ℕ → Option Job) (w : Work) : Type 0 where
  pub mine : Job
  pub unended : jobs w.row ≡ Some mine
  pub block : w.block ≡ mine.block
  pub smallest : (q : ℕ) → q < w.row → jobs q ≡ None

-- the work that is due, or none where no job is unended
abbrev pub WorkDue : (ℕ → Option Job) → Option Work → Type 0
WorkDue jobs (Some w) = Due jobs w
WorkDue jobs None = (r : ℕ) → jobs r ≡ None

-- t is the turn that begin opens: it tells the session's number, the clock, and the work that is due
pub record Opens (number : ℕ) (s : State) (t : TurnNumbers) : Type 0 where
  pub of_session : t.number ≡ number
  pub at_clock : t.clock ≡ s.clock
  pub for_work : WorkDue s.job t.work

-- what becomes of a row's unended job that has one more tick: it is finished, or cut by its budget, or goes on
abbrev pub outcome_of : Row → Bool → Option Job → Outcome
outcome_of r finished (Some j) = cond finished Finished (cond (ends r finished j) Cut GoesOn)
outcome_of r finished None = Idle

abbrev pub outcome : List Row → State → Bool → Option Work → Outcome
outcome rows s finished (Some w) = outcome_of (row_at rows w.row) finished (s.job w.row)
outcome rows s finished None = Idle

-- the answers to a call to which no check applies
abbrev pub Accepts : List Row → ℕ → State → Call → Answer → Type 0
Accepts rows number s (Arrive r k) a = (b : ℕ) × (a ≡ Ok (Block b)) × (slice_index_or s.free b false ≡ true)
Accepts rows number s Begin a = (t : TurnNumbers) × (a ≡ Ok (Turn t)) × Opens number s t
Accepts rows number s (Report t finished) a = a ≡ Ok (Done (outcome rows s finished t.work))

-- the answers to a call whose checks gave this fault, or gave none
abbrev pub Answers : List Row → ℕ → State → Call → Answer → Option Fault → Type 0
Answers rows number s c a (Some fault) = a ≡ Err fault
Answers rows number s c a None = Accepts rows number s c a

-- a is an answer that the rules allow to the call c in the state s
abbrev pub Rules : List Row → ℕ → State → Call → Answer → Type 0
Rules rows number s c a = Answers rows number s c a (first_fault (checks rows s c))

-- each answer in the history is one that the rules allow at that point
abbrev pub Lawful : List Row → ℕ → List Bool → History → Type 0
Lawful rows number free₀ [] = Unit {0}
Lawful rows number free₀ (e ∷ h) = Lawful rows number free₀ h × Rules rows number (state_at rows free₀ h) e.call e.answer
