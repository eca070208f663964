-- A session as the law sees it. Assumes nothing.
use Rattle.std.specs.Prelude.{◌≡◌, ℕ, Bool, false, List, ◌∷◌, is_some, Option, slice_index_or}
use Rattle.row.specs.declared.rows.Row.{Row}
use Rattle.judge.specs.Plan.{rows_of}
use Rattle.law.specs.Answer.{Answer}
use Rattle.law.specs.declared.calls.Call.{Call}
use Rattle.law.specs.declared.calls.Job.{Job}
use Rattle.law.specs.History.{History}
use Rattle.law.specs.Law.{Sound, Throughout}
use Rattle.law.specs.Represents.{Represents}
use Rattle.law.specs.Rules.{Rules}
use Rattle.law.specs.State.{State, after, change}
use Rattle.session.specs.RowStates.{new_row}
use Rattle.session.specs.declared.session.Session.{Session}

module _ {B P : Type 0} where
  -- the rows of the plan that the session runs
  abbrev pub rows_in : Session B P → List Row
  rows_in s = rows_of s.plan.now

  -- the unended job of row r
  abbrev pub job_of : Session B P → ℕ → Option Job
  job_of s r = (slice_index_or s.rows r new_row).job

  -- the clock from which row r may arrive again
  abbrev pub ready_of : Session B P → ℕ → ℕ
  ready_of s r = (slice_index_or s.rows r new_row).ready

  -- the state of a session, where these blocks are free
  abbrev pub state_of : List Bool → Session B P → State
  state_of blocks s = record { clock = s.clock; mode = s.mode; job = job_of s; ready = ready_of s; open_turn = s.turn; free = blocks }

  -- The state of a session. What a board and a pool mean comes with them: `on` gives the rows on a board, `free` the
  -- free blocks of a pool.
  abbrev pub view : (P → List Bool) → Session B P → State
  view free s = state_of (free s.pool) s

  -- the rows on the board are those with an unended job
  abbrev pub Tied : (B → List Bool) → Session B P → Type 0
  Tied on s = (r : ℕ) → slice_index_or (on s.board) r false ≡ is_some (job_of s r)

  -- the answer a to the call c is one that the rules allow
  abbrev pub Allowed : (P → List Bool) → Session B P → Call → Answer → Type 0
  Allowed free s c a = Rules (rows_in s) s.number (view free s) c a

  -- s' is what the call c and its answer a make of s
  abbrev pub Next : (P → List Bool) → Session B P → Call → Answer → Session B P → Type 0
  Next free s c a s' = view free s' ≡ after (rows_in s) (view free s) (change c a)

  -- The session s was opened on a plan of these rows, under this number, when the blocks of free₀ were free, and h is the
  -- history of its calls since: it is lawful and tells the state of s. The board has the rows with an unended job.
  pub record Follows (rows : List Row) (number : ℕ) (free₀ : List Bool) (h : History) (on : B → List Bool) (free : P → List Bool) (s : Session B P) : Type 0 where
    pub plan : rows_in s ≡ rows
    pub own : s.number ≡ number
    pub tied : Tied on s
    pub history : Represents rows number free₀ h (view free s)

  -- whatever the history of s is, that of s' is the same with the call c and its answer a
  abbrev pub Extended : (B → List Bool) → (P → List Bool) → Session B P → Call → Answer → Session B P → Type 0
  Extended on free s c a s' = (rows : List Row) (number : ℕ) (free₀ : List Bool) (h : History)
      → Follows rows number free₀ h on free s → Follows rows number free₀ (record { call = c; answer = a } ∷ h) on free s'

  -- whatever the history of s is, the law held throughout
  abbrev pub SoundSoFar : (B → List Bool) → (P → List Bool) → Session B P → Type 0
  SoundSoFar on free s = (rows : List Row) (number : ℕ) (free₀ : List Bool) (h : History) → Follows rows number free₀ h on free s → Throughout (Sound rows free₀) h
