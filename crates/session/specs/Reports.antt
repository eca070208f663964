-- What an accepted report makes of a session before its clock goes on. Assumes nothing.
use Rattle.std.specs.Prelude.{◌≡◌, ℕ, Bool, cond, List, Option}
use Rattle.law.specs.declared.calls.Work.{Work}
use Rattle.law.specs.State.{row_at, is_for, after_tick, back_from, with_block}
use Rattle.session.specs.View.{rows_in, job_of, ready_of, Tied}
use Rattle.session.specs.declared.session.Session.{Session}

-- s' is the session s with one more tick for the job that the turn was for; a job that this ended has left the board and
-- given its block back
pub record Worked {B P : Type 0} (on : B → List Bool) (free : P → List Bool) (s : Session B P) (w : Option Work) (finished : Bool) (s' : Session B P) : Type 0 where
  pub plan : s'.plan ≡ s.plan
  pub number : s'.number ≡ s.number
  pub clock : s'.clock ≡ s.clock
  pub mode : s'.mode ≡ s.mode
  pub ready : (r : ℕ) → ready_of s' r ≡ ready_of s r
  pub jobs : (r : ℕ) → job_of s' r ≡ cond (is_for w r) (after_tick (row_at (rows_in s) r) finished (job_of s r)) (job_of s r)
  pub blocks : free s'.pool ≡ with_block (back_from (rows_in s) (job_of s) finished w) (free s.pool)
  pub tied : Tied on s → Tied on s'
