-- States without their blocks: what a change makes of them depends on no block. Assumes nothing.
use Rattle.std.proofs.Common.{◌≡◌, ℕ, zero, suc, Bool, true, false, cond, not, ◌&&◌, eqb, List, [], ◌∷◌, length, is_some, Some, None, Option, sym, refl, ap, ◌∙◌}
use Rattle.row.specs.declared.rows.Kind.TheVariants.{Normal}
use Rattle.row.specs.declared.rows.Row.{Row}
use Rattle.law.specs.declared.calls.Job.{Job}
use Rattle.law.specs.declared.calls.TurnNumbers.{TurnNumbers}
use Rattle.law.specs.declared.calls.Work.{Work}
use Rattle.law.specs.Rules.{outcome, outcome_of}
use Rattle.law.specs.State.{State, Change, admits, opens, reports, nothing, after, row_at, is_for, after_tick, ends, ticked, job_after, quiet_below}
use Rattle.law.proofs.Represents.{same_state}
use Rattle.cases.specs.Run.{work_without, turn_without}

abbrev pub job_without : Option Job → Option Job
job_without (Some j) = Some (record { kind = j.kind; arrival = j.arrival; block = 0; ticks = j.ticks })
job_without None = None

abbrev pub open_without : Option TurnNumbers → Option TurnNumbers
open_without (Some t) = Some (turn_without t)
open_without None = None

abbrev pub change_without : Change → Change
change_without (admits r k b) = admits r k 0
change_without (opens t) = opens (turn_without t)
change_without (reports t f) = reports (turn_without t) f
change_without nothing = nothing

-- a state without its blocks; one free block stands for any
abbrev pub outline : State → State
outline s = record { clock = s.clock; mode = s.mode; job = λ r. job_without (s.job r); ready = s.ready; open_turn = open_without s.open_turn; free = true ∷ [] }

pub is_job : (o : Option Job) → is_some (job_without o) ≡ is_some o
is_job (Some j) = refl
is_job None = refl

pub is_open_lem : (o : Option TurnNumbers) → is_some (open_without o) ≡ is_some o
is_open_lem (Some t) = refl
is_open_lem None = refl

pub is_work : (o : Option Work) → is_some (work_without o) ≡ is_some o
is_work (Some w) = refl
is_work None = refl

is_for_lem : (w : Option Work) (r : ℕ) → is_for w r ≡ is_for (work_without w) r
is_for_lem (Some w) r = refl
is_for_lem None r = refl

pub quiet_same : (n : ℕ) (f g : ℕ → Option Job) → ((r : ℕ) → is_some (f r) ≡ is_some (g r)) → quiet_below n f ≡ quiet_below n g
quiet_same zero f g e = refl
quiet_same (suc n) f g e = λ i. not (e n i) && quiet_same n f g e i

module _ (rows : List Row) where
  tick-without : (r : Row) (f : Bool) (o : Option Job) → job_without (after_tick r f o) ≡ after_tick r f (job_without o)
  tick-without r f (Some j) = by (ends r f j)
    where
      by : (b : Bool) → job_without (cond b None (Some (ticked j))) ≡ cond b None (job_without (Some (ticked j)))
      by true = refl
      by false = refl
  tick-without r f None = refl

  cond_without : (b : Bool) (o p : Option Job) → job_without (cond b o p) ≡ cond b (job_without o) (job_without p)
  cond_without true o p = refl
  cond_without false o p = refl

  -- a change of a state, and the same change of its outline
  job-without : (x : Change) (c r : ℕ) (o : Option Job) → job_without (job_after rows x c r o) ≡ job_after rows (change_without x) c r (job_without o)
  job-without (admits q k b) c r o = cond_without (eqb q r) _ o
  job-without (opens t) c r o = refl
  job-without (reports t f) c r o =
      cond_without (is_for t.work r) (after_tick (row_at rows r) f o) o
      ∙ (λ i. cond (is_for_lem t.work r i) (tick-without (row_at rows r) f o i) (job_without o))
  job-without nothing c r o = refl

  -- the outline after a change
  abbrev pub next : State → Change → State
  next s x = let t = after rows s x in record { clock = t.clock; mode = t.mode; job = t.job; ready = t.ready; open_turn = t.open_turn; free = true ∷ [] }

  pub outline_after : (s : State) (x : Change) → outline (after rows s x) ≡ next (outline s) (change_without x)
  outline_after s (admits q k b) = same_state _ _ refl refl (λ r. job-without (admits q k b) s.clock r (s.job r)) (λ r. refl) refl refl
  outline_after s (opens t) = refl
  outline_after s (reports t f) = same_state _ _ refl (ap (λ q. cond q Normal s.mode) quiet) jobs (λ r. refl) refl refl
    where
      jobs : (r : ℕ) → (outline (after rows s (reports t f))).job r ≡ (next (outline s) (change_without (reports t f))).job r
      jobs r = job-without (reports t f) s.clock r (s.job r)

      quiet : quiet_below (length rows) (after rows s (reports t f)).job ≡ quiet_below (length rows) (next (outline s) (change_without (reports t f))).job
      quiet = quiet_same (length rows) _ _ (λ r. sym (is_job ((after rows s (reports t f)).job r)) ∙ ap is_some (jobs r))
  outline_after s nothing = refl

-- what becomes of a job does not depend on its block
pub outcome-without : (rows : List Row) (s : State) (f : Bool) (w : Option Work) → outcome rows s f w ≡ outcome rows (outline s) f (work_without w)
outcome-without rows s f (Some w) = by (s.job w.row)
  where
    by : (o : Option Job) → outcome_of (row_at rows w.row) f o ≡ outcome_of (row_at rows w.row) f (job_without o)
    by (Some j) = refl
    by None = refl
outcome-without rows s f None = refl
