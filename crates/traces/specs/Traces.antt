-- What the answers of a session make of a trace. Assumes nothing.
use Rattle.std.specs.Prelude.{◌≡◌, ℕ, ◌+◌, ◌<◌, Bool, true, false, cond, not, List, [], ◌∷◌, ◌++◌, is_none, is_some, Some, None, vec_items, vec_len, Option, nat_eq, nat_lt, slice_index_or, slice_set, Ok, Err}
use Rattle.std.specs.List.{list_all}
use Rattle.std.specs.Option.{option_map}
use Rattle.row.specs.declared.rows.Kind.{Kind}
use Rattle.row.specs.declared.rows.Kind.TheVariants.{Normal, Abnormal}
use Rattle.law.specs.State.{is_for, mode_with}
use Rattle.law.specs.Answer.{Answer}
use Rattle.law.specs.declared.calls.Reply.TheVariants.{Block, Turn, Done}
use Rattle.law.specs.declared.calls.Call.TheVariants.{Arrive, Begin, Report}
use Rattle.law.specs.declared.calls.Outcome.{Outcome}
use Rattle.law.specs.declared.calls.Outcome.TheVariants.{Idle, GoesOn, Finished, Cut}
use Rattle.law.specs.declared.calls.Step.{Step}
use Rattle.law.specs.declared.calls.Step.TheVariants.{Given, ReportOpen}
use Rattle.law.specs.declared.calls.Work.{Work}
use Rattle.traces.specs.Marks.{mark_of}
use Rattle.traces.specs.declared.marks.Mark.{Mark}
use Rattle.traces.specs.declared.marks.Mark.TheVariants.{Absent}
use Rattle.traces.specs.declared.trace.End.{End}
use Rattle.traces.specs.declared.trace.JobLine.{JobLine}
use Rattle.traces.specs.declared.trace.Tick.{Tick}
use Rattle.traces.specs.declared.trace.Trace.{Trace}
use Rattle.traces.specs.declared.trace.Unended.{Unended}

-- the clock counts the ticks
abbrev pub clock_of : Trace → ℕ
clock_of t = vec_len t.ticks

-- of an unended job, whether it arrived at this clock
abbrev pub arrives : ℕ → Option Unended → Option Bool
arrives clock job = option_map (λ u. nat_eq u.arrival clock) job

-- what became of row r's job, if the tick went to r
abbrev pub outcome_of : Option Work → Outcome → ℕ → Option Outcome
outcome_of w o r = cond (is_for w r) (Some o) None

-- the mark of row r in the tick that is next
abbrev pub mark_at : Trace → Option Work → Outcome → ℕ → Mark
mark_at t w o r = mark_of (arrives (clock_of t) (slice_index_or t.unended r None)) (outcome_of w o r)

-- c is the column of the tick that is next, where it goes to this work
pub record Column (t : Trace) (w : Option Work) (o : Outcome) (spare : Bool) (c : Tick) : Type 0 where
  pub mode : c.mode ≡ t.mode
  pub idle : c.idle ≡ spare
  pub marks : (r : ℕ) → r < 32 → slice_index_or c.marks r Absent ≡ mark_at t w o r

abbrev pub ends : Outcome → Bool
ends Idle = false
ends GoesOn = false
ends Finished = true
ends Cut = true

-- the unended job that a tick ends
abbrev pub ended_by : List (Option Unended) → Option Work → Outcome → Option Unended
ended_by jobs (Some w) o = cond (ends o) (slice_index_or jobs w.row None) None
ended_by jobs None o = None

abbrev pub left_by : List (Option Unended) → Option Work → Outcome → List (Option Unended)
left_by jobs (Some w) o = cond (ends o) (slice_set jobs w.row None) jobs
left_by jobs None o = jobs

-- whether no job is unended
abbrev pub quiet : List (Option Unended) → Bool
quiet jobs = list_all is_none jobs

-- a job's line with its end
abbrev pub ended_line : JobLine → End → JobLine
ended_line j e = record { row = j.row; kind = j.kind; arrival = j.arrival; end = Some e }

-- the lines after the end of a job, if one ends
abbrev pub Lines : List JobLine → Option Unended → (Unended → End) → List JobLine → Type 0
Lines before None e after = after ≡ before
Lines before (Some u) e after = (d : JobLine) → after ≡ slice_set before u.place (ended_line (slice_index_or before u.place d) (e u))

-- a job ends disturbed if an abnormal one came behind it
abbrev pub end_of : ℕ → ℕ → Outcome → Unended → End
end_of abnormal clock o u = record { clock = clock; outcome = o; disturbed = nat_lt u.place abnormal }

abbrev pub new_line : ℕ → Kind → ℕ → JobLine
new_line r k clock = record { row = r; kind = k; arrival = clock; end = None }

-- the place of the last abnormal job
abbrev pub abnormal_with : Kind → ℕ → ℕ → ℕ
abnormal_with Normal place before = before
abnormal_with Abnormal place before = place

-- an arrival is admitted
pub record Admitted (t : Trace) (r : ℕ) (k : Kind) (t' : Trace) : Type 0 where
  pub mode : t'.mode ≡ mode_with k t.mode
  pub work : t'.work ≡ t.work
  pub unended : t'.unended ≡ slice_set t.unended r (Some (record { place = vec_len t.jobs; arrival = clock_of t }))
  pub abnormal : t'.abnormal ≡ abnormal_with k (vec_len t.jobs) t.abnormal
  pub jobs : vec_items t'.jobs ≡ vec_items t.jobs ++ new_line r k (clock_of t) ∷ []
  pub ticks : t'.ticks ≡ t.ticks

-- a turn is opened
pub record Begun (t : Trace) (w : Option Work) (t' : Trace) : Type 0 where
  pub mode : t'.mode ≡ t.mode
  pub work : t'.work ≡ w
  pub unended : t'.unended ≡ t.unended
  pub abnormal : t'.abnormal ≡ t.abnormal
  pub jobs : t'.jobs ≡ t.jobs
  pub ticks : t'.ticks ≡ t.ticks

-- a report is accepted: one tick more
pub record Ticked (t : Trace) (o : Outcome) (t' : Trace) : Type 0 where
  pub mode : t'.mode ≡ cond (quiet t'.unended) Normal t.mode
  pub work : t'.work ≡ None
  pub unended : t'.unended ≡ left_by t.unended t.work o
  pub abnormal : t'.abnormal ≡ t.abnormal
  pub jobs : Lines (vec_items t.jobs) (ended_by t.unended t.work o) (end_of t.abnormal (clock_of t + 1) o) (vec_items t'.jobs)
  pub ticks : (c : Tick) × (vec_items t'.ticks ≡ vec_items t.ticks ++ c ∷ []) × Column t t.work o (not (is_some t.work)) c

-- what an answer makes of the trace
abbrev pub Noted : Step → Answer → Trace → Trace → Type 0
Noted (Given (Arrive r k)) (Ok (Block b)) t t' = Admitted t r k t'
Noted (Given Begin) (Ok (Block b)) t t' = t' ≡ t
Noted (Given (Report n f)) (Ok (Block b)) t t' = t' ≡ t
Noted (ReportOpen f) (Ok (Block b)) t t' = t' ≡ t
Noted s (Ok (Turn n)) t t' = Begun t n.work t'
Noted s (Ok (Done o)) t t' = Ticked t o t'
Noted s (Err f) t t' = t' ≡ t
