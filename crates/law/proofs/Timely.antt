-- Every row has its windows after every lawful history, so that no job is ever late. Assumes nothing.
use Rattle.std.proofs.Common.{◌≡◌, ℕ, ◌+◌, ◌<◌, ◌≤◌, Bool, List, [], ◌∷◌, length, take, Some, None, Option, sym, refl, ap, ◌∙◌, subst, inl, inr, arith, Ok}
use Rattle.std.proofs.lemmas.Bool.{cases_eq, cases_lt, cases_Bool, cond_both}
use Rattle.row.specs.Rows.{period_of}
use Rattle.row.specs.declared.rows.Kind.{Kind}
use Rattle.row.specs.declared.rows.Kind.TheVariants.{Normal, Abnormal}
use Rattle.row.specs.declared.rows.Row.{Row}
use Rattle.law.specs.Answer.{Answer}
use Rattle.law.specs.declared.calls.Reply.TheVariants.{Done}
use Rattle.law.specs.declared.calls.Call.{Call}
use Rattle.law.specs.declared.calls.Call.TheVariants.{Report}
use Rattle.law.specs.declared.calls.Job.{Job}
use Rattle.law.specs.declared.calls.Outcome.{Outcome}
use Rattle.law.specs.declared.calls.Work.{Work}
use Rattle.law.specs.History.{History, clock_at, job_at, ready_at, mode_at}
use Rattle.law.specs.Law.{LateTrack, LateHelper, TrackBound}
use Rattle.law.specs.Rules.{WorkDue, Lawful}
use Rattle.law.specs.State.{row_at, new_job, budget_of, mode_with, quiet_below}
use Rattle.law.proofs.Basics.{some_is_none}
use Rattle.law.proofs.Deadlines.{normal_in_time, mixed_in_time, long_in_time}
use Rattle.law.proofs.Orderly.{Orderly, orderly, admits_step, ticks_step, after-tick, quiet_yes, quiet_not, quiet_everywhere}
use Rattle.law.proofs.Steps.{Step, admitted, opened, reported, refused, step}
use Rattle.law.proofs.Sums.{sum_to, part_le_sum}
use Rattle.law.proofs.Tallies.{rest}
use Rattle.law.proofs.Windows.{Window, Admits, Ticks, window_begins, window_adopts, window_strikes, window_admits, window_ticks_above, window_ticks-own}

-- the two windows of each row
pub record Windows (rows : List Row) (c : ℕ) (m : Kind) (ready : ℕ → ℕ) (jobs : ℕ → Option Job) : Type 0 where
  pub above : (i : ℕ) → Window rows i None c m ready jobs
  pub own : (i : ℕ) (j : Job) → jobs i ≡ Some j → Window rows i (Some j) c m ready jobs

-- the mode turns abnormal
windows_strike : {rows : List Row} {c : ℕ} {ready : ℕ → ℕ} {jobs : ℕ → Option Job} → ((r : ℕ) → ready r ≤ c + period_of (row_at rows r))
    → Windows rows c Normal ready jobs → Windows rows c Abnormal ready jobs
windows_strike soon w = record {
  above = λ i. window_strikes i None soon (w.above i);
  own = λ i j e. window_strikes i (Some j) soon (w.own i j e);
}

module _ {rows : List Row} {c : ℕ} {m : Kind} {ready : ℕ → ℕ} {jobs : ℕ → Option Job} where
  -- no job is unended
  windows_begin : ((r : ℕ) → jobs r ≡ None) → Windows rows c m ready jobs
  windows_begin quiet = record {
    above = λ i. window_begins i (λ q _. quiet q);
    own = λ i j e. absurd (some_is_none (jobs i) j e (quiet i));
  }

  -- a job arrives
  windows_admit : {ready' : ℕ → ℕ} {jobs' : ℕ → Option Job} {q : ℕ} {k : Kind} {b : ℕ}
      → Admits rows c m ready ready' jobs jobs' q k b → Windows rows c m ready jobs → Windows rows c m ready' jobs'
  windows_admit {ready'} {jobs'} {q} {k} {b} a w = record { above = above; own = own }
    where
      above : (i : ℕ) → Window rows i None c m ready' jobs'
      above i = window_admits i None a (w.above i)

      own : (i : ℕ) (j : Job) → jobs' i ≡ Some j → Window rows i (Some j) c m ready' jobs'
      own i j e = elim (cases_eq q i) [
        | inl p ↦
            let new : new_job k c b ≡ j = cc (p, e, a.made) in
            subst (λ z. Window rows i (Some z) c m ready' jobs') new (window_adopts i k b a.makes (above i))
        | inr n ↦ window_admits i (Some j) a (w.own i j (sym (a.other_jobs i n) ∙ e))
      ]

  -- the smallest row with an unended job has a tick
  windows_tick : {jobs' : ℕ → Option Job} {d : ℕ} {j : Job} {finished : Bool} → Ticks rows jobs jobs' d j finished
      → ((q : ℕ) → q < d → jobs q ≡ None)
      → ((r : ℕ) → ready r ≤ c + period_of (row_at rows r))
      → ((r : ℕ) (k : Job) → jobs' r ≡ Some k → k.ticks < budget_of (row_at rows r) k.kind)
      → Windows rows c m ready jobs → Windows rows (c + 1) m ready jobs'
  windows_tick {jobs'} {d} {j} {finished} a smallest soon unfinished w = record { above = above; own = own }
    where
      first : (q : ℕ) (k : Job) → jobs' q ≡ Some k → d ≤ q
      first q k e = elim (cases_lt q d) [
        | inl l ↦ absurd (some_is_none (jobs' q) k e (a.other_jobs q (λ z. omega arith) ∙ smallest q l))
        | inr l ↦ l
      ]

      some_left : (i q : ℕ) (k : Job) → q < i → jobs' q ≡ Some k → 1 ≤ sum_to i (λ r. rest (row_at rows r) (jobs' r))
      some_left i q k l e = omega (arith, part_le_sum i (λ r. rest (row_at rows r) (jobs' r)) q l, ap (rest (row_at rows q)) e, unfinished q k e)

      above : (i : ℕ) → Window rows i None (c + 1) m ready jobs'
      above i = elim (cases_Bool (quiet_below i jobs')) [
        | inl quiet ↦ window_begins i (quiet_yes jobs' i quiet)
        | inr busy ↦
            let (q, k, l, e) = quiet_not jobs' i busy in
            window_ticks_above soon i None (omega (arith, l, first q k e)) a (omega (arith, some_left i q k l e)) (w.above i)
      ]

      own_of_due : (k : Job) → jobs' d ≡ Some k → Window rows d (Some k) (c + 1) m ready jobs'
      own_of_due k e =
          let (same, few) = after-tick (row_at rows d) finished j k (sym a.left ∙ e) in
          subst (λ z. Window rows d (Some z) (c + 1) m ready jobs') same (window_ticks-own soon d a few (w.own d j a.unended))

      own : (i : ℕ) (k : Job) → jobs' i ≡ Some k → Window rows i (Some k) (c + 1) m ready jobs'
      own i k e = elim (cases_eq d i) [
        | inl p ↦ subst (λ z. (k : Job) → jobs' z ≡ Some k → Window rows z (Some k) (c + 1) m ready jobs') p own_of_due k e
        | inr n ↦ window_ticks_above soon i (Some k) (omega (arith, first i k e)) a (omega (arith, unfinished i k e)) (w.own i k (sym (a.other_jobs i n) ∙ e))
      ]

abbrev pub WindowsAt : List Row → History → Type 0
WindowsAt rows h = Windows rows (clock_at h) (mode_at rows h) (ready_at rows h) (job_at rows h)

module _ (rows : List Row) (number : ℕ) (free₀ : List Bool) (h : History) (s : Orderly rows h) (w : WindowsAt rows h) where
  -- the mode after an arrival
  windows_turn : (k m : Kind) → mode_at rows h ≡ m → Windows rows (clock_at h) (mode_with k (mode_at rows h)) (ready_at rows h) (job_at rows h)
  windows_turn Normal m e = w
  windows_turn Abnormal Normal e = windows_strike s.soon (rw e at w)
  windows_turn Abnormal Abnormal e = rw e at w

  windows_report : (n c : ℕ) (x : Option Work) (finished : Bool) (o : Outcome) → WorkDue (job_at rows h) x →
      let h' : History = record { call = Report (record { number = n; clock = c; work = x }) finished; answer = Ok (Done o) } ∷ h in
      Orderly rows h' → WindowsAt rows h'
  windows_report n c (Some x) finished o due s' =
      let h' : History = record { call = Report (record { number = n; clock = c; work = Some x }) finished; answer = Ok (Done o) } ∷ h in
      cond_both (quiet_below (length rows) (job_at rows h')) Normal (mode_at rows h) (λ m. Windows rows (clock_at h + 1) m (ready_at rows h) (job_at rows h'))
      (λ quiet. windows_begin (quiet_everywhere rows h' s' quiet))
      (λ _. windows_tick (ticks_step rows h n c x finished o due s) due.smallest s.soon s'.unfinished w)
  windows_report n c None finished o due s' = windows_begin due

  windows_step : {c : Call} {a : Answer} → Step rows number free₀ h c a →
      let h' : History = record { call = c; answer = a } ∷ h in
      Orderly rows h' → WindowsAt rows h'
  windows_step (admitted q k b a) s' = windows_admit (admits_step rows free₀ h q k b a) (windows_turn k (mode_at rows h) refl)
  windows_step (opened t none a) s' = w
  windows_step (reported t finished o e) s' = windows_report t.number t.clock t.work finished o (s.due t e) s'
  windows_step (refused c f e) s' = w

pub windows : (rows : List Row) (number : ℕ) (free₀ : List Bool) (h : History) → Lawful rows number free₀ h → WindowsAt rows h
windows rows number free₀ [] l = windows_begin (λ _. refl)
windows rows number free₀ (e ∷ h) l =
    windows_step rows number free₀ h (orderly rows number free₀ h l.0) (windows rows number free₀ h l.0)
    (step rows number free₀ h e.call e.answer l.1) (orderly rows number free₀ (e ∷ h) l)

module _ (rows : List Row) (number : ℕ) (free₀ : List Bool) (h : History) (l : Lawful rows number free₀ h) where
  here : (r : ℕ) (j : Job) → job_at rows h r ≡ Some j → r ≤ length rows
  here r j e = omega (arith, (orderly rows number free₀ h l).in_plan r j e)

  -- no track's job is late
  pub no_late-track : LateTrack rows h → ⊥
  no_late-track x = omega (arith, x.late, by x.mine.kind refl x.is_bound)
    where
      w : Window rows x.row (Some x.mine) (clock_at h) (mode_at rows h) (ready_at rows h) (job_at rows h)
      w = (windows rows number free₀ h l).own x.row x.mine x.unended

      by : (k : Kind) → x.mine.kind ≡ k → TrackBound (take x.row rows) (row_at rows x.row) k x.bound → clock_at h < x.mine.arrival + x.bound
      by Normal e b = mixed_in_time rows x.row (here x.row x.mine x.unended) (mode_at rows h) x.bound w e b
      by Abnormal e b = long_in_time rows x.row (here x.row x.mine x.unended) (mode_at rows h) x.bound w e b

  -- no undisturbed helper's job is late
  pub no_late-helper : LateHelper rows h → ⊥
  no_late-helper x =
      let normal = (orderly rows number free₀ h l).calm x.row x.mine x.unended x.helper x.undisturbed in
      let w = subst (λ m. Window rows x.row (Some x.mine) (clock_at h) m (ready_at rows h) (job_at rows h)) normal
      ((windows rows number free₀ h l).own x.row x.mine x.unended) in
      omega (arith, x.late, normal_in_time rows x.row (here x.row x.mine x.unended) x.bound w x.is_bound)
