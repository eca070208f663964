-- What holds of clock, jobs, mode and open turn after every lawful history. Assumes nothing.
use Rattle.std.proofs.Common.{◌≡◌, ℕ, zero, suc, ◌+◌, ◌<◌, ◌≤◌, Bool, true, false, cond, not, ◌||◌, eqb, leb, List, [], ◌∷◌, length, is_some, Some, None, Option, refl, ap, ◌∙◌, subst, inl, inr, arith, Ok}
use Rattle.std.proofs.lemmas.Bool.{cases_eq, and_parts, and_cases, both_ways, not-true, not-false, eq-eqb, ne_eqb, leb-false, or_parts, cond_both}
use Rattle.row.specs.Rows.{period_of, is_track}
use Rattle.row.specs.declared.rows.Kind.{Kind}
use Rattle.row.specs.declared.rows.Kind.TheVariants.{Normal, Abnormal}
use Rattle.row.specs.declared.rows.Row.{Row}
use Rattle.row.proofs.Limits.{limits}
use Rattle.law.specs.Answer.{Answer}
use Rattle.law.specs.declared.calls.Reply.TheVariants.{Block, Turn, Done}
use Rattle.law.specs.declared.calls.Call.{Call}
use Rattle.law.specs.declared.calls.Call.TheVariants.{Arrive, Begin, Report}
use Rattle.law.specs.declared.calls.Job.{Job}
use Rattle.law.specs.declared.calls.Outcome.{Outcome}
use Rattle.law.specs.declared.calls.TurnNumbers.{TurnNumbers}
use Rattle.law.specs.declared.calls.Work.{Work}
use Rattle.law.specs.History.{History, state_at, clock_at, job_at, ready_at, mode_at, open_turn_at, disturbed}
use Rattle.law.specs.Rules.{WorkDue, Due, Opens, Lawful}
use Rattle.law.specs.State.{is_abnormal, row_at, new_job, budget_of, mode_with, is_for, quiet_below, after_tick, ticked, ends}
use Rattle.law.proofs.Basics.{some_is_none, none_of, some_of, normal_of}
use Rattle.law.proofs.Steps.{Step, Admitted, admitted, opened, reported, refused, step}
use Rattle.law.proofs.Windows.{Admits, Ticks}

module _ (jobs : ℕ → Option Job) where
  pub quiet_yes : (n : ℕ) → quiet_below n jobs ≡ true → (q : ℕ) → q < n → jobs q ≡ None
  quiet_yes zero e q l = absurd (omega arith)
  quiet_yes (suc n) e q l =
      let p = and_parts (not (is_some (jobs n))) (quiet_below n jobs) e in
      elim (cases_eq n q) [
        | inl s ↦ subst (λ z. jobs z ≡ None) s (none_of (jobs n) (not-true (is_some (jobs n)) p.0))
        | inr d ↦ quiet_yes n p.1 q (omega arith)
      ]

  pub quiet_not : (n : ℕ) → quiet_below n jobs ≡ false → (q : ℕ) × (j : Job) × (q < n) × (jobs q ≡ Some j)
  quiet_not zero e = absurd cc
  quiet_not (suc n) e = elim (and_cases (not (is_some (jobs n))) (quiet_below n jobs) e) [
    | inl s ↦ let p = some_of (jobs n) (not-false (is_some (jobs n)) s) in (n, p.0, omega arith, p.1)
    | inr s ↦ let p = quiet_not n s in (p.0, p.1, omega (arith, p.2), p.3)
  ]

-- what a tick leaves of a job: nothing, or the job with one tick more and part of its budget left
pub after-tick : (r : Row) (finished : Bool) (j j' : Job) → after_tick r finished (Some j) ≡ Some j' → (ticked j ≡ j') × (j.ticks + 1 < budget_of r j.kind)
after-tick r finished j j' e = by (ends r finished j) refl e
  where
    by : (b : Bool) → ends r finished j ≡ b → cond b None (Some (ticked j)) ≡ Some j' → (ticked j ≡ j') × (j.ticks + 1 < budget_of r j.kind)
    by true s e = absurd (some_is_none _ _ e refl)
    by false s e = (cc, leb-false (budget_of r j.kind) (j.ticks + 1) (or_parts finished (leb (budget_of r j.kind) (j.ticks + 1)) s).1)

pub record Orderly (rows : List Row) (h : History) : Type 0 where
  -- a row may arrive again no later than a period from now
  pub soon : (r : ℕ) → ready_at rows h r ≤ clock_at h + period_of (row_at rows r)
  -- an unended job is of a row in the plan, and has part of its budget left
  pub in_plan : (r : ℕ) (j : Job) → job_at rows h r ≡ Some j → r < length rows
  pub unfinished : (r : ℕ) (j : Job) → job_at rows h r ≡ Some j → j.ticks < budget_of (row_at rows r) j.kind
  -- a row with an unended job may arrive again a period after that job's arrival
  pub spacing : (r : ℕ) (j : Job) → job_at rows h r ≡ Some j → ready_at rows h r ≡ j.arrival + period_of (row_at rows r)
  -- the open turn is for the work that is due
  pub due : (t : TurnNumbers) → open_turn_at h ≡ Some t → WorkDue (job_at rows h) t.work
  -- while a job is unended that an abnormal arrival followed, the mode is abnormal
  pub disturbs : (r : ℕ) (j : Job) → job_at rows h r ≡ Some j → disturbed h r ≡ true → mode_at rows h ≡ Abnormal
  -- while a helper's job is unended that no abnormal arrival followed, the mode is normal
  pub calm : (r : ℕ) (j : Job) → job_at rows h r ≡ Some j → is_track (row_at rows r) ≡ false → disturbed h r ≡ false → mode_at rows h ≡ Normal

-- where no row of the plan has an unended job, no row has one
pub quiet_everywhere : (rows : List Row) (h : History) → Orderly rows h → quiet_below (length rows) (job_at rows h) ≡ true → (r : ℕ) → job_at rows h r ≡ None
quiet_everywhere rows h s quiet r = by (job_at rows h r) refl
  where
    by : (o : Option Job) → job_at rows h r ≡ o → o ≡ None
    by (Some j) e = absurd (some_is_none (job_at rows h r) j e (quiet_yes (job_at rows h) (length rows) quiet r (s.in_plan r j e)))
    by None e = refl

-- an admitted arrival, as the windows have it
pub admits_step : (rows : List Row) (free₀ : List Bool) (h : History) (q : ℕ) (k : Kind) (b : ℕ) → Admitted rows free₀ h q k b →
    let h' : History = record { call = Arrive q k; answer = Ok (Block b) } ∷ h in
    Admits rows (clock_at h) (mode_at rows h') (ready_at rows h) (ready_at rows h') (job_at rows h) (job_at rows h') q k b
admits_step rows free₀ h q k b a = record {
  ended = a.ended;
  spaced = a.spaced;
  helper = λ t. ((a.helper t).0, let p = a.helper t in cc);
  makes = λ e. cc;
  made = rw (eq-eqb q q refl);
  again = rw (eq-eqb q q refl);
  other_jobs = λ r n. rw (ne_eqb q r n);
  other_ready = λ r n. rw (ne_eqb q r n);
}

-- an accepted report of a turn with work, as the windows have it
pub ticks_step : (rows : List Row) (h : History) (n c : ℕ) (w : Work) (finished : Bool) (o : Outcome) (d : Due (job_at rows h) w) → Orderly rows h →
    let h' : History = record { call = Report (record { number = n; clock = c; work = Some w }) finished; answer = Ok (Done o) } ∷ h in
    Ticks rows (job_at rows h) (job_at rows h') w.row d.mine finished
ticks_step rows h n c w finished o d s = record {
  unended = d.unended;
  unfinished = s.unfinished w.row d.mine d.unended;
  left = rw (eq-eqb w.row w.row refl, d.unended);
  other_jobs = λ r n. rw (ne_eqb w.row r n);
}

-- a job j after a report was there before, with the same arrival, and has part of its budget left
record Before (r : Row) (o : Option Job) (j : Job) : Type 0 where
  was : Job
  there : o ≡ Some was
  same : was.arrival ≡ j.arrival
  unfinished : j.ticks < budget_of r j.kind

reported-job : (b : Bool) (r : Row) (finished : Bool) (o : Option Job) (j : Job) → ((i : Job) → o ≡ Some i → i.ticks < budget_of r i.kind)
    → cond b (after_tick r finished o) o ≡ Some j → Before r o j
reported-job true r f (Some i) j old e =
    let (same, few) = after-tick r f i j e in
    record { was = i; there = refl; same = ap (λ z. z.arrival) same; unfinished = subst (λ z. z.ticks < budget_of r z.kind) same few }
reported-job true r f None j old e = absurd (some_is_none _ _ e refl)
reported-job false r f (Some i) j old e = record { was = i; there = refl; same = cc; unfinished = old j e }
reported-job false r f None j old e = absurd (some_is_none _ _ e refl)

stays_abnormal : (k m : Kind) (d : Bool) → (is_abnormal k || d) ≡ true → (d ≡ true → m ≡ Abnormal) → mode_with k m ≡ Abnormal
stays_abnormal Normal m d e f = f e
stays_abnormal Abnormal m d e f = refl

stays_normal : (k m : Kind) → k ≡ Normal → m ≡ Normal → mode_with k m ≡ Normal
stays_normal k m e f = cc

budget_pos : (r : Row) (k : Kind) → 0 < budget_of r k
budget_pos r Normal = omega (arith, limits r)
budget_pos r Abnormal = omega (arith, limits r)

module _ (rows : List Row) (number : ℕ) (free₀ : List Bool) (h : History) (s : Orderly rows h) where
  orderly_admits : (q : ℕ) (k : Kind) (b : ℕ) → Admitted rows free₀ h q k b → Orderly rows (record { call = Arrive q k; answer = Ok (Block b) } ∷ h)
  orderly_admits q k b a = record {
    soon = λ r. cond_both (eqb q r) (clock_at h + period_of (row_at rows r)) (ready_at rows h r) (λ x. x ≤ clock_at h + period_of (row_at rows r))
        (λ _. omega arith) (λ _. s.soon r);
    in_plan = λ r j e. elim (cases_eq q r) [ inl p ↦ omega (arith, a.in_plan) | inr n ↦ s.in_plan r j (rw (ne_eqb q r n) at e) ];
    unfinished = λ r j e. elim (cases_eq q r) [
      | inl p ↦ subst (λ z. z.ticks < budget_of (row_at rows r) z.kind) (new r j p e) (budget_pos (row_at rows r) k)
      | inr n ↦ s.unfinished r j (rw (ne_eqb q r n) at e)
    ];
    spacing = λ r j e. elim (cases_eq q r) [
      | inl p ↦ rw (eq-eqb q r p) (ap (λ z. z.arrival + period_of (row_at rows r)) (new r j p e))
      | inr n ↦ rw (ne_eqb q r n) (s.spacing r j (rw (ne_eqb q r n) at e))
    ];
    due = λ t e. absurd (some_is_none _ _ e a.no_turn);
    disturbs = λ r j e d. elim (cases_eq q r) [
      | inl p ↦ absurd (both_ways false refl (rw (eq-eqb q r p) at d))
      | inr n ↦ stays_abnormal k (mode_at rows h) (disturbed h r) (rw (ne_eqb q r n) at d) (s.disturbs r j (rw (ne_eqb q r n) at e))
    ];
    calm = λ r j e t d. elim (cases_eq q r) [
      | inl p ↦ let x = a.helper (rw (← p) at t) in stays_normal k (mode_at rows h) x.0 x.1
      | inr n ↦
          let x = or_parts (is_abnormal k) (disturbed h r) (rw (ne_eqb q r n) at d) in
          stays_normal k (mode_at rows h) (normal_of k x.0) (s.calm r j (rw (ne_eqb q r n) at e) t x.1)
    ];
  }
    where
      new : (r : ℕ) (j : Job) → q ≡ r → cond (eqb q r) (Some (new_job k (clock_at h) b)) (job_at rows h r) ≡ Some j
          → new_job k (clock_at h) b ≡ j
      new r j p e = let f = rw (eq-eqb q r p) at e in cc

  orderly_opens : (t : TurnNumbers) → Opens number (state_at rows free₀ h) t → Orderly rows (record { call = Begin; answer = Ok (Turn t) } ∷ h)
  orderly_opens t a = record {
    soon = s.soon;
    in_plan = s.in_plan;
    unfinished = s.unfinished;
    spacing = s.spacing;
    due = λ u e. let p : t ≡ u = cc in subst (λ z. WorkDue (job_at rows h) z.work) p a.for_work;
    disturbs = s.disturbs;
    calm = s.calm;
  }

  orderly_reports : (t : TurnNumbers) (finished : Bool) (o : Outcome) → Orderly rows (record { call = Report t finished; answer = Ok (Done o) } ∷ h)
  orderly_reports t finished o = record {
    soon = λ r. omega (arith, s.soon r);
    in_plan = in_plan;
    unfinished = λ r j e. (before r j e).unfinished;
    spacing = λ r j e. s.spacing r (before r j e).was (before r j e).there ∙ ap (λ a. a + period_of (row_at rows r)) (before r j e).same;
    due = λ u e. absurd (some_is_none _ _ e refl);
    disturbs = λ r j e d. cond_both (quiet_below (length rows) jobs') Normal (mode_at rows h) (λ m. m ≡ Abnormal)
        (λ quiet. absurd (some_is_none _ _ e (quiet_yes jobs' (length rows) quiet r (in_plan r j e))))
        (λ _. s.disturbs r (before r j e).was (before r j e).there d);
    calm = λ r j e t d. cond_both (quiet_below (length rows) jobs') Normal (mode_at rows h) (λ m. m ≡ Normal)
        (λ _. refl) (λ _. s.calm r (before r j e).was (before r j e).there t d);
  }
    where
      jobs' : ℕ → Option Job
      jobs' r = cond (is_for t.work r) (after_tick (row_at rows r) finished (job_at rows h r)) (job_at rows h r)

      before : (r : ℕ) (j : Job) → jobs' r ≡ Some j → Before (row_at rows r) (job_at rows h r) j
      before r j e = reported-job (is_for t.work r) (row_at rows r) finished (job_at rows h r) j (s.unfinished r) e

      in_plan : (r : ℕ) (j : Job) → jobs' r ≡ Some j → r < length rows
      in_plan r j e = s.in_plan r (before r j e).was (before r j e).there

  orderly_step : {c : Call} {a : Answer} → Step rows number free₀ h c a → Orderly rows (record { call = c; answer = a } ∷ h)
  orderly_step (admitted q k b a) = orderly_admits q k b a
  orderly_step (opened t none a) = orderly_opens t a
  orderly_step (reported t finished o e) = orderly_reports t finished o
  orderly_step (refused c f e) = record {
    soon = s.soon;
    in_plan = s.in_plan;
    unfinished = s.unfinished;
    spacing = s.spacing;
    due = s.due;
    disturbs = s.disturbs;
    calm = s.calm;
  }

pub orderly : (rows : List Row) (number : ℕ) (free₀ : List Bool) (h : History) → Lawful rows number free₀ h → Orderly rows h
orderly rows number free₀ [] l = record {
  soon = λ r. omega arith;
  in_plan = λ r j e. absurd (some_is_none _ _ e refl);
  unfinished = λ r j e. absurd (some_is_none _ _ e refl);
  spacing = λ r j e. absurd (some_is_none _ _ e refl);
  due = λ t e. absurd (some_is_none _ _ e refl);
  disturbs = λ r j e. absurd (some_is_none _ _ e refl);
  calm = λ r j e. absurd (some_is_none _ _ e refl);
}
orderly rows number free₀ (e ∷ h) l =
    orderly_step rows number free₀ h (orderly rows number free₀ h l.0) (step rows number free₀ h e.call e.answer l.1)
