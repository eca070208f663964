-- The window before a row, and what each event makes of it. Assumes nothing.
--
-- The window before row i begins at the latest point at which no row above had an unended job. From then on some row
-- above, or row i's own job, is unended, so every tick goes to one of these. What a row above takes is at most the
-- budgets of its arrivals in the window, which its period keeps apart. So while the job is unended, the window is
-- shorter than any length that meets its own demand: there all this work, and the job, would have been done.
--
-- Two windows are kept for each row. One is of the rows above alone, and begins anew whenever they are all quiet. The
-- other is of the row's unended job: it begins as a copy of the first when that job arrives, and lasts until it ends.
use Rattle.std.proofs.Common.{◌≡◌, ℕ, ◌+◌, ◌-◌, ◌<◌, ◌≤◌, Bool, false, List, Some, None, Option, refl, ap, inl, inr, arith}
use Rattle.std.proofs.lemmas.Bool.{cases_lt}
use Rattle.row.specs.Rows.{period_of, short_of, is_track}
use Rattle.row.specs.declared.rows.Kind.{Kind}
use Rattle.row.specs.declared.rows.Kind.TheVariants.{Normal, Abnormal}
use Rattle.row.specs.declared.rows.Row.{Row}
use Rattle.judge.specs.Demand.{normal_share, late_share}
use Rattle.law.specs.declared.calls.Job.{Job}
use Rattle.law.specs.State.{row_at, new_job, budget_of, after_tick, ticked}
use Rattle.law.proofs.Basics.{clash}
use Rattle.law.proofs.Sums.{put, put_at, put_else, put_both, sum_to, sum_none, sum_le, sum_add, sum_same, sum_raised}
use Rattle.law.proofs.Tallies.{Tally, rest, share, share_grows, tally_begins, tally_admits, one_if_abnormal, tally_ticks, tally_strikes, tally_within}

-- what a row above has had in a window: ticks, arrivals, and abnormal ones among these
pub record Counts : Type 0 where
  pub spent : ℕ
  pub arrivals : ℕ
  pub abnormal : ℕ

-- of the job that a window is of, if any: its budget, its budget if it is normal, its ticks
abbrev pub own_budget : Row → Option Job → ℕ
own_budget r (Some j) = budget_of r j.kind
own_budget r None = 0

abbrev pub short_if : Row → Kind → ℕ
short_if r Normal = short_of r
short_if r Abnormal = 0

abbrev pub own_short : Row → Option Job → ℕ
own_short r (Some j) = short_if r j.kind
own_short r None = 0

abbrev pub own_ticks : Option Job → ℕ
own_ticks (Some j) = j.ticks
own_ticks None = 0

-- the job arrived in the window, and if it is abnormal, when the mode was
pub record ArrivedIn (start strike : ℕ) (m : Kind) (j : Job) : Type 0 where
  pub since : start ≤ j.arrival
  pub late : j.kind ≡ Abnormal → (start + strike ≤ j.arrival) × (m ≡ Abnormal)

abbrev pub Own : ℕ → ℕ → Kind → Option Job → Type 0
Own start strike m (Some j) = ArrivedIn start strike m j
Own start strike m None = Unit {0}

-- The window before row i, at clock c and mode m, where the rows may arrive from `ready` on and have the unended `jobs`.
-- It is of the job `own` of row i, or of the rows above alone. It began at clock `start`; in abnormal mode the first
-- abnormal arrival since then came at clock `start + strike`, or the mode was abnormal before and `strike` is 0.
pub record Window (rows : List Row) (i : ℕ) (own : Option Job) (c : ℕ) (m : Kind) (ready : ℕ → ℕ) (jobs : ℕ → Option Job) : Type 0 where
  pub start : ℕ
  pub strike : ℕ
  pub counts : ℕ → Counts
  -- the ticks that rows below took, which are none
  pub others : ℕ
  pub no_others : others ≡ 0
  pub begun : start ≤ c
  pub struck : m ≡ Abnormal → start + strike ≤ c
  -- every tick of the window went to a row above or to the job
  pub account : c ≡ start + (others + (sum_to i (λ j. (counts j).spent) + own_ticks own))
  pub above : (j : ℕ) → j < i → Tally (row_at rows j) start strike m (ready j) (jobs j) (counts j).spent (counts j).arrivals (counts j).abnormal
  pub arrived : Own start strike m own
  -- at no length so far had the demand been met
  pub past : (t : ℕ) → 1 ≤ t → start + t ≤ c → t < own_budget (row_at rows i) own + sum_to i (λ j. share m strike t (row_at rows j))
  -- nor had the demand of normal jobs, up to the strike
  pub early : m ≡ Abnormal → (t : ℕ) → 1 ≤ t → t ≤ strike → t < own_short (row_at rows i) own + sum_to i (λ j. normal_share t (row_at rows j))

-- a job of row q is admitted at clock c, and the mode is m from then on: what the row and its job must be, and what changes
pub record Admits (rows : List Row) (c : ℕ) (m : Kind) (ready ready' : ℕ → ℕ) (jobs jobs' : ℕ → Option Job) (q : ℕ) (k : Kind) (b : ℕ) : Type 0 where
  pub ended : jobs q ≡ None
  pub spaced : ready q ≤ c
  pub helper : is_track (row_at rows q) ≡ false → (k ≡ Normal) × (m ≡ Normal)
  pub makes : k ≡ Abnormal → m ≡ Abnormal
  pub made : jobs' q ≡ Some (new_job k c b)
  pub again : ready' q ≡ c + period_of (row_at rows q)
  pub other_jobs : (r : ℕ) → (q ≡ r → ⊥) → jobs' r ≡ jobs r
  pub other_ready : (r : ℕ) → (q ≡ r → ⊥) → ready' r ≡ ready r

-- job j of row d, which has part of its budget left, has one more tick
pub record Ticks (rows : List Row) (jobs jobs' : ℕ → Option Job) (d : ℕ) (j : Job) (finished : Bool) : Type 0 where
  pub unended : jobs d ≡ Some j
  pub unfinished : j.ticks < budget_of (row_at rows d) j.kind
  pub left : jobs' d ≡ after_tick (row_at rows d) finished (Some j)
  pub other_jobs : (r : ℕ) → (d ≡ r → ⊥) → jobs' r ≡ jobs r

module _ {rows : List Row} {c : ℕ} {m : Kind} {ready : ℕ → ℕ} {jobs : ℕ → Option Job} (i : ℕ) where
  -- the rows above are quiet: a window begins
  pub window_begins : ((q : ℕ) → q < i → jobs q ≡ None) → Window rows i None c m ready jobs
  window_begins quiet = record {
    start = c;
    strike = 0;
    counts = λ _. record { spent = 0; arrivals = 0; abnormal = 0 };
    others = 0;
    no_others = refl;
    begun = omega arith;
    struck = λ _. omega arith;
    account = omega (arith, sum_none i);
    above = λ j l. rw (quiet j l) (tally_begins (row_at rows j) c m (ready j));
    arrived = tt;
    past = λ t p l. omega arith;
    early = λ _ t p l. omega arith;
  }

  -- a job of row i arrives: the window of the rows above becomes the job's
  pub window_adopts : (k : Kind) (b : ℕ) → (k ≡ Abnormal → m ≡ Abnormal)
      → Window rows i None c m ready jobs → Window rows i (Some (new_job k c b)) c m ready jobs
  window_adopts k b makes w = record {
    start = w.start;
    strike = w.strike;
    counts = w.counts;
    others = w.others;
    no_others = w.no_others;
    begun = w.begun;
    struck = w.struck;
    account = w.account;
    above = w.above;
    arrived = record { since = w.begun; late = λ e. (w.struck (makes e), makes e) };
    past = λ t p l. omega (arith, w.past t p l);
    early = λ e t p l. omega (arith, w.early e t p l);
  }

module _ {rows : List Row} {c : ℕ} {ready : ℕ → ℕ} {jobs : ℕ → Option Job} (i : ℕ) (own : Option Job) where
  -- the mode turns abnormal
  pub window_strikes : ((j : ℕ) → ready j ≤ c + period_of (row_at rows j)) → Window rows i own c Normal ready jobs → Window rows i own c Abnormal ready jobs
  window_strikes soon w = record {
    start = w.start;
    strike = strike;
    counts = w.counts;
    others = w.others;
    no_others = w.no_others;
    begun = w.begun;
    struck = λ _. omega (arith, w.begun);
    account = w.account;
    above = λ j l. tally_strikes c w.begun (soon j) (w.above j l);
    arrived = arrived own w.arrived;
    past = λ t p l. omega (arith, w.past t p l, grows t (omega (arith, l)));
    early = λ _ t p l. omega (arith, w.past t p (omega (arith, l, w.begun)), normal own w.arrived);
  }
    where
      strike : ℕ
      strike = c - w.start

      grows : (t : ℕ) → t ≤ strike → sum_to i (λ j. normal_share t (row_at rows j)) ≤ sum_to i (λ j. late_share strike t (row_at rows j))
      grows t l = sum_le i (λ j. normal_share t (row_at rows j)) (λ j. late_share strike t (row_at rows j)) (λ j _. share_grows (row_at rows j) strike t l)

      arrived : (own : Option Job) → Own w.start w.strike Normal own → Own w.start strike Abnormal own
      arrived (Some j) a = record { since = a.since; late = λ e. absurd (clash Normal refl (a.late e).1) }
      arrived None a = tt

      short : (k : Kind) → (k ≡ Abnormal → ⊥) → budget_of (row_at rows i) k ≤ short_if (row_at rows i) k
      short Normal n = omega arith
      short Abnormal n = absurd (n refl)

      normal : (own : Option Job) → Own w.start w.strike Normal own → own_budget (row_at rows i) own ≤ own_short (row_at rows i) own
      normal (Some j) a = short j.kind (λ e. clash Normal refl (a.late e).1)
      normal None a = omega arith

module _ {rows : List Row} {c : ℕ} {m : Kind} {ready ready' : ℕ → ℕ} {jobs jobs' : ℕ → Option Job} {q : ℕ} {k : Kind} {b : ℕ} (i : ℕ) (own : Option Job) where
  -- a row is admitted
  pub window_admits : Admits rows c m ready ready' jobs jobs' q k b → Window rows i own c m ready jobs → Window rows i own c m ready' jobs'
  window_admits a w = record {
    start = w.start;
    strike = w.strike;
    counts = counts';
    others = w.others;
    no_others = w.no_others;
    begun = w.begun;
    struck = w.struck;
    account = omega (arith, w.account, sum_same i (λ j. (w.counts j).spent) (λ j. (counts' j).spent) (λ j _. same j));
    above = above;
    arrived = w.arrived;
    past = w.past;
    early = w.early;
  }
    where
      more : Counts
      more = record { spent = (w.counts q).spent; arrivals = (w.counts q).arrivals + 1; abnormal = (w.counts q).abnormal + one_if_abnormal k }

      counts' : ℕ → Counts
      counts' = put q more w.counts

      same : (j : ℕ) → (counts' j).spent ≡ (w.counts j).spent
      same = put_both (λ j n. n.spent ≡ (w.counts j).spent) q more w.counts refl (λ _ _. refl)

      TallyAt : ℕ → Counts → Type 0
      TallyAt j n = j < i → Tally (row_at rows j) w.start w.strike m (ready' j) (jobs' j) n.spent n.arrivals n.abnormal

      at : TallyAt q more
      at l = rw (a.again, a.made) (tally_admits k c b w.begun w.struck a.spaced a.helper a.makes (rw a.ended at (w.above q l)))

      above : (j : ℕ) → TallyAt j (counts' j)
      above = put_both TallyAt q more w.counts at (λ j n l. rw (a.other_ready j n, a.other_jobs j n) (w.above j l))

module _ {rows : List Row} {c : ℕ} {m : Kind} {ready : ℕ → ℕ} {jobs jobs' : ℕ → Option Job} (soon : (j : ℕ) → ready j ≤ c + period_of (row_at rows j)) (i : ℕ) where
  -- A report: the clock goes on, one tick more is accounted for, and somebody at or above row i still has work left.
  -- So the demand of the window's new length isn't met either.
  window_grows : (own own' : Option Job) (w : Window rows i own c m ready jobs) (counts' : ℕ → Counts)
      → sum_to i (λ j. (counts' j).spent) + own_ticks own' ≡ sum_to i (λ j. (w.counts j).spent) + own_ticks own + 1
      → ((j : ℕ) → j < i → Tally (row_at rows j) w.start w.strike m (ready j) (jobs' j) (counts' j).spent (counts' j).arrivals (counts' j).abnormal)
      → Own w.start w.strike m own'
      → own_budget (row_at rows i) own' ≡ own_budget (row_at rows i) own
      → own_short (row_at rows i) own' ≡ own_short (row_at rows i) own
      → own_ticks own' + 1 ≤ own_budget (row_at rows i) own' + sum_to i (λ j. rest (row_at rows j) (jobs' j))
      → Window rows i own' (c + 1) m ready jobs'
  window_grows own own' w counts' account above arrived budget short left = record {
    start = w.start;
    strike = w.strike;
    counts = counts';
    others = w.others;
    no_others = w.no_others;
    begun = omega (arith, w.begun);
    struck = λ e. omega (arith, w.struck e);
    account = omega (arith, w.account, account);
    above = above;
    arrived = arrived;
    past = λ t p l. elim (cases_lt c (w.start + t)) [ inl new ↦ now t p (omega arith) | inr old ↦ omega (arith, w.past t p old, budget) ];
    early = λ e t p l. omega (arith, w.early e t p l, short);
  }
    where
      done : ℕ → ℕ
      done j = (counts' j).spent + rest (row_at rows j) (jobs' j)

      within : (t : ℕ) → 1 ≤ t → w.start + t ≡ c + 1 → (j : ℕ) → j < i → done j ≤ share m w.strike t (row_at rows j)
      within t p e j l =
          let most = tally_within (row_at rows j) m t (above j l) p (omega (arith, e, soon j)) (λ a. omega (arith, e, w.struck a)) in
          omega (arith, (above j l).work, most)

      now : (t : ℕ) → 1 ≤ t → w.start + t ≡ c + 1 → t < own_budget (row_at rows i) own' + sum_to i (λ j. share m w.strike t (row_at rows j))
      now t p e =
          let split = sum_add i (λ j. (counts' j).spent) (λ j. rest (row_at rows j) (jobs' j)) in
          let most = sum_le i done (λ j. share m w.strike t (row_at rows j)) (within t p e) in
          omega (arith, e, w.account, w.no_others, account, left, split, most)

  -- the tick goes to a row above
  pub window_ticks_above : (own : Option Job) {d : ℕ} {j : Job} {finished : Bool} → d < i → Ticks rows jobs jobs' d j finished
      → own_ticks own + 1 ≤ own_budget (row_at rows i) own + sum_to i (λ r. rest (row_at rows r) (jobs' r))
      → Window rows i own c m ready jobs → Window rows i own (c + 1) m ready jobs'
  window_ticks_above own {d} {j} {finished} up a left w = window_grows own own w counts' account above w.arrived refl refl left
    where
      more : Counts
      more = record { spent = (w.counts d).spent + 1; arrivals = (w.counts d).arrivals; abnormal = (w.counts d).abnormal }

      counts' : ℕ → Counts
      counts' = put d more w.counts

      account : sum_to i (λ r. (counts' r).spent) + own_ticks own ≡ sum_to i (λ r. (w.counts r).spent) + own_ticks own + 1
      account =
          let at = ap (λ n. n.spent) (put_at d more w.counts) in
          let else = λ (r : ℕ) (n : d ≡ r → ⊥). ap (λ n. n.spent) (put_else d more w.counts r n) in
          omega (arith, sum_raised i (λ r. (w.counts r).spent) (λ r. (counts' r).spent) d up at else)

      TallyAt : ℕ → Counts → Type 0
      TallyAt r n = r < i → Tally (row_at rows r) w.start w.strike m (ready r) (jobs' r) n.spent n.arrivals n.abnormal

      above : (r : ℕ) → TallyAt r (counts' r)
      above = put_both TallyAt d more w.counts
          (λ l. rw a.left (tally_ticks finished a.unfinished (rw a.unended at (w.above d l))))
          (λ r n l. rw (a.other_jobs r n) (w.above r l))

  -- the tick goes to the job that the window is of, and leaves it unended
  pub window_ticks-own : {j : Job} {finished : Bool} → Ticks rows jobs jobs' i j finished → (ticked j).ticks < budget_of (row_at rows i) j.kind
      → Window rows i (Some j) c m ready jobs → Window rows i (Some (ticked j)) (c + 1) m ready jobs'
  window_ticks-own {j} a left w =
      window_grows (Some j) (Some (ticked j)) w w.counts (omega arith)
      (λ r l. rw (a.other_jobs r (λ e. omega arith)) (w.above r l))
      (record { since = w.arrived.since; late = w.arrived.late }) refl refl (omega arith)
