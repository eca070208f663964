-- What one row above takes of a window, told from its own arrivals alone. Assumes nothing.
use Rattle.std.proofs.Common.{◌≡◌, ℕ, ◌+◌, ◌-◌, ◌*◌, ◌<◌, ◌≤◌, max, Bool, true, false, cond, Some, None, Option, refl, mul-le-mul_right, arith}
use Rattle.row.specs.Rows.{period_of, short_of, long_of, is_track}
use Rattle.row.specs.declared.rows.Helper.{Helper as Helper·}
use Rattle.row.specs.declared.rows.Kind.{Kind}
use Rattle.row.specs.declared.rows.Kind.TheVariants.{Normal, Abnormal}
use Rattle.row.specs.declared.rows.Row.{Row}
use Rattle.row.specs.declared.rows.Row.TheVariants.{Track, Helper}
use Rattle.row.specs.declared.rows.Track.{Track as Track·}
use Rattle.row.proofs.Limits.{limits}
use Rattle.judge.specs.Demand.{up, down, normal_share, late_share}
use Rattle.law.specs.declared.calls.Job.{Job}
use Rattle.law.specs.State.{new_job, budget_of, after_tick, ends, ticked}
use Rattle.law.proofs.Basics.{clash}
use Rattle.law.proofs.Numbers.{fit_up, fit_down, up_le_down}

-- what a row's unended job may still take
abbrev pub rest : Row → Option Job → ℕ
rest r (Some j) = budget_of r j.kind - j.ticks
rest r None = 0

-- what n arrivals of a row may take, y of them abnormal
abbrev pub may_take : Row → ℕ → ℕ → ℕ
may_take r n y = n * short_of r + y * (long_of r - short_of r)

abbrev pub one_if_abnormal : Kind → ℕ
one_if_abnormal Normal = 0
one_if_abnormal Abnormal = 1

-- what a row takes at most of a window of length t, in which the mode, if it is abnormal, has been so from instant s on
abbrev pub share : Kind → ℕ → ℕ → Row → ℕ
share Normal s t r = normal_share t r
share Abnormal s t r = late_share s t r

-- A row in the window that begins at clock `start`, whose mode turned abnormal, if it did, at clock `start + strike`:
-- the row has had `spent` ticks and n arrivals in the window, y of them abnormal, and may arrive again from clock `ready` on.
pub record Tally (r : Row) (start strike : ℕ) (m : Kind) (ready : ℕ) (job : Option Job) (spent n y : ℕ) : Type 0 where
  -- it has had, and its unended job may still take, no more than its arrivals may
  pub work : spent + rest r job ≤ may_take r n y
  -- its arrivals are a period apart, and so are the abnormal ones, from the strike on
  pub spaced : start + n * period_of r ≤ max start ready
  pub spaced_late : start + strike + y * period_of r ≤ max (start + strike) ready
  -- in normal mode no arrival was abnormal, and of a helper none ever is
  pub calm : m ≡ Normal → y ≡ 0
  pub none_of_helper : is_track r ≡ false → y ≡ 0
  -- a helper arrived up to the strike
  pub stopped : is_track r ≡ false → m ≡ Abnormal → n * period_of r ≤ strike + period_of r

-- a window begins: the row has no job
pub tally_begins : (r : Row) (clock : ℕ) (m : Kind) (ready : ℕ) → Tally r clock 0 m ready None 0 0 0
tally_begins r clock m ready = record {
  work = omega arith;
  spaced = omega arith;
  spaced_late = omega arith;
  calm = λ _. refl;
  none_of_helper = λ _. refl;
  stopped = λ _ _. omega arith;
}

module _ {r : Row} {start strike ready spent n y : ℕ} where
  -- a job arrives at clock c: the row has none, the spacing is kept, and a helper arrives only where all is normal
  pub tally_admits : {m : Kind} (k : Kind) (c block : ℕ) → start ≤ c → (m ≡ Abnormal → start + strike ≤ c) → ready ≤ c
      → (is_track r ≡ false → (k ≡ Normal) × (m ≡ Normal)) → (k ≡ Abnormal → m ≡ Abnormal)
      → Tally r start strike m ready None spent n y
      → Tally r start strike m (c + period_of r) (Some (new_job k c block)) spent (n + 1) (y + one_if_abnormal k)
  tally_admits {m} Normal c block begun struck spaced helper makes w = record {
    work = omega (arith, w.work);
    spaced = omega (arith, w.spaced);
    spaced_late = omega (arith, w.spaced_late);
    calm = λ e. omega (arith, w.calm e);
    none_of_helper = λ e. omega (arith, w.none_of_helper e);
    stopped = λ e a. absurd (clash m (helper e).1 a);
  }
  tally_admits {m} Abnormal c block begun struck spaced helper makes w = record {
    work = omega (arith, w.work, limits r);
    spaced = omega (arith, w.spaced);
    spaced_late = omega (arith, w.spaced_late, struck (makes refl));
    calm = λ e. absurd (clash m e (makes refl));
    none_of_helper = λ e. absurd (clash m (helper e).1 (makes refl));
    stopped = λ e a. absurd (clash m (helper e).1 a);
  }

  -- the row has one more tick
  pub tally_ticks : {m : Kind} {j : Job} (finished : Bool) → j.ticks < budget_of r j.kind
      → Tally r start strike m ready (Some j) spent n y → Tally r start strike m ready (after_tick r finished (Some j)) (spent + 1) n y
  tally_ticks {m} {j} finished some w = record {
    work = by (ends r finished j);
    spaced = w.spaced;
    spaced_late = w.spaced_late;
    calm = w.calm;
    none_of_helper = w.none_of_helper;
    stopped = w.stopped;
  }
    where
      by : (ended : Bool) → spent + 1 + rest r (cond ended None (Some (ticked j))) ≤ may_take r n y
      by true = omega (arith, w.work)
      by false = omega (arith, w.work)

  -- the mode turns abnormal at clock c
  pub tally_strikes : {job : Option Job} (c : ℕ) → start ≤ c → ready ≤ c + period_of r
      → Tally r start strike Normal ready job spent n y → Tally r start (c - start) Abnormal ready job spent n y
  tally_strikes c begun soon w = record {
    work = w.work;
    spaced = w.spaced;
    spaced_late = let none : y ≡ 0 = w.calm refl in rw none (omega arith);
    calm = λ e. cc;
    none_of_helper = w.none_of_helper;
    stopped = λ _ _. omega (arith, w.spaced);
  }

-- what arrivals may take is within the row's share of a window of length t, by how many they are:
-- n of them before the window's end, y of these abnormal
pub take-normal : (r : Row) (n t : ℕ) → n ≤ up t (period_of r) → may_take r n 0 ≤ normal_share t r
take-normal r n t few = omega (arith, mul-le-mul_right (short_of r) few)

pub take_of_track : (r : Track·) (n y s t : ℕ) → n ≤ up t r.period → y ≤ up (t - s) r.period → may_take (Track r) n y ≤ late_share s t (Track r)
take_of_track r n y s t few late = omega (arith, mul-le-mul_right r.short few, mul-le-mul_right (r.long - r.short) late)

-- (a helper's arrivals in the window came up to instant s)
pub take_of_helper : (r : Helper·) (n s t : ℕ) → n ≤ down s r.period + 1 → may_take (Helper r) n 0 ≤ late_share s t (Helper r)
take_of_helper r n s t few = omega (arith, mul-le-mul_right r.short few)

-- the arrivals before clock start + t take no more than the row's share
pub tally_within : (r : Row) (m : Kind) (t : ℕ) {start strike ready spent n y : ℕ} {job : Option Job} → Tally r start strike m ready job spent n y
    → 1 ≤ t → ready + 1 ≤ start + t + period_of r → (m ≡ Abnormal → strike + 1 ≤ t) → may_take r n y ≤ share m strike t r
tally_within r Normal t {n = n} {y = y} w pos soon struck =
    let none : y ≡ 0 = w.calm refl in
    rw none (take-normal r n t (fit_up n t (period_of r) (omega (arith, limits r)) (omega (arith, w.spaced))))
tally_within (Track r) Abnormal t {strike = strike} {n = n} {y = y} w pos soon struck =
    let after : strike + 1 ≤ t = struck refl in
    take_of_track r n y strike t
    (fit_up n t r.period (omega (arith, limits (Track r))) (omega (arith, w.spaced)))
    (fit_up y (t - strike) r.period (omega (arith, limits (Track r))) (omega (arith, w.spaced_late)))
tally_within (Helper r) Abnormal t {strike = strike} {n = n} {y = y} w pos soon struck =
    let none : y ≡ 0 = w.none_of_helper refl in
    rw none (take_of_helper r n strike t (fit_down n strike r.period (omega (arith, limits (Helper r))) (w.stopped refl refl)))

-- a share grows where the mode turns abnormal at instant s, at the window's end or later
pub share_grows : (r : Row) (s t : ℕ) → t ≤ s → normal_share t r ≤ late_share s t r
share_grows (Track r) s t h = omega arith
share_grows (Helper r) s t h = mul-le-mul_right r.short (up_le_down t s r.period (omega (arith, limits (Helper r))) h)
