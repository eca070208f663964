-- A job with a window is unended only before its arrival plus its bound. Assumes nothing.
--
-- Of each bound only this is used: at that length the demand is met. So the window cannot have come to that length.
use Rattle.std.proofs.Common.{◌≡◌, ℕ, ◌+◌, ◌<◌, ◌≤◌, max, List, length, take, Some, sum_by, Option, refl, ap, inl, inr, mul-le-mul_right, arith}
use Rattle.std.proofs.lemmas.Bool.{cases_lt}
use Rattle.row.specs.Rows.{period_of, short_of, long_of}
use Rattle.row.specs.declared.rows.Kind.{Kind}
use Rattle.row.specs.declared.rows.Kind.TheVariants.{Normal, Abnormal}
use Rattle.row.specs.declared.rows.Row.{Row}
use Rattle.row.proofs.Limits.{limits}
use Rattle.judge.specs.Bounds.{NormalBound, MixedBound, LongBound, LateFinish, LatestStart}
use Rattle.judge.specs.Demand.{normal_share, late_share, start_share}
use Rattle.law.specs.declared.calls.Job.{Job}
use Rattle.law.specs.State.{row_at, least_row, budget_of}
use Rattle.law.proofs.Basics.{clash}
use Rattle.law.proofs.Numbers.{up_le_down, up_next}
use Rattle.law.proofs.Sums.{sum_to, sum_le, sum_above}
use Rattle.law.proofs.Tallies.{share}
use Rattle.law.proofs.Windows.{Window, short_if}

-- an arrival at the window's end or one instant before it counts as one at the start demand's instant
start_covers : (r : Row) (t : ℕ) → normal_share t r ≤ start_share t r
start_covers r t = mul-le-mul_right (short_of r) (up_le_down t t (period_of r) (omega (arith, limits r)) (omega arith))

start_covers_next : (r : Row) (t : ℕ) → normal_share (t + 1) r ≤ start_share t r
start_covers_next r t = mul-le-mul_right (short_of r) (up_next t (period_of r) (omega (arith, limits r)))

module _ (rows : List Row) (i : ℕ) (here : i ≤ length rows) where
  -- the sum over the rows above, as the bounds have it
  above : (f : Row → ℕ) → sum_by f (take i rows) ≡ sum_to i (λ j. f (row_at rows j))
  above f = sum_above f rows least_row i here

  module _ {j : Job} {c : ℕ} {ready : ℕ → ℕ} {jobs : ℕ → Option Job} where
    -- a window in which the demand of length t is met is shorter than t
    before : (m : Kind) (w : Window rows i (Some j) c m ready jobs) (t : ℕ) → 1 ≤ t
        → budget_of (row_at rows i) j.kind + sum_to i (λ r. share m w.strike t (row_at rows r)) ≤ t → c < w.start + t
    before m w t p met = elim (cases_lt c (w.start + t)) [ inl l ↦ l | inr l ↦ absurd (omega (arith, w.past t p l, met)) ]

    -- while the mode is normal, so is every job
    normal-job : (k : Kind) → j.kind ≡ k → Window rows i (Some j) c Normal ready jobs → j.kind ≡ Normal
    normal-job Normal e w = e
    normal-job Abnormal e w = absurd (clash Normal refl (w.arrived.late e).1)

    -- while the mode is normal, a job is unended only before its normal bound
    pub normal_in_time : (R : ℕ) → Window rows i (Some j) c Normal ready jobs → NormalBound (take i rows) (short_of (row_at rows i)) R → c < j.arrival + R
    normal_in_time R w b =
        let budget = ap (budget_of (row_at rows i)) (normal-job j.kind refl w) in
        omega (arith, w.arrived.since, before Normal w R b.holds.0 (omega (arith, b.holds.1, above (normal_share R), budget)))

    -- in abnormal mode the window is shorter than the late finish at its strike
    late-before : (w : Window rows i (Some j) c Abnormal ready jobs) (B F : ℕ) → budget_of (row_at rows i) j.kind ≡ B
        → LateFinish (take i rows) B w.strike F → c < w.start + F
    late-before w B F budget least = before Abnormal w F least.holds.0 (omega (arith, least.holds.1, above (late_share w.strike F), budget))

    -- a normal job is unended only before its mixed bound
    pub mixed_in_time : (m : Kind) (g : ℕ) → Window rows i (Some j) c m ready jobs → j.kind ≡ Normal
        → MixedBound (take i rows) (short_of (row_at rows i)) g → c < j.arrival + g
    mixed_in_time Normal g w k b = omega (arith, normal_in_time b.normal w b.is_normal, b.greater)
    mixed_in_time Abnormal g w k b =
        let R = b.normal in
        let over = λ (l : R ≤ w.strike). w.early refl R b.is_normal.holds.0 l in
        let short = ap (short_if (row_at rows i)) k in
        let soon : w.strike < R = elim (cases_lt w.strike R) [
          | inl l ↦ l
          | inr l ↦ absurd (omega (arith, over l, b.is_normal.holds.1, above (normal_share R), short))
        ] in
        let (F, least, most) = b.is_late.each w.strike soon in
        omega (arith, w.arrived.since, b.greater, most, late-before w (short_of (row_at rows i)) F (ap (budget_of (row_at rows i)) k) least)

    -- before an abnormal job the mode turned abnormal at once, or before the latest start
    strikes_in_time : (S : ℕ) (w : Window rows i (Some j) c Abnormal ready jobs) → j.kind ≡ Abnormal → LatestStart (take i rows) S → w.strike < max 1 S
    strikes_in_time S w k b = elim (cases_lt w.strike (max 1 S)) [
      | inl l ↦ l
      | inr l ↦ elim (cases_lt S w.strike) [
        | inl more ↦ absurd (over (S + 1) (omega arith) (omega arith) (omega arith) (λ r. start_covers_next r S))
        | inr same ↦ absurd (over S (omega arith) (omega arith) (omega arith) (λ r. start_covers r S))
      ]
    ]
      where
        over : (t : ℕ) → 1 ≤ t → t ≤ w.strike → S ≤ t → ((r : Row) → normal_share t r ≤ start_share S r) → ⊥
        over t p l ge covers =
            let short = ap (short_if (row_at rows i)) k in
            let most = sum_le i (λ r. normal_share t (row_at rows r)) (λ r. start_share S (row_at rows r)) (λ r _. covers (row_at rows r)) in
            omega (arith, w.early refl t p l, short, b.holds, above (start_share S), most)

    -- an abnormal job is unended only before its long bound
    pub long_in_time : (m : Kind) (g : ℕ) → Window rows i (Some j) c m ready jobs → j.kind ≡ Abnormal
        → LongBound (take i rows) (long_of (row_at rows i)) g → c < j.arrival + g
    long_in_time Normal g w k b = absurd (clash Normal refl (w.arrived.late k).1)
    long_in_time Abnormal g w k b =
        let (v, finish, most) = b.greatest.each w.strike (strikes_in_time b.start w k b.is_start) in
        let (F, least, is) = finish in
        omega (arith, (w.arrived.late k).0, is, most, late-before w (long_of (row_at rows i)) F (ap (budget_of (row_at rows i)) k) least)
