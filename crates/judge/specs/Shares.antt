-- The shares of one row rise with the window and are small. Assumes nothing.
use Rattle.std.specs.Prelude.{ℕ, ◌+◌, ◌-◌, ◌*◌, ◌<◌, ◌≤◌}
use Rattle.std.proofs.Common.{mul-le-mul_right, le_refl, arith}
use Rattle.row.specs.Rows.{period_of, short_of}
use Rattle.row.specs.declared.rows.Row.{Row}
use Rattle.row.specs.declared.rows.Row.TheVariants.{Track, Helper}
use Rattle.row.proofs.Limits.{limits}
use Rattle.judge.specs.Demand.{normal_share, late_share, start_share}
use Rattle.judge.specs.Quotients.{up_rises, down_rises, up_small, down_small, down-up}

pub normal_rises : (r : Row) (t u : ℕ) → t ≤ u → normal_share t r ≤ normal_share u r
normal_rises r t u h =
    let l = limits r in
    mul-le-mul_right (short_of r) (up_rises (period_of r) t u (omega arith) h)

pub start_rises : (r : Row) (t u : ℕ) → t ≤ u → start_share t r ≤ start_share u r
start_rises r t u h =
    let l = limits r in
    let more = down_rises (period_of r) t u (omega arith) h in
    mul-le-mul_right (short_of r) (omega arith)

pub late_rises : (s : ℕ) (r : Row) (t u : ℕ) → t ≤ u → late_share s t r ≤ late_share s u r
late_rises s (Track r) t u h =
    let l = r.limits in
    let first = mul-le-mul_right r.short (up_rises r.period t u (omega arith) h) in
    let rest = mul-le-mul_right (r.long - r.short) (up_rises r.period (t - s) (u - s) (omega arith) (omega arith)) in
    omega arith
late_rises s (Helper r) t u h = le_refl _

pub normal_small : (r : Row) (t : ℕ) → normal_share t r ≤ 2 * (t + 262143)
normal_small r t =
    let l = limits r in
    let n = up_small (period_of r) (short_of r) t (omega arith) (omega arith) in
    omega arith

pub start_small : (r : Row) (t : ℕ) → start_share t r ≤ 2 * (t + 262143)
start_small r t =
    let l = limits r in
    let n = down_small (period_of r) (short_of r) t (omega arith) in
    omega arith

pub late_small : (s : ℕ) → s ≤ 262143 → (r : Row) (t : ℕ) → late_share s t r ≤ 2 * (t + 262143)
late_small s early (Track r) t =
    let l = r.limits in
    let first = up_small r.period r.short t (omega arith) (omega arith) in
    let rest = up_small r.period (r.long - r.short) (t - s) (omega arith) (omega arith) in
    omega arith
late_small s early (Helper r) t =
    let l = r.limits in
    let n = down_small r.period r.short s (omega arith) in
    omega arith

-- what a row takes before a start is at most what it takes of a longer window
pub start-normal : (r : Row) (t u : ℕ) → t < u → start_share t r ≤ normal_share u r
start-normal r t u h =
    let l = limits r in
    mul-le-mul_right (short_of r) (down-up (period_of r) t u (omega arith) h)
