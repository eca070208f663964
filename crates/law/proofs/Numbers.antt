-- Quotients rounded up and down, against spacing by a period. Assumes nothing.
use Rattle.std.proofs.Common.{ℕ, zero, suc, ◌+◌, ◌-◌, ◌*◌, ◌/◌, ◌≤◌, le-div_iff_mul-le, div-mul-le_self, arith}
use Rattle.judge.specs.Demand.{up, down}

-- n arrivals a period p apart, the last before instant t, are at most up(t/p)
pub fit_up : (n t p : ℕ) → 1 ≤ p → n * p + 1 ≤ t + p → n ≤ up t p
fit_up n t p pos h = (le-div_iff_mul-le {k = p} {x = n} {y = t + (p - 1)} pos).1 (omega arith)

-- n arrivals a period p apart, the last at instant s or before, are at most down(s/p) + 1
pub fit_down : (n s p : ℕ) → 1 ≤ p → n * p ≤ s + p → n ≤ down s p + 1
fit_down zero s p pos h = omega arith
fit_down (suc n) s p pos h =
    let few : n ≤ s / p = (le-div_iff_mul-le {k = p} {x = n} {y = s} pos).1 (omega arith) in
    omega arith

pub up_le_down : (t s p : ℕ) → 1 ≤ p → t ≤ s → up t p ≤ down s p + 1
up_le_down t s p pos h = fit_down (up t p) s p pos (omega (arith, div-mul-le_self (t + (p - 1)) p))

pub up_next : (t p : ℕ) → 1 ≤ p → up (t + 1) p ≤ down t p + 1
up_next t p pos = fit_down (up (t + 1) p) t p pos (omega (arith, div-mul-le_self (t + 1 + (p - 1)) p))
