-- Quotients rounded up and down: they rise, and jobs times budget stay near the window. Assumes nothing.
use Rattle.std.specs.Prelude.{ℕ, ◌+◌, ◌-◌, ◌*◌, ◌<◌, ◌≤◌}
use Rattle.std.proofs.Common.{le_trans, mul-le-mul, le_refl, le-div_iff_mul-le, div-mul-le_self, arith}
use Rattle.std.proofs.Math.Nat.{add-div_right}
use Rattle.judge.specs.Demand.{up, down}

pub down_rises : (T t u : ℕ) → 1 ≤ T → t ≤ u → down t T ≤ down u T
down_rises T t u pos h = (le-div_iff_mul-le pos).1 (le_trans (div-mul-le_self t T) h)

pub up_rises : (T t u : ℕ) → 1 ≤ T → t ≤ u → up t T ≤ up u T
up_rises T t u pos h = down_rises T (t + (T - 1)) (u + (T - 1)) pos (omega arith)

-- what jobs of a budget C at most T take of a window of length t
pub up_small : (T C t : ℕ) → 1 ≤ T → C ≤ T → up t T * C ≤ t + T
up_small T C t pos h =
    let most : up t T * C ≤ up t T * T = mul-le-mul (le_refl (up t T)) h in
    let back : up t T * T ≤ t + (T - 1) = div-mul-le_self (t + (T - 1)) T in
    omega arith

pub down_small : (T C t : ℕ) → C ≤ T → (down t T + 1) * C ≤ t + T
down_small T C t h =
    let most : (down t T + 1) * C ≤ (down t T + 1) * T = mul-le-mul (le_refl (down t T + 1)) h in
    let back : down t T * T ≤ t = div-mul-le_self t T in
    omega arith

-- the jobs that arrive up to t number at most those of a longer window
pub down-up : (T t u : ℕ) → 1 ≤ T → t < u → down t T + 1 ≤ up u T
down-up T t u pos h = rw (← add-div_right t pos) (down_rises T (t + T) (u + (T - 1)) pos (omega arith))
