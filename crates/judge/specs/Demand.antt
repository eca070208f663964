-- How much processor time the rows above a row may ask for. Assumes nothing.
use Rattle.std.specs.Prelude.{ℕ, ◌+◌, ◌-◌, ◌*◌, ◌/◌, List, sum_by}
use Rattle.row.specs.Rows.{period_of, short_of}
use Rattle.row.specs.declared.rows.Row.{Row}
use Rattle.row.specs.declared.rows.Row.TheVariants.{Track, Helper}

-- the quotient rounded up and down
abbrev pub up : ℕ → ℕ → ℕ
up a b = (a + (b - 1)) / b

abbrev pub down : ℕ → ℕ → ℕ
down a b = a / b

-- what one row above takes of a window of length t in which every job is normal
abbrev pub normal_share : ℕ → Row → ℕ
normal_share t r = up t (period_of r) * short_of r

-- what one row above takes of a window of length t in which the mode turns abnormal at instant s:
-- a helper arrives up to s only; a track arrives throughout, and its jobs from s on may be abnormal
abbrev pub late_share : ℕ → ℕ → Row → ℕ
late_share s t (Track r) = up t r.period * r.short + up (t - s) r.period * (r.long - r.short)
late_share s t (Helper r) = (down s r.period + 1) * r.short

-- what one row above takes before a job that starts at instant t, arrivals at t included
abbrev pub start_share : ℕ → Row → ℕ
start_share t r = (down t (period_of r) + 1) * short_of r

-- the demand of a window of length t: a first budget of its own, and what each row above takes
abbrev pub demand_by : (ℕ → Row → ℕ) → List Row → ℕ → ℕ → ℕ
demand_by share above own t = own + sum_by (share t) above

abbrev pub normal_demand : List Row → ℕ → ℕ → ℕ
normal_demand above own t = demand_by normal_share above own t

abbrev pub late_demand : List Row → ℕ → ℕ → ℕ → ℕ
late_demand above budget s t = demand_by (late_share s) above budget t

abbrev pub start_demand : List Row → ℕ → ℕ
start_demand above t = sum_by (start_share t) above
