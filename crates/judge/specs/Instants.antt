-- Late finishes counted from their instant. Assumes nothing.
use Rattle.std.specs.Prelude.{◌≡◌, ℕ, ◌-◌, List}
use Rattle.row.specs.declared.rows.Row.{Row}
use Rattle.judge.specs.Bounds.{LateFinish}

-- v is the late finish at first budget B and instant s, counted from the instant
abbrev pub FinishFrom : List Row → ℕ → ℕ → ℕ → Type 0
FinishFrom above B s v = (F : ℕ) × LateFinish above B s F × (v ≡ F - s)
