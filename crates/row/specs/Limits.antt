-- The limits that every row keeps. Assumes nothing.
use Rattle.std.specs.Prelude.{ℕ, ◌≤◌, Bool, ◌&&◌, nat_le}

-- period T, deadline D, short budget C and long budget L, in ticks: 1 ≤ C ≤ L ≤ D ≤ T ≤ 262,143
abbrev pub Limits : ℕ → ℕ → ℕ → ℕ → Type 0
Limits T D C L = (1 ≤ C) × (C ≤ L) × (L ≤ D) × (D ≤ T) × (T ≤ 262143)

-- the same as a test
abbrev pub within : ℕ → ℕ → ℕ → ℕ → Bool
within T D C L = nat_le 1 C && (nat_le C L && (nat_le L D && (nat_le D T && nat_le T 262143)))
