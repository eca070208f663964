-- How many blocks a pool has. Assumes nothing.
use Rattle.std.specs.Prelude.{ℕ, min, max}

-- the number of blocks of a pool made for n: n brought into 1 to 64
abbrev pub blocks_for : ℕ → ℕ
blocks_for n = min 64 (max 1 n)
