-- The numbers that a generator gives: a linear congruential sequence modulo 2^64, of which the upper half is used.
use Rattle.std.specs.Prelude.{ℕ, ◌+◌, ◌*◌, ◌/◌, ◌%◌, ◌^◌, max}

-- The state behind a state.
abbrev pub after : ℕ → ℕ
after s = (s * 6364136223846793005 % 2 ^ 64 + 1442695040888963407) % 2 ^ 64

-- The number below n, or 0 where n is 0, that a state gives.
abbrev pub drawn : ℕ → ℕ → ℕ
drawn s n = s / 2 ^ 32 % max n 1
