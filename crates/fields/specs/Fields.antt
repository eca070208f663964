-- Bit fields of a list of bytes, most significant bit first. Assumes nothing.
use Rattle.std.specs.Prelude.{◌≡◌, ℕ, zero, suc, ◌+◌, ◌-◌, ◌*◌, ◌/◌, ◌%◌, ◌^◌, ◌<◌, ◌≤◌, Bool, ◌&&◌, List, length, nat_le, nat_lt, slice_index}

-- bit p, counted from the most significant bit of the first byte; 0 past the end
abbrev pub bit_at : List ℕ → ℕ → ℕ
bit_at bs p = slice_index bs (p / 8) / 2 ^ (7 - p % 8) % 2

-- the number whose w binary digits are f 0, f 1, .., most significant first
unfoldable pub value_of : (ℕ → ℕ) → ℕ → ℕ
value_of f zero = 0
value_of f (suc w) = value_of f w * 2 + f w

-- the field of w bits that begins at bit o
abbrev pub field : List ℕ → ℕ → ℕ → ℕ
field bs o w = value_of (λ i. bit_at bs (o + i)) w

-- a number with v in place of the w binary digits before its last t
abbrev pub with_field : ℕ → ℕ → ℕ → ℕ → ℕ
with_field n t w v = (n / 2 ^ t / 2 ^ w * 2 ^ w + v) * 2 ^ t + n % 2 ^ t

-- the field of w bits at bit o lies in so many bytes, has at most 32 bits, and these hold v
abbrev pub fits : ℕ → ℕ → ℕ → ℕ → Bool
fits size o w v = nat_le w 32 && (nat_le (o + w) (8 * size) && nat_lt v (2 ^ w))

-- the field of w bits at bit o was written with v, and no other bit changed
pub record Packed (old new : List ℕ) (o w v : ℕ) : Type 0 where
  pub long : length new ≡ length old
  pub inside : field new o w ≡ v
  pub before : (p : ℕ) → p < o → bit_at new p ≡ bit_at old p
  pub behind : (p : ℕ) → o + w ≤ p → bit_at new p ≡ bit_at old p
