-- Bytes in hexadecimal. Assumes nothing.
use Rattle.std.specs.Prelude.{◌≡◌, ℕ, ◌/◌, ◌%◌, ◌<◌, ◌≤◌, Bool, true, false, cond, ◌||◌, List, [], ◌∷◌, ◌++◌, length, is_some, Some, None, Option, ◌==◌, slice_index}
use Rattle.std.specs.Char.{digit_value}
use Rattle.script.specs.declared.hex.HexFault.{HexFault}
use Rattle.script.specs.declared.hex.HexFault.TheVariants.{NoDigit, OddDigits, TooLong, NoMemory}

-- spaces and tabs are passed over
abbrev pub is_white : ℕ → Bool
is_white c = c == 32 || c == 9

-- the value of a digit, upper or lower case
abbrev pub hex_value : ℕ → ℕ
hex_value c = digit_value c

abbrev pub HexDigit : ℕ → Type 0
HexDigit c = hex_value c < 16

-- the values of the digits of a text
abbrev pub digits_of : List ℕ → List ℕ
digits_of [] = []
digits_of (c ∷ cs) = cond (is_white c) (digits_of cs) (hex_value c ∷ digits_of cs)

-- the two digits of each byte
abbrev pub halves : List ℕ → List ℕ
halves [] = []
halves (b ∷ bs) = b / 16 ∷ b % 16 ∷ halves bs

-- the text spells these bytes: its digits are theirs
abbrev pub Decoded : List ℕ → List ℕ → Type 0
Decoded text bytes = digits_of text ≡ halves bytes

-- why a text spells no bytes, or more than 2,048
abbrev pub Undecoded : List ℕ → HexFault → Type 0
Undecoded text (NoDigit at) = (at < length text) × (is_white (slice_index text at) ≡ false) × (HexDigit (slice_index text at) → ⊥)
Undecoded text OddDigits = length (digits_of text) % 2 ≡ 1
Undecoded text TooLong = 4096 < length (digits_of text)
Undecoded text NoMemory = Unit {0}

-- the digits of whole bytes, and of half a byte if there is one
abbrev pub spelt : List ℕ → Option ℕ → List ℕ
spelt bytes None = halves bytes
spelt bytes (Some h) = halves bytes ++ h ∷ []

abbrev pub Half : Option ℕ → Type 0
Half None = Unit {0}
Half (Some h) = h < 16

-- why a byte is not taken in
abbrev pub NotPut : List ℕ → Option ℕ → HexFault → Type 0
NotPut bytes high (NoDigit at) = ⊥
NotPut bytes high OddDigits = ⊥
NotPut bytes high TooLong = (2048 ≤ length bytes) × (is_some high ≡ true)
NotPut bytes high NoMemory = Unit {0}
