-- Encoding: from records to bytes. Assumes nothing.
use Rattle.std.specs.Prelude.{◌≡◌, ℕ, zero, suc, ◌+◌, ◌-◌, ◌*◌, ◌/◌, ◌%◌, ◌^◌, ◌<◌, ◌≤◌, true, List, [], ◌∷◌, ◌++◌, length, take, drop, fold}
use Rattle.row.specs.Rows.{keeps}
use Rattle.row.specs.declared.rows.RowNumbers.{RowNumbers}
use Rattle.row.specs.declared.rows.RowNumbers.TheVariants.{Track, Helper}
use Rattle.format.specs.Reading.{rows_in}
use Rattle.format.specs.Records.{Item, row, label, end}

-- fields of (width, value), most significant first, as one number
abbrev pub number_of : List (ℕ × ℕ) → ℕ
number_of fields = fold (λ n f. n * 2 ^ f.0 + f.1) 0 fields

-- how many bits the fields take
abbrev pub bits_of : List (ℕ × ℕ) → ℕ
bits_of fields = fold (λ n f. n + f.0) 0 fields

-- a field has 1 to 32 bits, which hold its value
abbrev pub FieldFits : ℕ × ℕ → Type 0
FieldFits f = (1 ≤ f.0) × (f.0 ≤ 32) × (f.1 < 2 ^ f.0)

-- a number as n bytes, most significant byte first
unfoldable pub big_endian : ℕ → ℕ → List ℕ
big_endian zero v = []
big_endian (suc n) v = v / 2 ^ (8 * n) % 256 ∷ big_endian n v

-- the fields of a row: kind, T, D, C, for a track L, and the filling
abbrev pub row_fields : RowNumbers → List (ℕ × ℕ)
row_fields (Helper T D C) = (3, 0) ∷ (18, T) ∷ (18, D) ∷ (18, C) ∷ (7, 0) ∷ []
row_fields (Track T D C L) = (3, 1) ∷ (18, T) ∷ (18, D) ∷ (18, C) ∷ (18, L) ∷ (5, 0) ∷ []

-- a row takes 8 or 10 bytes
abbrev pub row_bytes : RowNumbers → List ℕ
row_bytes (Helper T D C) = big_endian 8 (number_of (row_fields (Helper T D C)))
row_bytes (Track T D C L) = big_endian 10 (number_of (row_fields (Track T D C L)))

-- kind 2 and the length, then the label
abbrev pub label_bytes : List ℕ → List ℕ
label_bytes bytes = (0x40 + length bytes) ∷ bytes

-- kind 3 and the number of rows less one, of which 5 bits have room
abbrev pub end_bytes : ℕ → List ℕ
end_bytes rows = (0x60 + (rows - 1) % 32) ∷ []

-- the bytes of a record behind so many rows
abbrev pub record_bytes : ℕ → Item → List ℕ
record_bytes rows (row n) = row_bytes n
record_bytes rows (label offset bytes) = label_bytes bytes
record_bytes rows end = end_bytes rows

-- a row keeps the limits, a label has at most 31 bytes, and an end record comes behind a row
abbrev pub Encodable : ℕ → Item → Type 0
Encodable rows (row n) = keeps n ≡ true
Encodable rows (label offset bytes) = length bytes ≤ 31
Encodable rows end = 1 ≤ rows

-- the bytes of records behind so many rows
abbrev pub encode_from : ℕ → List Item → List ℕ
encode_from rows [] = []
encode_from rows (i ∷ is) = record_bytes rows i ++ encode_from (rows + rows_in i) is

abbrev pub encode : List Item → List ℕ
encode items = encode_from 0 items

-- a buffer with a piece written at a place, and otherwise as it was
abbrev pub overwritten : List ℕ → ℕ → List ℕ → List ℕ
overwritten buffer at piece = take at buffer ++ (piece ++ drop (at + length piece) buffer)
