-- How many bytes a record takes. Assumes nothing.
use Rattle.std.proofs.Common.{◌≡◌, ℕ, ◌≤◌, length, sym, refl, one-add, arith}
use Rattle.row.specs.declared.rows.RowNumbers.TheVariants.{Track, Helper}
use Rattle.format.specs.Encoding.{record_bytes, number_of, row_fields}
use Rattle.format.specs.Reading.{size_of}
use Rattle.format.specs.Records.{Item, row, label, end}
use Rattle.format.proofs.Bytes.{length_big}

pub size_pos : (i : Item) → 1 ≤ size_of i
size_pos (row (Helper T D C)) = omega arith
size_pos (row (Track T D C L)) = omega arith
size_pos (label o bs) = omega arith
size_pos end = omega arith

-- a record takes as many bytes as its size says
pub record_long : (rows : ℕ) (i : Item) → length (record_bytes rows i) ≡ size_of i
record_long rows (row (Helper T D C)) = length_big 8 (number_of (row_fields (Helper T D C)))
record_long rows (row (Track T D C L)) = length_big 10 (number_of (row_fields (Track T D C L)))
record_long rows (label offset bytes) = sym (one-add (length bytes))
record_long rows end = refl
