-- Decoding a whole line-up, record by record. Assumes nothing.
use Rattle.std.specs.Prelude.{ℕ, zero, suc, ◌+◌, List, [], ◌∷◌, length, Some, None, Ok, Err, Option, Result}
use Rattle.row.specs.declared.rows.RowNumbers.{RowNumbers}
use Rattle.format.specs.Reading.{start, read_at, behind}
use Rattle.format.specs.declared.places.Place.{Place}
use Rattle.format.specs.Records.{Item, row, label, end}
use Rattle.format.specs.declared.records.ReadFault.{ReadFault}

abbrev pub map_ok : {X Y E : Type 0} → (X → Y) → Result X E → Result Y E
map_ok f (Ok x) = Ok (f x)
map_ok f (Err e) = Err e

-- what a read gave, and then the records behind it
abbrev pub followed : Place → Result (Option Item) ReadFault → (Place → Result (List Item) ReadFault) → Result (List Item) ReadFault
followed p (Ok (Some i)) more = map_ok (λ is. i ∷ is) (more (behind p i))
followed p (Ok None) more = Ok []
followed p (Err e) more = Err e

-- the records from place p on, or the first fault, in at most so many reads
unfoldable pub decode_from : ℕ → List ℕ → Place → Result (List Item) ReadFault
decode_from zero input p = Ok []
decode_from (suc reads) input p = followed p (read_at input p) (decode_from reads input)

-- the records of a line-up, the end record last. Every record takes a byte, and one more read finds none left
abbrev pub decode : List ℕ → Result (List Item) ReadFault
decode input = decode_from (length input + 1) input start

-- the rows among the records, in their order
abbrev pub rows_among : List Item → List RowNumbers
rows_among [] = []
rows_among (row n ∷ is) = n ∷ rows_among is
rows_among (label offset bytes ∷ is) = rows_among is
rows_among (end ∷ is) = rows_among is
