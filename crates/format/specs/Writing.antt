-- Writing one record behind the last. Assumes nothing.
use Rattle.std.specs.Prelude.{◌≡◌, ℕ, ◌+◌, Bool, true, cond, ◌&&◌, List, length, Ok, Err, Result, nat_le, nat_lt}
use Rattle.row.specs.Rows.{keeps}
use Rattle.row.specs.declared.faults.Refusal.{Refusal}
use Rattle.row.specs.declared.faults.Refusal.TheVariants.{BadLabel, TooManyRows, WrongCount, AfterEnd, NoRoom}
use Rattle.format.specs.Decoding.{map_ok}
use Rattle.format.specs.Encoding.{record_bytes, overwritten}
use Rattle.format.specs.Reading.{behind, size_of, good_label}
use Rattle.format.specs.declared.places.Place.{Place}
use Rattle.format.specs.Records.{Item, row, label, end}
use Rattle.format.specs.declared.records.WriteFault.{WriteFault}

-- a row keeps the limits
abbrev pub RowKept : Item → Type 0
RowKept (row n) = keeps n ≡ true
RowKept (label offset bytes) = Unit {0}
RowKept end = Unit {0}

-- whether the record may stand at the place: at most 32 rows; a label of 1 to 31 printable bytes, behind a row; an end behind rows
abbrev pub may_stand : Place → Item → Bool
may_stand p (row n) = nat_lt p.rows 32
may_stand p (label offset bytes) = nat_le (length bytes) 31 && good_label bytes p.after_row
may_stand p end = nat_lt 0 p.rows

-- and the refusal where it may not
abbrev pub misplaced : Item → Refusal
misplaced (row n) = TooManyRows
misplaced (label offset bytes) = BadLabel
misplaced end = WrongCount

-- what a write answers at a place of a buffer of so many bytes; `ended` says that the writer has finished
abbrev pub write_at : ℕ → Place → Item → Result (Unit {0}) WriteFault
write_at space p i =
    cond p.ended (Err (record { refusal = AfterEnd; place = p.at }))
    (cond (may_stand p i)
    (cond (nat_lt space (p.at + size_of i)) (Err (record { refusal = NoRoom; place = space })) (Ok tt))
    (Err (record { refusal = misplaced i; place = p.at })))

-- the buffer after a write: the record's bytes at the place, or as it was
abbrev pub buffer_after : List ℕ → Place → Item → Result (Unit {0}) WriteFault → List ℕ
buffer_after buffer p i (Ok u) = overwritten buffer p.at (record_bytes p.rows i)
buffer_after buffer p i (Err e) = buffer

-- where the writer stands after it
abbrev pub place_after_write : Place → Item → Result (Unit {0}) WriteFault → Place
place_after_write p i (Ok u) = behind p i
place_after_write p i (Err e) = p

-- a label at a place has its first byte one behind the record's
abbrev pub label_item : Place → List ℕ → Item
label_item p bytes = label (p.at + 1) bytes

-- finishing answers the length of the line-up
abbrev pub finish_at : ℕ → Place → Result ℕ WriteFault
finish_at space p = map_ok (λ u. p.at + 1) (write_at space p end)
