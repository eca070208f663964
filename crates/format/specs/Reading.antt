-- Decoding one record. `rest` is what is left of the input, from the record's first byte on. Assumes nothing.
use Rattle.std.specs.Prelude.{ℕ, ◌+◌, ◌%◌, ◌^◌, Bool, true, false, cond, ◌&&◌, List, length, take, drop, Some, None, Ok, Err, Option, Result, ◌==◌, nat_le, nat_lt}
use Rattle.std.specs.List.{list_all}
use Rattle.row.specs.Rows.{keeps}
use Rattle.row.specs.declared.faults.Refusal.{Refusal}
use Rattle.row.specs.declared.faults.Refusal.TheVariants.{UnknownKind, InputEnds, FillingNotZero, BadLabel, OutsideLimits, TooManyRows, WrongCount, AfterEnd}
use Rattle.row.specs.declared.rows.RowNumbers.{RowNumbers}
use Rattle.row.specs.declared.rows.RowNumbers.TheVariants.{Track, Helper}
use Rattle.fields.specs.Fields.{field}
use Rattle.format.specs.declared.places.Place.{Place}
use Rattle.format.specs.declared.records.ReadFault.{ReadFault}
use Rattle.format.specs.Records.{Item, row, label, end}

-- a row's numbers are within the limits, and it is at most the 32nd
abbrev pub row_of : RowNumbers → ℕ → Result RowNumbers Refusal
row_of numbers rows = cond (keeps numbers) (cond (nat_lt rows 32) (Ok numbers) (Err TooManyRows)) (Err OutsideLimits)

-- a row of `size` bytes whose last bits, from bit `filling` on, are to be zero
abbrev pub row_in : List ℕ → ℕ → ℕ → RowNumbers → ℕ → Result RowNumbers Refusal
row_in rest size filling numbers rows =
    cond (nat_lt (length rest) size) (Err InputEnds)
    (cond (filling == 0) (row_of numbers rows) (Err FillingNotZero))

-- T, D and C of 18 bits each, behind the kind
abbrev pub times_in : List ℕ → ℕ × ℕ × ℕ
times_in rest = (field rest 3 18, field rest 21 18, field rest 39 18)

-- kind 0: T, D, C, 7 zero bits
abbrev pub helper_in : List ℕ → ℕ → Result RowNumbers Refusal
helper_in rest rows = row_in rest 8 (field rest 57 7) (Helper (times_in rest).0 (times_in rest).1 (times_in rest).2) rows

-- kind 1: T, D, C, L of 18 bits, 5 zero bits
abbrev pub track_in : List ℕ → ℕ → Result RowNumbers Refusal
track_in rest rows = row_in rest 10 (field rest 75 5) (Track (times_in rest).0 (times_in rest).1 (times_in rest).2 (field rest 57 18)) rows

abbrev pub printable : ℕ → Bool
printable b = nat_le 0x20 b && nat_le b 0x7e

abbrev pub all_printable : List ℕ → Bool
all_printable bs = list_all printable bs

-- a label has 1 to 31 bytes from 20 to 7E (hexadecimal) and stands directly behind a row
abbrev pub good_label : List ℕ → Bool → Bool
good_label bytes after_row = after_row && (nat_lt 0 (length bytes) && all_printable bytes)

-- kind 2: a length of 5 bits, then that many bytes
abbrev pub label_in : List ℕ → Bool → Result (List ℕ) Refusal
label_in rest after_row =
    cond (nat_lt (length rest) (1 + field rest 3 5)) (Err InputEnds)
    (cond (good_label (take (field rest 3 5) (drop 1 rest)) after_row) (Ok (take (field rest 3 5) (drop 1 rest))) (Err BadLabel))

-- kind 3: 5 bits with the number of rows less one; nothing follows
abbrev pub end_in : List ℕ → ℕ → Result (Unit {0}) Refusal
end_in rest rows =
    cond (field rest 3 5 + 1 == rows) (cond (nat_lt 1 (length rest)) (Err AfterEnd) (Ok tt)) (Err WrongCount)

abbrev pub as_row : Result RowNumbers Refusal → Result Item Refusal
as_row (Ok n) = Ok (row n)
as_row (Err e) = Err e

abbrev pub as_label : ℕ → Result (List ℕ) Refusal → Result Item Refusal
as_label at (Ok bs) = Ok (label (at + 1) bs)
as_label at (Err e) = Err e

abbrev pub as_end : Result (Unit {0}) Refusal → Result Item Refusal
as_end (Ok u) = Ok end
as_end (Err e) = Err e

-- the record that begins with the first byte of `rest`, by its kind; `at` is its offset, `rows` counts the rows before it
abbrev pub record_in : List ℕ → ℕ → ℕ → Bool → Result Item Refusal
record_in rest at rows after_row =
    cond (length rest == 0) (Err InputEnds)
    (cond (field rest 0 3 == 0) (as_row (helper_in rest rows))
    (cond (field rest 0 3 == 1) (as_row (track_in rest rows))
    (cond (field rest 0 3 == 2) (as_label at (label_in rest after_row))
    (cond (field rest 0 3 == 3) (as_end (end_in rest rows)) (Err UnknownKind)))))

-- how many bytes a record takes
abbrev pub size_of : Item → ℕ
size_of (row (Helper T D C)) = 8
size_of (row (Track T D C L)) = 10
size_of (label offset bytes) = 1 + length bytes
size_of end = 1

-- how many rows a record counts for
abbrev pub rows_in : Item → ℕ
rows_in (row n) = 1
rows_in (label offset bytes) = 0
rows_in end = 0

abbrev pub is_row : Item → Bool
is_row (row n) = true
is_row (label offset bytes) = false
is_row end = false

abbrev pub is_end : Item → Bool
is_end (row n) = false
is_end (label offset bytes) = false
is_end end = true

abbrev pub start : Place
start = record { at = 0; rows = 0; after_row = false; ended = false }

-- where the reader stands behind a record
abbrev pub behind : Place → Item → Place
behind p i = record { at = p.at + size_of i; rows = p.rows + rows_in i; after_row = is_row i; ended = is_end i }

-- a place with numbers of 64 bits
abbrev pub wrapped : Place → Place
wrapped p = record p { at = p.at % 2 ^ 64; rows = p.rows % 2 ^ 64 }

-- the record, or the fault at the offset of the record
abbrev pub fault_at : ℕ → Result Item Refusal → Result (Option Item) ReadFault
fault_at at (Ok i) = Ok (Some i)
fault_at at (Err e) = Err (record { refusal = e; offset = at })

-- what a read at place p of the input gives; behind the end record none is left
abbrev pub read_at : List ℕ → Place → Result (Option Item) ReadFault
read_at input p = cond p.ended (Ok None) (fault_at p.at (record_in (drop p.at input) p.at p.rows p.after_row))

-- where the reader stands after a read: behind the record, or still in its place
abbrev pub place_after : Place → Result (Option Item) ReadFault → Place
place_after p (Ok (Some i)) = behind p i
place_after p (Ok None) = p
place_after p (Err e) = p
