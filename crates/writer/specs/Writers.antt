-- What a writer holds. Assumes nothing.
use Rattle.std.specs.Prelude.{◌≡◌, ℕ, List, length, Result}
use Rattle.row.specs.Rows.{numbers_of}
use Rattle.row.specs.declared.rows.Row.{Row}
use Rattle.format.specs.declared.places.Place.{Place}
use Rattle.format.specs.Records.{Item, row, end}
use Rattle.format.specs.Writing.{write_at, finish_at, buffer_after, place_after_write}
use Rattle.format.specs.declared.records.WriteFault.{WriteFault}
use Rattle.writer.specs.declared.writer.Writer.{Writer}

abbrev pub place_of : Writer → Place
place_of w = w.place

abbrev pub buffer_of : Writer → List ℕ
buffer_of w = w.buffer.now

abbrev pub row_item : Row → Item
row_item r = row (numbers_of r)

-- a write of a record: the defined answer, and what it leaves in the same buffer, and the place
pub record Wrote (before after : Writer) (i : Item) (r : Result (Unit {0}) WriteFault) : Type 0 where
  pub answer : r ≡ write_at (length (buffer_of before)) (place_of before) i
  pub buffer : buffer_of after ≡ buffer_after (buffer_of before) (place_of before) i r
  pub place : place_of after ≡ place_after_write (place_of before) i r
  pub same : after.buffer.ghost_name ≡ before.buffer.ghost_name

-- finishing writes the end record and answers the length of the line-up
pub record Finished (before after : Writer) (r : Result ℕ WriteFault) : Type 0 where
  pub answer : r ≡ finish_at (length (buffer_of before)) (place_of before)
  pub wrote : Wrote before after end (write_at (length (buffer_of before)) (place_of before) end)
