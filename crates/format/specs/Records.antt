-- The records of a line-up, by what they say. Assumes nothing.
use Rattle.std.specs.Prelude.{ℕ, List, Ok, Err, Result}
use Rattle.std.specs.Borrow.{Bor}
use Rattle.row.specs.declared.faults.Fault.{Fault}
use Rattle.row.specs.declared.faults.Layer.TheVariants as layers
use Rattle.row.specs.declared.faults.Refusal.{Refusal}
use Rattle.row.specs.declared.rows.RowNumbers.{RowNumbers}
use Rattle.format.specs.declared.records.ReadFault.{ReadFault}
use Rattle.format.specs.declared.records.WriteFault.{WriteFault}
use Rattle.format.specs.declared.records.Record.{Record}
use Rattle.format.specs.declared.records.Record.TheVariants as records

-- a row by its numbers; a label by the offset of its first byte and its bytes; the end
pub data Item : Type 0 where
  row : RowNumbers → Item
  label : ℕ → List ℕ → Item
  end : Item

abbrev pub item_of : Record → Item
item_of (records.Row n) = row n
item_of (records.Label offset bytes) = label offset bytes.now
item_of records.End = end

-- a fault of the reader, as the layers above see it
abbrev pub fault_of : ReadFault → Fault
fault_of e = record { refusal = e.refusal; layer = layers.Reader; place = e.offset }

-- a fault of the writer
abbrev pub write_fault_of : WriteFault → Fault
write_fault_of e = record { refusal = e.refusal; layer = layers.Writer; place = e.place }

-- what a read of a label gave, by the bytes of the input
abbrev pub bytes_read : Result (Bor (List ℕ)) Refusal → Result (List ℕ) Refusal
bytes_read (Ok bytes) = Ok bytes.now
bytes_read (Err e) = Err e
