-- Copying a line-up from one buffer to another. Assumes nothing.
use Rattle.std.specs.Prelude.{ℕ, cond, List, ◌++◌, length, drop, Ok, Err, Result, nat_lt}
use Rattle.row.specs.declared.faults.Fault.{Fault}
use Rattle.row.specs.declared.faults.Layer.TheVariants as layers
use Rattle.row.specs.declared.faults.Refusal.TheVariants.{NoRoom}
use Rattle.format.specs.Records.{Item, fault_of}
use Rattle.format.specs.declared.records.ReadFault.{ReadFault}

-- a buffer of so many bytes is too short
abbrev pub no_room : ℕ → Fault
no_room space = record { refusal = NoRoom; layer = layers.Writer; place = space }

-- what a copy of a line-up of `size` bytes answers: its length, or that it does not fit, or the reader's fault
abbrev pub copy_answer : Result (List Item) ReadFault → ℕ → ℕ → Result ℕ Fault
copy_answer (Ok items) size space = cond (nat_lt space size) (Err (no_room space)) (Ok size)
copy_answer (Err e) size space = Err (fault_of e)

-- a buffer that begins with the bytes of another, and is otherwise as it was
abbrev pub copied_over : List ℕ → List ℕ → List ℕ
copied_over input output = input ++ drop (length input) output

-- the output after a copy
abbrev pub output_after : List ℕ → List ℕ → Result ℕ Fault → List ℕ
output_after input output (Ok n) = copied_over input output
output_after input output (Err e) = output
