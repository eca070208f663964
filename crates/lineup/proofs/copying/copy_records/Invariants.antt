use Rattle.std.proofs.Common.{◌≡◌, ◌-◌, length}
use Rattle.reader.specs.Readers.{input_of, place_of as readerPlace}
use Rattle.writer.specs.Writers.{buffer_of, place_of}
use Rattle.lineup.proofs.Copied.{Copied}
use Rattle.lineup.proofs.copying.copy_records.Given as goal

abbrev pub invariant-loop-seen : goal.invariant-loop-seen
invariant-loop-seen l =
    (input_of l.reader ≡ l.input) × (place_of l.writer ≡ readerPlace l.reader)
    × (l.writer.buffer.ghost_name ≡ l.initial.writer.buffer.ghost_name)
    × Copied l.input (buffer_of l.initial.writer) (buffer_of l.writer) (readerPlace l.reader)

abbrev pub decreases-loop-seen : goal.decreases-loop-seen
decreases-loop-seen l = length l.input - l.reader.place.at
