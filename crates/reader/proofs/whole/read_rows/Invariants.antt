use Rattle.std.proofs.Common.{◌≡◌, ◌-◌, length}
use Rattle.reader.specs.Readers.{place_of, input_of}
use Rattle.reader.specs.RowLists.{rows_of}
use Rattle.reader.proofs.Collecting.{Collecting}
use Rattle.reader.proofs.whole.read_rows.Given as goal

abbrev pub invariant-loop-seen : goal.invariant-loop-seen
invariant-loop-seen l =
    (input_of l.reader ≡ l.input) × (l.rows.count ≡ l.reader.place.rows)
    × Collecting l.input (place_of l.reader) (rows_of l.rows)

abbrev pub decreases-loop-seen : goal.decreases-loop-seen
decreases-loop-seen l = length l.input - l.reader.place.at
