-- What a reader holds, and its answers by what they say. Assumes nothing.
use Rattle.std.specs.Prelude.{ℕ, List, Some, None, Ok, Err, Option, Result}
use Rattle.row.specs.declared.faults.Refusal.{Refusal}
use Rattle.format.specs.declared.places.Place.{Place}
use Rattle.format.specs.Records.{Item, item_of}
use Rattle.format.specs.declared.records.ReadFault.{ReadFault}
use Rattle.format.specs.declared.records.Record.{Record}
use Rattle.reader.specs.declared.reader.Reader.{Reader}

abbrev pub place_of : Reader → Place
place_of r = r.place

abbrev pub input_of : Reader → List ℕ
input_of r = r.input.now

abbrev pub item_read : Result Record Refusal → Result Item Refusal
item_read (Ok r) = Ok (item_of r)
item_read (Err e) = Err e

abbrev pub answer_of : Result (Option Record) ReadFault → Result (Option Item) ReadFault
answer_of (Ok (Some r)) = Ok (Some (item_of r))
answer_of (Ok None) = Ok None
answer_of (Err e) = Err e
