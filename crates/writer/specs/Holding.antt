-- What a writer has written, as a list of records. Assumes nothing.
use Rattle.std.specs.Prelude.{◌≡◌, ℕ, ◌≤◌, List, [], ◌∷◌, ◌++◌, length, take, Ok, Err, Result}
use Rattle.format.specs.Decoding.{decode}
use Rattle.format.specs.Encoding.{encode}
use Rattle.format.specs.Reading.{start}
use Rattle.format.specs.Records.{Item, end}
use Rattle.format.specs.Standing.{Follows}
use Rattle.format.specs.declared.records.WriteFault.{WriteFault}
use Rattle.writer.specs.Writers.{place_of, buffer_of}
use Rattle.writer.specs.declared.writer.Writer.{Writer}

-- the bytes before the writer's place are those of the records, each of which may stand where it stands
pub record Holds (w : Writer) (items : List Item) : Type 0 where
  pub bytes : take w.place.at (buffer_of w) ≡ encode items
  pub follows : Follows start items (place_of w)
  pub within : w.place.at ≤ length (buffer_of w)

-- after a write the writer holds one record more, and after a refusal the same records
abbrev pub HoldsMore : {X : Type 0} → Result X WriteFault → Writer → List Item → Item → Type 0
HoldsMore (Ok x) w items i = Holds w (items ++ i ∷ [])
HoldsMore (Err e) w items i = Holds w items

-- the line-up that was finished decodes to the records that were put, with the end record last
abbrev pub ReadsBack : Result ℕ WriteFault → Writer → List Item → Type 0
ReadsBack (Ok n) w items = decode (take n (buffer_of w)) ≡ Ok (items ++ end ∷ [])
ReadsBack (Err e) w items = Unit {0}
