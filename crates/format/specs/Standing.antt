-- Which records stand behind one another in a line-up. Assumes nothing.
use Rattle.std.specs.Prelude.{◌≡◌, ◌+◌, true, false, List, [], ◌∷◌}
use Rattle.format.specs.Reading.{behind}
use Rattle.format.specs.declared.places.Place.{Place}
use Rattle.format.specs.Records.{Item, row, label, end}
use Rattle.format.specs.Writing.{RowKept, may_stand}

-- a label's first byte stands one behind the record's
abbrev pub OffsetKept : Place → Item → Type 0
OffsetKept p (row n) = Unit {0}
OffsetKept p (label offset bytes) = offset ≡ p.at + 1
OffsetKept p end = Unit {0}

-- the record may stand at the place
pub record Stands (p : Place) (i : Item) : Type 0 where
  pub unended : p.ended ≡ false
  pub placed : may_stand p i ≡ true
  pub kept : RowKept i
  pub offset : OffsetKept p i

-- each record may stand where it stands, from the first place to the last
unfoldable pub Follows : Place → List Item → Place → Type 0
Follows p [] q = p ≡ q
Follows p (i ∷ is) q = Stands p i × Follows (behind p i) is q
