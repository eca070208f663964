use Rattle.std.proofs.Common.{◌≡◌, map, length, take}
use Rattle.row.specs.Rows.{numbers_of}
use Rattle.judge.proofs.judging.make_rows.Given as goal

-- the rows so far have the numbers given
abbrev pub invariant-loop-numbers : goal.invariant-loop-numbers
invariant-loop-numbers l = (length l.rows.items ≡ l.numbers-index) × (map numbers_of l.rows.items ≡ take l.numbers-index l.given)
