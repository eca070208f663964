use Rattle.std.proofs.Common.{◌≡◌, take, vec_items}
use Rattle.script.specs.Hex.{digits_of, spelt, Half}
use Rattle.script.proofs.hex.decode.Given as goal

-- the digits so far are those of the bytes and of the half
abbrev pub invariant-loop-at : goal.invariant-loop-at
invariant-loop-at l = (digits_of (take l.at l.text) ≡ spelt (vec_items l.bytes) l.high) × Half l.high
