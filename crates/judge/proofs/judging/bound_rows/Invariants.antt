use Rattle.std.proofs.Common.{◌≡◌, length}
use Rattle.judge.proofs.Accepting.{PassTo}
use Rattle.judge.proofs.judging.bound_rows.Given as goal

-- the rows so far pass with the bounds so far
abbrev pub invariant-loop-place : goal.invariant-loop-place
invariant-loop-place l = (length l.bounds.items ≡ l.place) × PassTo l.place l.rows l.bounds.items
