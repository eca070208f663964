use Rattle.std.proofs.Common.{◌≡◌, ◌*◌, ◌≤◌, length}
use Rattle.judge.specs.Plan.{rows_of, bounds_of}
use Rattle.lineup_check.specs.Lines.{lines_to}
use Rattle.lineup_check.proofs.lines.bound_lines.Given as goal

abbrev pub invariant-loop-place : goal.invariant-loop-place
invariant-loop-place l =
    (l.text.bytes ≡ lines_to l.place (rows_of l.plan) (bounds_of l.plan)) × (length l.text.bytes ≤ 46 * l.place)
