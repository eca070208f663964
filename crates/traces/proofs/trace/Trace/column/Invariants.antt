use Rattle.std.proofs.Common.{◌≡◌, ℕ, ◌<◌, length, get_or}
use Rattle.traces.specs.Traces.{mark_at}
use Rattle.traces.specs.declared.marks.Mark.TheVariants.{Absent}
use Rattle.traces.proofs.trace.Trace.column.Given as goal

abbrev pub invariant-loop-row : goal.invariant-loop-row
invariant-loop-row l = (length l.marks ≡ 32) × ((k : ℕ) → k < l.row → get_or l.marks k Absent ≡ mark_at l.self l.work l.outcome k)
