-- What a row does in one tick, and the mark that stands for it. Assumes nothing.
use Rattle.std.specs.Prelude.{ℕ, Bool, true, false, Some, None, Option}
use Rattle.law.specs.declared.calls.Outcome.{Outcome}
use Rattle.law.specs.declared.calls.Outcome.TheVariants.{Idle, GoesOn, Finished, Cut}
use Rattle.traces.specs.declared.marks.Mark.{Mark}
use Rattle.traces.specs.declared.marks.Mark.TheVariants.{Absent, Waits, Runs, Finishes, IsCut}

-- A row without an unended job has no mark. One with a job waits, or the tick goes to it, and then the outcome tells what became of the job.
abbrev pub doing : Bool → Option Outcome → Mark
doing arrives None = Waits arrives
doing arrives (Some Idle) = Waits arrives
doing arrives (Some GoesOn) = Runs arrives
doing arrives (Some Finished) = Finishes arrives
doing arrives (Some Cut) = IsCut arrives

abbrev pub mark_of : Option Bool → Option Outcome → Mark
mark_of None outcome = Absent
mark_of (Some arrives) outcome = doing arrives outcome

-- space ( . [ # I ] X x
abbrev pub symbol_of : Mark → ℕ
symbol_of Absent = 32
symbol_of (Waits true) = 40
symbol_of (Waits false) = 46
symbol_of (Runs true) = 91
symbol_of (Runs false) = 35
symbol_of (Finishes true) = 73
symbol_of (Finishes false) = 93
symbol_of (IsCut true) = 88
symbol_of (IsCut false) = 120
