-- What a replay of a list leaves in its log. Assumes nothing.
use Rattle.std.specs.Prelude.{Option, min, List, length}
use Rattle.law.specs.Answer.{Answer}
use Rattle.law.specs.declared.calls.Call.{Call}
use Rattle.law.specs.declared.calls.Step.{Step}
use Rattle.law.specs.declared.calls.TurnNumbers.{TurnNumbers}
use Rattle.law.specs.History.{History, logged, logged_by, logged_steps}

-- The history of the lines that the log has room for. `makes` gives the call that a line makes when this turn is open,
-- and `past` is the line that is read past the end of the list.
abbrev pub replayed_by : {L : Type 0} → (Option TurnNumbers → L → Call) → L → List L → List Answer → History
replayed_by makes past lines log = logged_by makes past lines log (min (length lines) (length log))

-- of a list of calls
abbrev pub replayed : List Call → List Answer → History
replayed calls log = logged calls log (min (length calls) (length log))

-- of a list of steps
abbrev pub replayed_steps : List Step → List Answer → History
replayed_steps steps log = logged_steps steps log (min (length steps) (length log))
