-- What a session's answers look like in print. Assumes nothing.
use Rattle.std.specs.Prelude.{ℕ, List, ◌++◌, Some, None, Option, codes}
use Rattle.std.specs.Fmt.{decimal}
use Rattle.law.specs.declared.calls.Outcome.{Outcome}
use Rattle.law.specs.declared.calls.Outcome.TheVariants.{Idle, GoesOn, Finished, Cut}
use Rattle.law.specs.declared.calls.Reply.{Reply}
use Rattle.law.specs.declared.calls.Reply.TheVariants.{Block, Turn, Done}
use Rattle.law.specs.declared.calls.Work.{Work}

abbrev pub outcome_text : Outcome → List ℕ
outcome_text Idle = codes "idle"
outcome_text GoesOn = codes "goes on"
outcome_text Finished = codes "finished"
outcome_text Cut = codes "cut"

abbrev pub work_text : Work → List ℕ
work_text w = codes "row " ++ decimal w.row ++ codes " block " ++ decimal w.block

-- of a turn, what it is for
abbrev pub turn_text : Option Work → List ℕ
turn_text (Some w) = work_text w
turn_text None = codes "idle"

abbrev pub reply_text : Reply → List ℕ
reply_text (Block b) = codes "block " ++ decimal b
reply_text (Turn t) = turn_text t.work
reply_text (Done o) = outcome_text o
