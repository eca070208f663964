-- What the calls of a session answer, in the words of the law. Assumes nothing.
use Rattle.std.specs.Prelude.{ℕ, Some, None, Ok, Err, Option, Result}
use Rattle.row.specs.declared.faults.Fault.{Fault}
use Rattle.law.specs.Answer.{Answer}
use Rattle.law.specs.declared.calls.Reply.{Reply}
use Rattle.law.specs.declared.calls.Reply.TheVariants.{Block, Turn, Done}
use Rattle.law.specs.declared.calls.Outcome.{Outcome}
use Rattle.session.specs.Faults.{fault_in}
use Rattle.session.specs.declared.faults.SessionFault.{SessionFault}
use Rattle.session.specs.declared.turn.NotReported.{NotReported}
use Rattle.session.specs.declared.turn.Turn.{Turn as Token}

-- what a call answers: its reply, or its fault as the law has it
abbrev pub answered : {A : Type 0} → (A → Reply) → Result A SessionFault → Answer
answered reply (Ok x) = Ok (reply x)
answered reply (Err e) = Err (fault_in e)

-- what begin answers
abbrev pub begun : Result Token SessionFault → Answer
begun r = answered (λ t. Turn t.numbers) r

-- what arrive answers
abbrev pub admitted : Result ℕ SessionFault → Answer
admitted r = answered Block r

-- what report answers of a turn that is told by its numbers
abbrev pub settled : Result Outcome SessionFault → Answer
settled r = answered Done r

-- and of a turn token
abbrev pub reported : Result Outcome NotReported → Answer
reported (Ok o) = Ok (Done o)
reported (Err e) = Err (fault_in e.fault)

-- the fault that checks found, if any
abbrev pub found : {A : Type 0} → Result A SessionFault → Option Fault
found (Ok _) = None
found (Err e) = Some (fault_in e)
