-- What a session answers. Assumes nothing.
use Rattle.std.specs.Prelude.{Result}
use Rattle.row.specs.declared.faults.Fault.{Fault}
use Rattle.law.specs.declared.calls.Reply.{Reply}

-- the reply to a call that it accepts, or why it refuses
abbrev pub Answer : Type 0
Answer = Result Reply Fault
