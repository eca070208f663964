-- What a tick at once makes of a session. Assumes nothing.
use Rattle.std.specs.Prelude.{Bool, false, List, Ok, Err, Result}
use Rattle.law.specs.declared.calls.Call.TheVariants.{Begin, Report}
use Rattle.law.specs.declared.calls.Outcome.{Outcome}
use Rattle.law.specs.declared.calls.Reply.TheVariants.{Turn, Done}
use Rattle.law.specs.declared.calls.TurnNumbers.{TurnNumbers}
use Rattle.session.specs.Faults.{fault_in}
use Rattle.session.specs.View.{Extended}
use Rattle.session.specs.declared.faults.SessionFault.{SessionFault}
use Rattle.session.specs.declared.session.Session.{Session}

-- whatever the history of s is, that of s' is the same with a turn begun and its report, unfinished, or with begin refused
abbrev pub RunsDue : {B P : Type 0} → (B → List Bool) → (P → List Bool) → Session B P → Result Outcome SessionFault → Session B P → Type 0
RunsDue {B} {P} on free s (Ok o) s' = (t : TurnNumbers) × (m : Session B P) × Extended on free s Begin (Ok (Turn t)) m × Extended on free m (Report t false) (Ok (Done o)) s'
RunsDue on free s (Err e) s' = Extended on free s Begin (Err (fault_in e)) s'
