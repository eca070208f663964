-- A session's fault as the other layers see it. Assumes nothing.
use Rattle.row.specs.declared.faults.Fault.{Fault}
use Rattle.row.specs.declared.faults.Layer.TheVariants.{Session}
use Rattle.session.specs.declared.faults.SessionFault.{SessionFault}

abbrev pub fault_in : SessionFault → Fault
fault_in e = record { refusal = e.refusal; layer = Session; place = e.place }
