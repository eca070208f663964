-- The number of each refusal and the word of each layer, as they are printed. Assumes nothing.
use Rattle.std.specs.Prelude.{ℕ, List, ◌++◌, codes, decimal}
use Rattle.row.specs.declared.faults.Refusal.{Refusal}
use Rattle.row.specs.declared.faults.Refusal.TheVariants.{UnknownKind, InputEnds, FillingNotZero, BadLabel, OutsideLimits, TooManyRows, WrongCount, AfterEnd, NoRoom, NormalBound, MixedBound, LongBound, TurnOpen, ClockFull, NotInPlan, AbnormalHelper, TooEarly, HelperInAbnormalMode, JobNotEnded, NoFreeBlock, NotOpenTurn, IdleFinished}
use Rattle.row.specs.declared.faults.Fault.{Fault}
use Rattle.row.specs.declared.faults.Layer.{Layer}
use Rattle.row.specs.declared.faults.Layer.TheVariants.{Reader, Writer, Judge, Session}

abbrev pub number_of : Refusal → ℕ
number_of UnknownKind = 1
number_of InputEnds = 2
number_of FillingNotZero = 3
number_of BadLabel = 4
number_of OutsideLimits = 5
number_of TooManyRows = 6
number_of WrongCount = 7
number_of AfterEnd = 8
number_of NoRoom = 9
number_of NormalBound = 10
number_of MixedBound = 11
number_of LongBound = 12
number_of TurnOpen = 13
number_of ClockFull = 14
number_of NotInPlan = 15
number_of AbnormalHelper = 16
number_of TooEarly = 17
number_of HelperInAbnormalMode = 18
number_of JobNotEnded = 19
number_of NoFreeBlock = 20
number_of NotOpenTurn = 21
number_of IdleFinished = 22

abbrev pub word_of : Layer → List ℕ
word_of Reader = codes "reader"
word_of Writer = codes "writer"
word_of Judge = codes "judge"
word_of Session = codes "session"

-- a fault as it is printed: its number, its layer and its place
abbrev pub fault_text : Fault → List ℕ
fault_text f = codes "refused " ++ decimal (number_of f.refusal) ++ codes " " ++ word_of f.layer ++ codes " " ++ decimal f.place

-- plain numbers that break the limits make no row
abbrev pub outside_limits : Fault
outside_limits = record { refusal = OutsideLimits; layer = Judge; place = 0 }
