-- When a session refuses a call, and by which fault. Assumes nothing.
--
-- A call goes through checks in a fixed order. The first that applies is the answer, and then nothing changes.
use Rattle.std.specs.Prelude.{ℕ, Bool, true, false, cond, not, ◌&&◌, List, [], ◌∷◌, ◌++◌, length, is_some, Some, None, count_by, Option, ◌==◌, nat_lt}
use Rattle.row.specs.Rows.{is_track}
use Rattle.row.specs.declared.faults.Fault.{Fault}
use Rattle.row.specs.declared.faults.Layer.TheVariants.{Session}
use Rattle.row.specs.declared.faults.Refusal.{Refusal}
use Rattle.row.specs.declared.faults.Refusal.TheVariants.{TurnOpen, ClockFull, NotInPlan, AbnormalHelper, TooEarly, HelperInAbnormalMode, JobNotEnded, NoFreeBlock, NotOpenTurn, IdleFinished}
use Rattle.row.specs.declared.rows.Kind.{Kind}
use Rattle.row.specs.declared.rows.Row.{Row}
use Rattle.law.specs.declared.calls.Call.{Call}
use Rattle.law.specs.declared.calls.Call.TheVariants.{Arrive, Begin, Report}
use Rattle.law.specs.declared.calls.TurnNumbers.{TurnNumbers}
use Rattle.law.specs.declared.calls.Work.{Work}
use Rattle.law.specs.State.{State, row_at, is_abnormal}

-- a check: whether it applies, and the refusal and the place that it then gives
pub record Check : Type 0 where
  pub applies : Bool
  pub refusal : Refusal
  pub place : ℕ

abbrev pub fault_of : Check → Fault
fault_of c = record { refusal = c.refusal; layer = Session; place = c.place }

-- the fault of the first check that applies
abbrev pub first_fault : List Check → Option Fault
first_fault [] = None
first_fault (c ∷ checks) = cond c.applies (Some (fault_of c)) (first_fault checks)

-- arrive and begin are refused while a turn is open, and when the clock has come to its end
abbrev pub start_checks : State → List Check
start_checks s =
    record { applies = is_some s.open_turn; refusal = TurnOpen; place = s.clock }
    ∷ record { applies = (s.clock == 4_000_000_000); refusal = ClockFull; place = s.clock }
    ∷ []

-- how many blocks are in a set
abbrev pub count : List Bool → ℕ
count blocks = count_by (λ b. b) blocks

-- An arrival of row r is refused if the plan has no such row; if r is a helper and the job would be abnormal; if the clock
-- is below the row's last admitted arrival plus its period; if r is a helper and the mode is abnormal; if the row's last
-- job has not ended; if no block is free.
abbrev pub arrive_checks : List Row → State → ℕ → Kind → List Check
arrive_checks rows s r k =
    let helper : Bool = not (is_track (row_at rows r)) in
    record { applies = not (nat_lt r (length rows)); refusal = NotInPlan; place = r }
    ∷ record { applies = helper && is_abnormal k; refusal = AbnormalHelper; place = r }
    ∷ record { applies = nat_lt s.clock (s.ready r); refusal = TooEarly; place = r }
    ∷ record { applies = helper && is_abnormal s.mode; refusal = HelperInAbnormalMode; place = r }
    ∷ record { applies = is_some (s.job r); refusal = JobNotEnded; place = r }
    ∷ record { applies = (count s.free == 0); refusal = NoFreeBlock; place = r }
    ∷ []

-- two turns are one if all that they tell is equal
abbrev pub same_work : Option Work → Option Work → Bool
same_work (Some v) (Some w) = v.row == w.row && v.block == w.block
same_work (Some v) None = false
same_work None (Some w) = false
same_work None None = true

abbrev pub same_turn : TurnNumbers → TurnNumbers → Bool
same_turn t u = t.number == u.number && (t.clock == u.clock && same_work t.work u.work)

-- whether t is the open turn
abbrev pub is_open : Option TurnNumbers → TurnNumbers → Bool
is_open (Some u) t = same_turn u t
is_open None t = false

-- a report is refused if its turn is not the open one, and if the turn is idle and the report says finished
abbrev pub report_checks : State → TurnNumbers → Bool → List Check
report_checks s t finished =
    record { applies = not (is_open s.open_turn t); refusal = NotOpenTurn; place = s.clock }
    ∷ record { applies = not (is_some t.work) && finished; refusal = IdleFinished; place = s.clock }
    ∷ []

-- the checks of a call, in their order
abbrev pub checks : List Row → State → Call → List Check
checks rows s (Arrive r k) = start_checks s ++ arrive_checks rows s r k
checks rows s Begin = start_checks s
checks rows s (Report t finished) = report_checks s t finished
