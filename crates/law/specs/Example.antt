-- A lawful history on an accepted plan, which shows that the law speaks of something. Assumes nothing.
use Rattle.std.specs.Prelude.{◌≡◌, ℕ, Bool, true, false, List, [], ◌∷◌, Some, None, Ok, Err}
use Rattle.std.proofs.Common.{lit≤, Ok, Err}
use Rattle.row.specs.declared.faults.Layer.TheVariants.{Session}
use Rattle.row.specs.declared.faults.Refusal.TheVariants.{HelperInAbnormalMode}
use Rattle.row.specs.declared.rows.Kind.TheVariants.{Normal, Abnormal}
use Rattle.row.specs.declared.rows.Row.{Row}
use Rattle.row.specs.declared.rows.Row.TheVariants.{Track, Helper}
use Rattle.judge.specs.Accepted.{Accepted}
use Rattle.judge.specs.declared.bounds.Bounds.{Bounds}
use Rattle.law.specs.declared.calls.Reply.TheVariants.{Block, Turn, Done}
use Rattle.law.specs.declared.calls.Call.TheVariants.{Arrive, Begin, Report}
use Rattle.law.specs.declared.calls.Outcome.TheVariants.{GoesOn, Cut}
use Rattle.law.specs.declared.calls.TurnNumbers.{TurnNumbers}
use Rattle.law.specs.History.{History, clock_at, mode_at, free_at}
use Rattle.law.specs.Rules.{Lawful}

-- a track above a helper, both of period and deadline 10
abbrev pub plan : List Row
plan =
    Track (record { period = 10; deadline = 10; short = 1; long = 2; limits = (lit≤ tt, lit≤ tt, lit≤ tt, lit≤ tt, lit≤ tt) })
    ∷ Helper (record { period = 10; deadline = 10; short = 1; limits = (lit≤ tt, lit≤ tt, lit≤ tt, lit≤ tt, lit≤ tt) })
    ∷ []

abbrev pub plan_bounds : List Bounds
plan_bounds = record { normal = 1; late = Some (record { mixed = 1; long = 2 }) } ∷ record { normal = 2; late = None } ∷ []

-- block 0 is somebody else's
abbrev pub blocks : List Bool
blocks = false ∷ true ∷ true ∷ []

-- session 7 opens a turn for row 0 at clock c
abbrev pub turn_at : ℕ → TurnNumbers
turn_at c = record { number = 7; clock = c; work = Some (record { row = 0; block = 2 }) }

-- A track arrives as abnormal and gets block 2. The helper is refused in abnormal mode. The track's job goes on after its
-- first tick, is cut by its second, the one that makes the clock its arrival plus its long bound, and the mode is normal again.
abbrev pub run : History
run =
    record { call = Report (turn_at 1) false; answer = Ok (Done Cut) }
    ∷ record { call = Begin; answer = Ok (Turn (turn_at 1)) }
    ∷ record { call = Report (turn_at 0) false; answer = Ok (Done GoesOn) }
    ∷ record { call = Begin; answer = Ok (Turn (turn_at 0)) }
    ∷ record { call = Arrive 1 Normal; answer = Err (record { refusal = HelperInAbnormalMode; layer = Session; place = 1 }) }
    ∷ record { call = Arrive 0 Abnormal; answer = Ok (Block 2) }
    ∷ []

pub record Example : Type 0 where
  pub accepted : Accepted plan plan_bounds
  pub lawful : Lawful plan 7 blocks run
  pub ticks : clock_at run ≡ 2
  pub normal_again : mode_at plan run ≡ Normal
  pub all_back : free_at plan blocks run ≡ blocks
