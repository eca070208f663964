-- A run of the worked line-up in which a job has all the time that its long bound gives. Assumes nothing.
use Rattle.std.specs.Prelude.{◌≡◌, ℕ, zero, suc, ◌<◌, Bool, true, false, List, [], ◌∷◌, ◌++◌, get_or, Some, None, Option, slice_index_or, Ok, Err}
use Rattle.row.specs.declared.rows.Kind.TheVariants.{Normal, Abnormal}
use Rattle.law.specs.Answer.{Answer}
use Rattle.law.specs.declared.calls.Reply.TheVariants.{Block, Turn, Done}
use Rattle.law.specs.declared.calls.Call.TheVariants.{Arrive, Begin}
use Rattle.law.specs.declared.calls.Outcome.{Outcome}
use Rattle.law.specs.declared.calls.Outcome.TheVariants.{Idle, GoesOn, Cut}
use Rattle.law.specs.declared.calls.Step.{Step}
use Rattle.law.specs.declared.calls.Step.TheVariants.{Given, ReportOpen}
use Rattle.law.specs.declared.calls.TurnNumbers.{TurnNumbers}
use Rattle.law.specs.declared.calls.Work.{Work}
use Rattle.law.specs.Checks.{count}
use Rattle.law.specs.History.{logged_steps, clock_at, mode_at, job_at, free_at}
use Rattle.law.specs.Rules.{Lawful}
use Rattle.cases.specs.LineUps.{worked}

-- n ticks, in none of which a job is reported finished
abbrev pub ticks : ℕ → List Step
ticks zero = []
ticks (suc n) = Given Begin ∷ ReportOpen false ∷ ticks n

-- at clock 0 row 1 arrives as normal, then rows 2 and 0 as abnormal; at clock 10 row 0 arrives again as abnormal
abbrev pub calls : List Step
calls = Given (Arrive 1 Normal) ∷ Given (Arrive 2 Abnormal) ∷ Given (Arrive 0 Abnormal) ∷ (ticks 10 ++ Given (Arrive 0 Abnormal) ∷ ticks 5)

-- a tick of session `number`: the turn at clock c is for row r, whose job holds block b, and its report has this outcome
abbrev pub tick : ℕ → ℕ → ℕ → ℕ → Outcome → List Answer
tick number c r b o = Ok (Turn (record { number = number; clock = c; work = Some (record { row = r; block = b }) })) ∷ Ok (Done o) ∷ []

-- the answers to the calls, where the arrivals get these blocks: rows 1, 2 and 0 at clock 0, and row 0 again at clock 10
abbrev pub answers : ℕ → (b1 b2 b0 again : ℕ) → List Answer
answers number b1 b2 b0 again =
    Ok (Block b1) ∷ Ok (Block b2) ∷ Ok (Block b0)
    ∷ (tick number 0 0 b0 GoesOn ++ tick number 1 0 b0 GoesOn ++ tick number 2 0 b0 GoesOn ++ tick number 3 0 b0 Cut
    ++ tick number 4 1 b1 GoesOn ++ tick number 5 1 b1 Cut
    ++ tick number 6 2 b2 GoesOn ++ tick number 7 2 b2 GoesOn ++ tick number 8 2 b2 GoesOn ++ tick number 9 2 b2 GoesOn
    ++ Ok (Block again)
    ∷ (tick number 10 0 again GoesOn ++ tick number 11 0 again GoesOn ++ tick number 12 0 again GoesOn ++ tick number 13 0 again Cut
    ++ tick number 14 2 b2 Cut))

-- Which free block an arrival gets is open, so answers are compared with 0 in the place of every block.
abbrev pub work_without : Option Work → Option Work
work_without (Some w) = Some (record { row = w.row; block = 0 })
work_without None = None

abbrev pub turn_without : TurnNumbers → TurnNumbers
turn_without t = record { number = t.number; clock = t.clock; work = work_without t.work }

abbrev pub without_block : Answer → Answer
without_block (Ok (Block b)) = Ok (Block 0)
without_block (Ok (Turn t)) = Ok (Turn (turn_without t))
without_block (Ok (Done o)) = Ok (Done o)
without_block (Err f) = Err f

-- what a history of these calls comes to, where `free₀` are the free blocks at opening and the log has the answers
pub record CutAtBound (number : ℕ) (free₀ : List Bool) (log : List Answer) : Type 0 where
  -- every call is answered so: no arrival is refused, and each tick has its row and its outcome
  pub answered : (i : ℕ) → i < 34 → without_block (slice_index_or log i (Ok (Done Idle))) ≡ slice_index_or (answers number 0 0 0 0) i (Ok (Done Idle))
  -- row 0 arrives again at clock 10
  pub at_ten : clock_at (logged_steps calls log 23) ≡ 10
  -- at clock 14 the mode is abnormal, and the job of row 2 that arrived at clock 0 is unended
  pub at_fourteen : clock_at (logged_steps calls log 33) ≡ 14
  pub abnormal : mode_at worked (logged_steps calls log 33) ≡ Abnormal
  pub unended : (b : ℕ) × (job_at worked (logged_steps calls log 33) 2 ≡ Some (record { kind = Abnormal; arrival = 0; block = b; ticks = 4 }))
  -- the report that makes the clock 15 cuts it, and the mode is normal again
  pub cut : get_or log 33 (Ok (Done Idle)) ≡ Ok (Done Cut)
  pub at_fifteen : clock_at (logged_steps calls log 34) ≡ 15
  pub normal : mode_at worked (logged_steps calls log 34) ≡ Normal
  -- then no job is unended, and the free blocks are those at opening
  pub ended : (r : ℕ) → job_at worked (logged_steps calls log 34) r ≡ None
  pub all_back : free_at worked free₀ (logged_steps calls log 34) ≡ free₀

-- every lawful history of these calls comes to that, whichever 3 blocks are free at opening and whichever of them the arrivals get
abbrev pub EveryRun : Type 0
EveryRun = (number : ℕ) (free₀ : List Bool) (log : List Answer) → count free₀ ≡ 3 → Lawful worked number free₀ (logged_steps calls log 34) → CutAtBound number free₀ log

-- and there is such a run: session 7, over a pool of blocks 0 to 2
abbrev pub SomeRun : Type 0
SomeRun = Lawful worked 7 (true ∷ true ∷ true ∷ []) (logged_steps calls (answers 7 0 1 2 0) 34)
