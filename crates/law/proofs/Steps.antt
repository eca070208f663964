-- What the rules say of a call by its answer. Assumes nothing.
use Rattle.std.proofs.Common.{◌≡◌, ℕ, ◌<◌, ◌≤◌, Bool, true, false, ltb, List, length, get_or, Some, None, Option, refl, Ok, Err}
use Rattle.std.proofs.lemmas.Bool.{not-false, ltb-true, ltb-false}
use Rattle.row.specs.Rows.{is_track}
use Rattle.row.specs.declared.faults.Fault.{Fault}
use Rattle.row.specs.declared.rows.Kind.{Kind}
use Rattle.row.specs.declared.rows.Kind.TheVariants.{Normal}
use Rattle.row.specs.declared.rows.Row.{Row}
use Rattle.law.specs.Answer.{Answer}
use Rattle.law.specs.declared.calls.Reply.TheVariants.{Block, Turn, Done}
use Rattle.law.specs.declared.calls.Call.{Call}
use Rattle.law.specs.declared.calls.Call.TheVariants.{Arrive, Begin, Report}
use Rattle.law.specs.declared.calls.Outcome.{Outcome}
use Rattle.law.specs.declared.calls.TurnNumbers.{TurnNumbers}
use Rattle.law.specs.Checks.{first_fault, checks, is_open}
use Rattle.law.specs.History.{History, state_at, clock_at, job_at, ready_at, mode_at, open_turn_at, free_at}
use Rattle.law.specs.Rules.{Rules, Accepts, Answers, Opens}
use Rattle.law.specs.State.{State, row_at}
use Rattle.law.proofs.Basics.{none_of, helper_only, open_turn_lem}
use Rattle.law.proofs.Checks.{none_applies}

-- an arrival that the rules admit
pub record Admitted (rows : List Row) (free₀ : List Bool) (h : History) (r : ℕ) (k : Kind) (b : ℕ) : Type 0 where
  pub no_turn : open_turn_at h ≡ None
  pub in_plan : r < length rows
  pub helper : is_track (row_at rows r) ≡ false → (k ≡ Normal) × (mode_at rows h ≡ Normal)
  pub spaced : ready_at rows h r ≤ clock_at h
  pub ended : job_at rows h r ≡ None
  pub is_free : get_or (free_at rows free₀ h) b false ≡ true

-- what the rules say of a call and its answer
pub data Step (rows : List Row) (number : ℕ) (free₀ : List Bool) (h : History) : Call → Answer → Type 0 where
  admitted : (r : ℕ) (k : Kind) (b : ℕ) → Admitted rows free₀ h r k b → Step rows number free₀ h (Arrive r k) (Ok (Block b))
  opened : (t : TurnNumbers) → open_turn_at h ≡ None → Opens number (state_at rows free₀ h) t → Step rows number free₀ h Begin (Ok (Turn t))
  reported : (t : TurnNumbers) (finished : Bool) (o : Outcome) → open_turn_at h ≡ Some t → Step rows number free₀ h (Report t finished) (Ok (Done o))
  refused : (c : Call) (f : Fault) → first_fault (checks rows (state_at rows free₀ h) c) ≡ Some f → Step rows number free₀ h c (Err f)

module _ (rows : List Row) (number : ℕ) (free₀ : List Bool) (h : History) where
  abbrev now : State
  now = state_at rows free₀ h

  -- a call to which no check applies
  accepted : (c : Call) (a : Answer) → first_fault (checks rows now c) ≡ None → Accepts rows number now c a → Step rows number free₀ h c a
  accepted (Arrive r k) a e x =
      let silent = none_applies (checks rows now (Arrive r k)) e in
      rw x.1 (admitted r k x.0 (record {
        no_turn = none_of (open_turn_at h) (silent 13);
        in_plan = ltb-true r (length rows) (not-false (ltb r (length rows)) (silent 15));
        helper = λ t. (helper_only (row_at rows r) k (silent 16) t, helper_only (row_at rows r) (mode_at rows h) (silent 18) t);
        spaced = ltb-false (clock_at h) (ready_at rows h r) (silent 17);
        ended = none_of (job_at rows h r) (silent 19);
        is_free = x.2;
      }))
  accepted Begin a e x = rw x.1 (opened x.0 (none_of (open_turn_at h) (none_applies (checks rows now Begin) e 13)) x.2)
  accepted (Report t finished) a e x =
      rw x (reported t finished _ (open_turn_lem (open_turn_at h) t (not-false (is_open (open_turn_at h) t) (none_applies (checks rows now (Report t finished)) e 21))))

  pub step : (c : Call) (a : Answer) → Rules rows number (state_at rows free₀ h) c a → Step rows number free₀ h c a
  step c a = by (first_fault (checks rows now c)) refl
    where
      by : (o : Option Fault) → first_fault (checks rows now c) ≡ o → Answers rows number now c a o → Step rows number free₀ h c a
      by (Some f) e x = rw x (refused c f e)
      by None e x = accepted c a e x

-- what a refusal says of the checks
pub refused_by : {rows : List Row} {number : ℕ} {free₀ : List Bool} {h : History} {c : Call} {f : Fault}
    → Step rows number free₀ h c (Err f) → first_fault (checks rows (state_at rows free₀ h) c) ≡ Some f
refused_by (refused c f e) = e
