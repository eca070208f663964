-- An answer that the rules allow to every call that no check refuses, and so a lawful history. Assumes nothing.
use Rattle.std.proofs.Common.{◌≡◌, ℕ, zero, suc, ◌<◌, Bool, true, false, not, ◌&&◌, List, length, get_or, is_some, Some, None, Option, sym, refl, ap, subst, arith, Ok}
use Rattle.std.proofs.lemmas.Bool.{and_parts, not-true}
use Rattle.row.specs.declared.rows.Row.{Row}
use Rattle.law.specs.Answer.{Answer}
use Rattle.law.specs.declared.calls.Reply.TheVariants.{Block, Turn, Done}
use Rattle.law.specs.declared.calls.Call.{Call}
use Rattle.law.specs.declared.calls.Call.TheVariants.{Arrive, Begin, Report}
use Rattle.law.specs.declared.calls.Job.{Job}
use Rattle.law.specs.declared.calls.Outcome.TheVariants.{Idle}
use Rattle.law.specs.declared.calls.Step.{Step}
use Rattle.law.specs.declared.calls.Step.TheVariants.{Given}
use Rattle.law.specs.Checks.{first_fault, checks}
use Rattle.law.specs.History.{state_at, open_turn_at, made, logged_steps}
use Rattle.law.specs.Rules.{Rules, Answers, Accepts, Lawful, outcome}
use Rattle.law.specs.State.{State}
use Rattle.law.proofs.Basics.{none_of, some_of}
use Rattle.cases.proofs.Searches.{all_below_lem, is_least, first_from}

-- the first row with a job
abbrev pub first_row : List Row → State → ℕ
first_row rows s = first_from (length rows) (λ r. is_some (s.job r)) 0

abbrev pub block_of : Option Job → ℕ
block_of (Some j) = j.block
block_of None = 0

abbrev first_free : State → ℕ
first_free s = first_from (length s.free) (λ b. get_or s.free b false) 0

module _ (rows : List Row) where
  abbrev finds : State → Call → Bool
  finds s (Arrive r k) = get_or s.free (first_free s) false
  finds s Begin = is_least (λ r. is_some (s.job r)) (first_row rows s)
  finds s (Report t f) = true

  -- whether no check refuses the call, a block is free for an arrival, and a turn is not idle
  abbrev pub accepted : State → Call → Bool
  accepted s c = not (is_some (first_fault (checks rows s c))) && finds s c

  pub accepted_parts : (s : State) (c : Call) → accepted s c ≡ true → (first_fault (checks rows s c) ≡ None) × (finds s c ≡ true)
  accepted_parts s c e =
      let p = and_parts (not (is_some (first_fault (checks rows s c)))) (finds s c) e in
      (none_of (first_fault (checks rows s c)) (not-true (is_some (first_fault (checks rows s c))) p.0), p.1)

module _ (rows : List Row) (number : ℕ) where
  -- an arrival gets the first free block
  abbrev pub reply : State → Call → Answer
  reply s (Arrive r k) = Ok (Block (first_free s))
  reply s Begin =
      let r = first_row rows s in
      Ok (Turn (record { number = number; clock = s.clock; work = Some (record { row = r; block = block_of (s.job r) }) }))
  reply s (Report t f) = Ok (Done (outcome rows s f t.work))

  accepts : (s : State) (c : Call) → finds rows s c ≡ true → Accepts rows number s c (reply s c)
  accepts s (Arrive r k) e = (first_free s, refl, e)
  accepts s Begin e =
      let p = and_parts (is_some (s.job (first_row rows s))) _ e in
      let some = some_of (s.job (first_row rows s)) p.0 in (
        _,
        refl,
        record {
          of_session = refl;
          at_clock = refl;
          for_work = record {
            mine = some.0;
            unended = some.1;
            block = ap block_of some.1;
            smallest = λ q l. none_of (s.job q) (not-true (is_some (s.job q)) (all_below_lem (λ r. not (is_some (s.job r))) (first_row rows s) p.1 q l));
          };
        },
      )
  accepts s (Report t f) e = refl

  follows_rules : (s : State) (c : Call) → accepted rows s c ≡ true → Rules rows number s c (reply s c)
  follows_rules s c e =
      let p = accepted_parts rows s c e in
      subst (Answers rows number s c (reply s c)) (sym p.0) (accepts s c p.1)

  -- a log of such answers makes a lawful history
  module _ (free₀ : List Bool) (steps : List Step) (log : List Answer) where
    abbrev state_after : ℕ → State
    state_after n = state_at rows free₀ (logged_steps steps log n)

    abbrev call_at : ℕ → Call
    call_at n = made (open_turn_at (logged_steps steps log n)) (get_or steps n (Given Begin))

    abbrev pub accepted_at : ℕ → Bool
    accepted_at n = accepted rows (state_after n) (call_at n)

    abbrev pub reply_at : ℕ → Answer
    reply_at n = reply (state_after n) (call_at n)

    pub lawful : (n : ℕ) → ((i : ℕ) → i < n → accepted_at i ≡ true) → ((i : ℕ) → i < n → reply_at i ≡ get_or log i (Ok (Done Idle))) → Lawful rows number free₀ (logged_steps steps log n)
    lawful zero accepts replies = tt
    lawful (suc n) accepts replies = (
      lawful n (λ i l. accepts i (omega arith)) (λ i l. replies i (omega arith)),
      subst (Rules rows number (state_after n) (call_at n)) (replies n (omega arith)) (follows_rules (state_after n) (call_at n) (accepts n (omega arith))),
    )
