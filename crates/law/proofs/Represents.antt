-- A session that follows the rules has a lawful history. Assumes nothing.
use Rattle.std.proofs.Common.{Option, ◌≡◌, ℕ, zero, suc, ◌+◌, ◌<◌, ◌≤◌, Bool, cond, eqb, List, [], ◌∷◌, length, get_or, set, sym, refl, ap, ◌∙◌, subst, inl, inr, add-one, arith, Ok}
use Rattle.std.proofs.lemmas.List.{get_or-set_same, get_or-set_other}
use Rattle.std.proofs.lemmas.Bool.{cases_eq, eq-eqb, ne_eqb}
use Rattle.row.specs.declared.rows.Row.{Row}
use Rattle.law.specs.Answer.{Answer}
use Rattle.law.specs.declared.calls.Reply.TheVariants.{Done}
use Rattle.law.specs.declared.calls.Call.{Call}
use Rattle.law.specs.declared.calls.Outcome.TheVariants.{Idle}
use Rattle.law.specs.declared.calls.TurnNumbers.{TurnNumbers}
use Rattle.law.specs.declared.calls.Call.TheVariants.{Begin}
use Rattle.law.specs.declared.calls.Step.{Step}
use Rattle.law.specs.declared.calls.Step.TheVariants.{Given}
use Rattle.law.specs.History.{History, state_at, open_turn_at, made, logged_by, logged_steps}
use Rattle.law.specs.Represents.{Represents}
use Rattle.law.specs.Rules.{Rules}
use Rattle.law.specs.State.{State, after, change}

-- at opening
pub represents_opening : (rows : List Row) (number : ℕ) (free₀ : List Bool) → Represents rows number free₀ [] (state_at rows free₀ [])
represents_opening rows number free₀ = record { lawful = tt; told = refl }

-- after a call with an answer that the rules allow, if the state is then the one that the answer makes of it
pub represents_after : {rows : List Row} {number : ℕ} {free₀ : List Bool} {h : History} {s s' : State} (c : Call) (a : Answer)
    → Represents rows number free₀ h s → Rules rows number s c a → s' ≡ after rows s (change c a)
    → Represents rows number free₀ (record { call = c; answer = a } ∷ h) s'
represents_after {rows} {number} c a r follows next = record {
  lawful = (r.lawful, subst (λ z. Rules rows number z c a) r.told follows);
  told = next ∙ ap (λ z. after rows z (change c a)) r.told;
}

-- states are equal if they are part by part
pub same_state : (s t : State) → s.clock ≡ t.clock → s.mode ≡ t.mode → ((r : ℕ) → s.job r ≡ t.job r) → ((r : ℕ) → s.ready r ≡ t.ready r)
    → s.open_turn ≡ t.open_turn → s.free ≡ t.free → s ≡ t
same_state s t clock mode job ready open_turn free =
    λ i. record { clock = clock i; mode = mode i; job = λ r. job r i; ready = λ r. ready r i; open_turn = open_turn i; free = free i }

-- what a list of lines and a log tell as the log is written: `makes` and `past` as in `logged_by`
module _ {L : Type 0} (makes : Option TurnNumbers → L → Call) (past : L) (lines : List L) where
  -- the log at place i is not part of what came before
  logged-kept : (log : List Answer) (i : ℕ) (a : Answer) (n : ℕ) → n ≤ i → logged_by makes past lines (set log i a) n ≡ logged_by makes past lines log n
  logged-kept log i a zero l = refl
  logged-kept log i a (suc n) l =
      let same : get_or (set log i a) n (Ok (Done Idle)) ≡ get_or log n (Ok (Done Idle)) = get_or-set_other log i n a (Ok (Done Idle)) (λ e. omega arith) in
      let rest = logged-kept log i a n (omega arith) in
      λ z. record { call = makes (open_turn_at (rest z)) (get_or lines n past); answer = same z } ∷ rest z

  -- an answer written to place i of the log is the newest of the history
  pub logged_more : (log : List Answer) (i : ℕ) (a : Answer) → i < length log
      → logged_by makes past lines (set log i a) (i + 1) ≡ record { call = makes (open_turn_at (logged_by makes past lines log i)) (get_or lines i past); answer = a } ∷ logged_by makes past lines log i
  logged_more log i a l =
      let new : get_or (set log i a) i (Ok (Done Idle)) ≡ a = get_or-set_same log i a (Ok (Done Idle)) l in
      let rest = logged-kept log i a i (omega arith) in
      rw add-one (λ z. record { call = makes (open_turn_at (rest z)) (get_or lines i past); answer = new z } ∷ rest z)

-- the same for a list of steps
pub logged_steps_kept : (steps : List Step) (log : List Answer) (i : ℕ) (a : Answer) (n : ℕ) → n ≤ i → logged_steps steps (set log i a) n ≡ logged_steps steps log n
logged_steps_kept steps log i a n l = logged-kept made (Given Begin) steps log i a n l

pub logged_steps_more : (steps : List Step) (log : List Answer) (i : ℕ) (a : Answer) → i < length log
    → logged_steps steps (set log i a) (i + 1) ≡ record { call = made (open_turn_at (logged_steps steps log i)) (get_or steps i (Given Begin)); answer = a } ∷ logged_steps steps log i
logged_steps_more steps log i a l = logged_more made (Given Begin) steps log i a l

-- a table changed at place i, as the state has it: what f makes of the entry there, and the others as they were
pub set_by : {A : Type 0} (f : ℕ → A → A) (xs : List A) (i : ℕ) (d : A) (q : ℕ) → i < length xs
    → get_or (set xs i (f i (get_or xs i d))) q d ≡ cond (eqb i q) (f q (get_or xs q d)) (get_or xs q d)
set_by f xs i d q l = elim (cases_eq i q) [
  | inl e ↦ rw (eq-eqb i q e) (subst (λ z. get_or (set xs i (f i (get_or xs i d))) z d ≡ f z (get_or xs z d)) e (get_or-set_same xs i (f i (get_or xs i d)) d l))
  | inr n ↦ rw (ne_eqb i q n) (get_or-set_other xs i q (f i (get_or xs i d)) d (λ e. n (sym e)))
]
