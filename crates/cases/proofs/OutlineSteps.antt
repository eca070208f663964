-- Steps computed on outlines. A lawful history of the same steps has these outlines and answers, as long as no call is refused
-- and no turn is idle. Assumes nothing.
use Rattle.std.proofs.Common.{◌≡◌, ℕ, zero, suc, ◌<◌, ◌≤◌, Bool, true, false, cond, eqb, List, [], ◌∷◌, ◌++◌, length, get_or, take, is_some, Some, None, Option, sym, refl, ap, ◌∙◌, subst, inl, inr, arith, Ok}
use Rattle.std.proofs.lemmas.Bool.{cases_lt, both_ways, eq-eqb}
use Rattle.row.specs.declared.faults.Fault.{Fault}
use Rattle.row.specs.declared.faults.Refusal.TheVariants.{NoFreeBlock}
use Rattle.row.specs.declared.rows.Kind.{Kind}
use Rattle.row.specs.declared.rows.Row.{Row}
use Rattle.judge.specs.Bounds.{Least}
use Rattle.judge.proofs.Uniques.{least_single}
use Rattle.law.specs.Answer.{Answer}
use Rattle.law.specs.declared.calls.Reply.TheVariants.{Turn, Done}
use Rattle.law.specs.declared.calls.Call.{Call}
use Rattle.law.specs.declared.calls.Call.TheVariants.{Arrive, Begin, Report}
use Rattle.law.specs.declared.calls.Job.{Job}
use Rattle.law.specs.declared.calls.Outcome.TheVariants.{Idle}
use Rattle.law.specs.declared.calls.Step.{Step}
use Rattle.law.specs.declared.calls.Step.TheVariants.{Given, ReportOpen}
use Rattle.law.specs.declared.calls.TurnNumbers.{TurnNumbers}
use Rattle.law.specs.declared.calls.Work.{Work}
use Rattle.law.specs.Checks.{Check, fault_of, first_fault, checks, count, same_work, same_turn, is_open}
use Rattle.law.specs.History.{History, state_at, job_at, open_turn_at, made, logged_steps}
use Rattle.law.specs.Rules.{Rules, Answers, Accepts, Lawful, WorkDue}
use Rattle.law.specs.State.{State, Change, change}
use Rattle.law.proofs.Basics.{some_is_none}
use Rattle.law.proofs.Blocks.{none_starved}
use Rattle.cases.specs.Run.{work_without, turn_without, without_block}
use Rattle.cases.proofs.Outlines.{job_without, open_without, change_without, outline, next, outline_after, outcome-without, is_job, is_open_lem, is_work}
use Rattle.cases.proofs.Replies.{block_of, first_row, reply, accepted, accepted_parts}
use Rattle.cases.proofs.Searches.{is_least, least}

-- where the last of some checks alone may apply, a fault is that check's
last_fault : (cs : List Check) (c d : Check) (f : Fault) → first_fault (cs ++ c ∷ []) ≡ None → first_fault (cs ++ d ∷ []) ≡ Some f → fault_of d ≡ f
last_fault [] c d f none some = by d.applies some
  where
    by : (b : Bool) → cond b (Some (fault_of d)) None ≡ Some f → fault_of d ≡ f
    by true e = cc
    by false e = absurd (some_is_none _ f e refl)
last_fault (x ∷ cs) c d f none some = by x.applies none some (last_fault cs c d f)
  where
    by : (b : Bool) → cond b (Some (fault_of x)) (first_fault (cs ++ c ∷ [])) ≡ None → cond b (Some (fault_of x)) (first_fault (cs ++ d ∷ [])) ≡ Some f
        → (first_fault (cs ++ c ∷ []) ≡ None → first_fault (cs ++ d ∷ []) ≡ Some f → fault_of d ≡ f) → fault_of d ≡ f
    by true none some more = absurd (some_is_none _ (fault_of x) refl none)
    by false none some more = more none some

-- a turn is the same as itself
same_work_lem : (w : Option Work) → same_work w w ≡ true
same_work_lem (Some w) = rw (eq-eqb w.row w.row refl, eq-eqb w.block w.block refl)
same_work_lem None = refl

same_turn_lem : (t : TurnNumbers) → same_turn t t ≡ true
same_turn_lem t = rw (eq-eqb t.number t.number refl, eq-eqb t.clock t.clock refl) (same_work_lem t.work)

no_block : (o : Option Job) → 0 ≡ block_of (job_without o)
no_block (Some j) = refl
no_block None = refl

-- the work that is due is for the first row with a job
due_first : (jobs : ℕ → Option Job) (r : ℕ) → is_least (λ q. is_some (job_without (jobs q))) r ≡ true → (w : Option Work) → WorkDue jobs w
    → work_without w ≡ Some (record { row = r; block = block_of (job_without (jobs r)) })
due_first jobs r e = by
  where
    Has : ℕ → Type 0
    Has q = is_some (job_without (jobs q)) ≡ true

    first : Least Has r
    first = least Has (λ q. is_some (job_without (jobs q))) (λ q p. p) (λ q p. p) r e

    none : (q : ℕ) → jobs q ≡ None → Has q → ⊥
    none q e has = both_ways (is_some (job_without (jobs q))) (ap (λ o. is_some (job_without o)) e) has

    by : (w : Option Work) → WorkDue jobs w → work_without w ≡ Some (record { row = r; block = block_of (job_without (jobs r)) })
    by (Some w) due =
        let this : Least Has w.row = record { holds = ap (λ o. is_some (job_without o)) due.unended; first = λ q l. none q (due.smallest q l) } in
        let same = least_single Has w.row r this first in
        λ i. Some (record { row = same i; block = no_block (jobs r) i })
    by None due = absurd (none r (due r) first.holds)

module _ (rows : List Row) (number : ℕ) where
  -- whether the step is accepted and opens no idle turn
  abbrev working : Option TurnNumbers → Bool
  working (Some t) = is_some t.work
  working None = false

  abbrev pub runs : State → Step → Bool
  runs s (Given (Arrive r k)) = accepted rows s (Arrive r k)
  runs s (Given Begin) = accepted rows s Begin
  runs s (Given (Report t f)) = false
  runs s (ReportOpen f) = working s.open_turn

  -- its answer, and what it changes
  abbrev pub answer_to : State → Step → Answer
  answer_to s x = reply rows number s (made s.open_turn x)

  abbrev change_to : State → Step → Change
  change_to s x = change (made s.open_turn x) (answer_to s x)

  -- the checks see of turns and jobs only whether there are any
  same_start : (s : State) → checks rows (outline s) Begin ≡ checks rows s Begin
  same_start s = rw (is_open_lem s.open_turn)

  same_arrival : (s : State) (r : ℕ) (k : Kind) → take 7 (checks rows (outline s) (Arrive r k)) ≡ take 7 (checks rows s (Arrive r k))
  same_arrival s r k = rw (is_open_lem s.open_turn, is_job (s.job r))

  -- the answer to a call that no check refuses
  accepts : (s : State) (c : Call) (a : Answer) → ((f : Fault) → first_fault (checks rows s c) ≡ Some f → ⊥) → Rules rows number s c a → Accepts rows number s c a
  accepts s c a never = by (first_fault (checks rows s c)) refl
    where
      by : (o : Option Fault) → first_fault (checks rows s c) ≡ o → Answers rows number s c a o → Accepts rows number s c a
      by (Some f) e x = absurd (never f e)
      by None e x = x

  module _ (free₀ : List Bool) (many : length rows ≤ count free₀) where
    module _ (h : History) (l : Lawful rows number free₀ h) where
      abbrev now : State
      now = state_at rows free₀ h

      -- the answer and the change are those computed from the outline
      abbrev Follows : Step → Answer → Type 0
      Follows x a = (without_block a ≡ answer_to (outline now) x) × (change_without (change (made (open_turn_at h) x) a) ≡ change_to (outline now) x)

      arrives : (r : ℕ) (k : Kind) (a : Answer) → Rules rows number now (Arrive r k) a → accepted rows (outline now) (Arrive r k) ≡ true → Follows (Given (Arrive r k)) a
      arrives r k a rules runs =
          let x = accepts now (Arrive r k) a never rules in
          (ap without_block x.1, ap (λ z. change_without (change (Arrive r k) z)) x.1)
        where
          last : State → Check
          last s = record { applies = eqb (count s.free) 0; refusal = NoFreeBlock; place = r }

          -- a block is free by the law, and no other check applies
          never : (f : Fault) → first_fault (checks rows now (Arrive r k)) ≡ Some f → ⊥
          never f e =
              let others = subst (λ cs. first_fault (cs ++ last (outline now) ∷ []) ≡ None) (same_arrival now r k) (accepted_parts rows (outline now) (Arrive r k) runs).0 in
              let blocks = last_fault (take 7 (checks rows now (Arrive r k))) (last (outline now)) (last now) f others e in
              none_starved rows number free₀ h l r k f e (sym (ap (λ z. z.refusal) blocks)) many

      begins : (a : Answer) → Rules rows number now Begin a → accepted rows (outline now) Begin ≡ true → Follows (Given Begin) a
      begins a rules runs =
          let p = accepted_parts rows (outline now) Begin runs in
          let none = subst (λ cs. first_fault cs ≡ None) (same_start now) p.0 in
          let x = accepts now Begin a (λ f e. some_is_none _ f e none) rules in
          let work = due_first (job_at rows h) (first_row rows (outline now)) p.1 x.0.work x.2.for_work in
          let turn : Ok (Turn (turn_without x.0)) ≡ answer_to (outline now) (Given Begin) = λ i. Ok (Turn (record { number = x.2.of_session i; clock = x.2.at_clock i; work = work i })) in
          (ap without_block x.1 ∙ turn, ap (λ z. change_without (change Begin z)) x.1 ∙ ap (change Begin) turn)

      reports_open : (f : Bool) (a : Answer) → Rules rows number now (made (open_turn_at h) (ReportOpen f)) a → working (open_without (open_turn_at h)) ≡ true → Follows (ReportOpen f) a
      reports_open f a = by (open_turn_at h) refl
        where
          by : (o : Option TurnNumbers) → open_turn_at h ≡ o → Rules rows number now (made o (ReportOpen f)) a → working (open_without o) ≡ true
              → (without_block a ≡ reply rows number (outline now) (made (open_without o) (ReportOpen f)))
              × (change_without (change (made o (ReportOpen f)) a) ≡ change (made (open_without o) (ReportOpen f)) (reply rows number (outline now) (made (open_without o) (ReportOpen f))))
          by (Some t) e rules runs =
              let isOpenTurn : is_open (open_turn_at h) t ≡ true = ap (λ z. is_open z t) e ∙ same_turn_lem t in
              let hasWork : is_some t.work ≡ true = sym (is_work t.work) ∙ runs in
              let x = accepts now (Report t f) a (λ z some. some_is_none _ z some (rw (isOpenTurn, hasWork))) rules in
              (ap without_block x ∙ ap (λ o. Ok (Done o)) (outcome-without rows now f t.work), ap (λ z. change_without (change (Report t f) z)) x)
          by None e rules runs = absurd cc

      follows : (x : Step) (a : Answer) → Rules rows number now (made (open_turn_at h) x) a → runs (outline now) x ≡ true → Follows x a
      follows (Given (Arrive r k)) a rules runs = arrives r k a rules runs
      follows (Given Begin) a rules runs = begins a rules runs
      follows (Given (Report t f)) a rules runs = absurd cc
      follows (ReportOpen f) a rules runs = reports_open f a rules runs

  -- the outline computed after n steps, and what is computed of the next
  module _ (steps : List Step) where
    abbrev step_at : ℕ → Step
    step_at i = get_or steps i (Given Begin)

    abbrev pub outline_at : ℕ → State
    outline_at zero = outline (state_at rows [] [])
    outline_at (suc n) = let s = outline_at n in next rows s (change_to s (step_at n))

    abbrev pub answer_at : ℕ → Answer
    answer_at i = answer_to (outline_at i) (step_at i)

    abbrev pub runs_at : ℕ → Bool
    runs_at i = runs (outline_at i) (step_at i)

    -- every lawful history of these steps has these outlines and answers
    module _ (free₀ : List Bool) (many : length rows ≤ count free₀) (log : List Answer) where
      abbrev LawfulTo : ℕ → Type 0
      LawfulTo n = Lawful rows number free₀ (logged_steps steps log n)

      abbrev Outlined : ℕ → Type 0
      Outlined n = outline (state_at rows free₀ (logged_steps steps log n)) ≡ outline_at n

      -- what came before in a lawful history is lawful
      earlier : (m n : ℕ) → n ≤ m → LawfulTo m → LawfulTo n
      earlier zero zero le l = l
      earlier zero (suc n) le l = absurd (omega arith)
      earlier (suc m) n le l = elim (cases_lt n (suc m)) [
        | inl less ↦ earlier m n (omega arith) l.0
        | inr last ↦ let same : suc m ≡ n = omega arith in subst LawfulTo same l
      ]

      one_more : (n : ℕ) → Outlined n → runs_at n ≡ true → LawfulTo (suc n) → Outlined (suc n) × (without_block (get_or log n (Ok (Done Idle))) ≡ answer_at n)
      one_more n same e l =
          let h = logged_steps steps log n in
          let s = state_at rows free₀ h in
          let a = get_or log n (Ok (Done Idle)) in
          let p = follows free₀ many h l.0 (step_at n) a l.1 (subst (λ s. runs s (step_at n) ≡ true) (sym same) e) in (
            outline_after rows s (change (made (open_turn_at h) (step_at n)) a) ∙ ap (next rows (outline s)) p.1 ∙ ap (λ s. next rows s (change_to s (step_at n))) same,
            p.0 ∙ ap (λ s. answer_to s (step_at n)) same,
          )

      outlined : (n : ℕ) → ((i : ℕ) → i < n → runs_at i ≡ true) → LawfulTo n → Outlined n
      outlined zero e l = refl
      outlined (suc n) e l = (one_more n (outlined n (λ i below. e i (omega arith)) l.0) (e n (omega arith)) l).0

      module _ (m : ℕ) (e : (i : ℕ) → i < m → runs_at i ≡ true) (l : LawfulTo m) where
        pub is_outline : (n : ℕ) → n ≤ m → Outlined n
        is_outline n le = outlined n (λ i below. e i (omega arith)) (earlier m n le l)

        pub is_answer : (n : ℕ) → n < m → without_block (get_or log n (Ok (Done Idle))) ≡ answer_at n
        is_answer n le = (one_more n (is_outline n (omega arith)) (e n le) (earlier m (suc n) le l)).1
