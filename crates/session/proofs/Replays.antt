-- What a replay has made of its session and its log after some lines. Assumes nothing.
use Rattle.std.proofs.Common.{◌≡◌, ℕ, zero, suc, ◌+◌, ◌<◌, ◌≤◌, min, Bool, List, [], ◌∷◌, map, length, get_or, set, Option, Ok, refl, sym, ap, ap₂, ◌∙◌, subst, arith}
use Rattle.std.proofs.lemmas.List.{get_or-set_other, get_or-map, length-map}
use Rattle.row.specs.declared.rows.Row.{Row}
use Rattle.law.specs.Answer.{Answer}
use Rattle.law.specs.declared.calls.Call.{Call}
use Rattle.law.specs.declared.calls.Outcome.TheVariants.{Idle}
use Rattle.law.specs.declared.calls.Reply.TheVariants.{Done}
use Rattle.law.specs.declared.calls.Step.{Step}
use Rattle.law.specs.declared.calls.Step.TheVariants.{Given}
use Rattle.law.specs.declared.calls.Call.TheVariants.{Begin}
use Rattle.law.specs.declared.calls.TurnNumbers.{TurnNumbers}
use Rattle.law.specs.History.{logged_by, logged_steps, made, open_turn_at}
use Rattle.law.proofs.Represents.{logged_more}
use Rattle.session.specs.Replays.{replayed_by, replayed_steps}
use Rattle.session.specs.View.{Follows, Extended}
use Rattle.session.specs.declared.session.Session.{Session}

module _ {B P L : Type 0} (on : B → List Bool) (free : P → List Bool) (makes : Option TurnNumbers → L → Call) (past : L) (lines : List L) where
  -- the first i answers of the log are the history of the session s since it was opened as `opened`, and the others are as they were
  pub record Made (opened : Session B P) (old log : List Answer) (i : ℕ) (s : Session B P) : Type 0 where
    pub history : (rows : List Row) (number : ℕ) (free₀ : List Bool) → Follows rows number free₀ [] on free opened
        → Follows rows number free₀ (logged_by makes past lines log i) on free s
    pub others : (k : ℕ) → i ≤ k → get_or log k (Ok (Done Idle)) ≡ get_or old k (Ok (Done Idle))

  -- the call of the next line, whose answer is logged
  pub one_more : (opened : Session B P) (old log : List Answer) (i : ℕ) (s s' : Session B P) (c : Call) (a : Answer) → Made opened old log i s
      → i < length log → c ≡ makes s.turn (get_or lines i past) → Extended on free s c a s' → Made opened old (set log i a) (i + 1) s'
  one_more opened old log i s s' c a m room called extends = record {
    history = λ rows number free₀ f.
        let before = m.history rows number free₀ f in
        let told : c ≡ makes (open_turn_at (logged_by makes past lines log i)) (get_or lines i past)
        = called ∙ ap (λ v. makes v.open_turn (get_or lines i past)) before.history.told in
        let more = ap (λ x. record { call = x; answer = a } ∷ logged_by makes past lines log i) told ∙ sym (logged_more makes past lines log i a room) in
        subst (λ h. Follows rows number free₀ h on free s') more (extends rows number free₀ _ before);
    others = λ k l. get_or-set_other log i k a (Ok (Done Idle)) (λ e. omega arith) ∙ m.others k (omega arith);
  }

-- lines that carry steps tell the history of their steps
pub logged_carried : {A : Type 0} (step : A → Step) (past : A) (lines : List A) (log : List Answer) (n : ℕ) → n ≤ length lines
    → logged_by (λ turn line. made turn (step line)) past lines log n ≡ logged_steps (map step lines) log n
logged_carried step past lines log zero h = refl
logged_carried step past lines log (suc n) h =
    ap₂ (λ before s. record { call = made (open_turn_at before) s; answer = get_or log n (Ok (Done Idle)) } ∷ before)
    (logged_carried step past lines log n (omega arith)) (sym (get_or-map step lines n past (Given Begin) (omega arith)))

pub replayed_carried : {A : Type 0} (step : A → Step) (past : A) (lines : List A) (log : List Answer)
    → replayed_by (λ turn line. made turn (step line)) past lines log ≡ replayed_steps (map step lines) log
replayed_carried step past lines log =
    logged_carried step past lines log (min (length lines) (length log)) (omega arith)
    ∙ ap (λ n. logged_steps (map step lines) log (min n (length log))) (sym (length-map lines step))
