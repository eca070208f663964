-- A call that keeps the rules extends the history of its session. Assumes nothing.
use Rattle.std.proofs.Common.{Result, ◌≡◌, Bool, List, Some, None, sym, refl, ap, ◌∙◌, subst, Err}
use Rattle.std.specs.Result.{IsErrAnd}
use Rattle.std.proofs.lemmas.Result.{err_from_is_err_and}
use Rattle.row.specs.declared.faults.Fault.{Fault}
use Rattle.law.specs.Answer.{Answer}
use Rattle.law.specs.declared.calls.Reply.{Reply}
use Rattle.law.specs.declared.calls.Call.{Call}
use Rattle.law.specs.declared.calls.Call.TheVariants.{Arrive, Begin, Report}
use Rattle.law.specs.Checks.{checks, first_fault}
use Rattle.law.specs.Rules.{Rules, Accepts, Answers}
use Rattle.law.specs.State.{after, change, nothing}
use Rattle.law.proofs.Represents.{represents_after}
use Rattle.session.specs.Answers.{answered}
use Rattle.session.specs.Faults.{fault_in}
use Rattle.session.specs.View.{rows_in, view, Tied, Allowed, Next, Extended}
use Rattle.session.specs.declared.faults.SessionFault.{SessionFault}
use Rattle.session.specs.declared.session.Session.{Session}

-- a refused call changes nothing
refused_changes : (c : Call) (f : Fault) → change c (Err f) ≡ nothing
refused_changes (Arrive r k) f = refl
refused_changes Begin f = refl
refused_changes (Report t finished) f = refl

-- a fault that goes up by `?` is the answer
pub goes_up : {A : Type 0} (reply : A → Reply) (r : Result A SessionFault) (e : SessionFault) → IsErrAnd r (λ y. y ≡ e) → answered reply r ≡ Err (fault_in e)
goes_up reply r e up =
    let p = err_from_is_err_and r up in
    ap (answered reply) p.1 ∙ ap (λ y. Err (fault_in y)) p.2

module _ {B P : Type 0} where
  -- what every call leaves as it was, and what it keeps
  pub record Kept (on : B → List Bool) (s s' : Session B P) : Type 0 where
    pub plan : rows_in s' ≡ rows_in s
    pub number : s'.number ≡ s.number
    pub tied : Tied on s → Tied on s'

  -- a call that gives an allowed answer, and makes of the session what the answer says, is the newest of its history
  pub extended : (on : B → List Bool) (free : P → List Bool) (s s' : Session B P) (c : Call) (a : Answer)
      → Kept on s s' → (Tied on s → Allowed free s c a) → (Tied on s → Next free s c a s') → Extended on free s c a s'
  extended on free s s' c a k allowed next rows number free₀ h f =
      let rule : Rules rows number (view free s) c a
      = subst (λ z. Rules z number (view free s) c a) f.plan (subst (λ z. Rules (rows_in s) z (view free s) c a) f.own (allowed f.tied)) in
      let told : view free s' ≡ after rows (view free s) (change c a)
      = subst (λ z. view free s' ≡ after z (view free s) (change c a)) f.plan (next f.tied) in
      record { plan = k.plan ∙ f.plan; own = k.number ∙ f.own; tied = k.tied f.tied; history = represents_after c a f.history rule told }

  -- what a call promises of its answer
  pub record Said (on : B → List Bool) (free : P → List Bool) (s : Session B P) (c : Call) (a : Answer) (s' : Session B P) : Type 0 where
    pub rule : Allowed free s c a
    pub next : Next free s c a s'
    pub history : Extended on free s c a s'

  -- it is promised by a call that keeps the rules whatever is on the board
  pub said : (on : B → List Bool) (free : P → List Bool) (s s' : Session B P) (c : Call) (a : Answer)
      → Kept on s s' → Allowed free s c a → Next free s c a s' → Said on free s c a s'
  said on free s s' c a k allowed next = record { rule = allowed; next = next; history = extended on free s s' c a k (λ _. allowed) (λ _. next) }

  -- the answer of a call whose checks found a fault, and which left the state as it was
  pub said_refused : (on : B → List Bool) (free : P → List Bool) (s s' : Session B P) (c : Call) (a : Answer) (f : Fault)
      → a ≡ Err f → first_fault (checks (rows_in s) (view free s) c) ≡ Some f → Kept on s s' → view free s' ≡ view free s → Said on free s c a s'
  said_refused on free s s' c a f answers finds k same =
      let allowed : Allowed free s c a = subst (Answers (rows_in s) s.number (view free s) c a) (sym finds) answers in
      let still : change c a ≡ nothing = ap (change c) answers ∙ refused_changes c f in
      said on free s s' c a k allowed (subst (λ x. view free s' ≡ after (rows_in s) (view free s) x) (sym still) same)

  -- a fault that goes up by `?`, of a call whose checks found it and which changed nothing
  pub said_up : {A : Type 0} (reply : A → Reply) (on : B → List Bool) (free : P → List Bool) (s : Session B P) (c : Call) (r : Result A SessionFault) (e : SessionFault)
      → IsErrAnd r (λ y. y ≡ e) → first_fault (checks (rows_in s) (view free s) c) ≡ Some (fault_in e) → Said on free s c (answered reply r) s
  said_up reply on free s c r e up finds =
      said_refused on free s s c (answered reply r) (fault_in e) (goes_up reply r e up) finds (record { plan = refl; number = refl; tied = λ t. t }) refl

  -- the answer of a call whose checks found nothing
  pub said_accepted : (on : B → List Bool) (free : P → List Bool) (s s' : Session B P) (c : Call) (a : Answer)
      → first_fault (checks (rows_in s) (view free s) c) ≡ None → Accepts (rows_in s) s.number (view free s) c a → Kept on s s' → Next free s c a s' → Said on free s c a s'
  said_accepted on free s s' c a finds accepts k next = said on free s s' c a k (subst (Answers (rows_in s) s.number (view free s) c a) (sym finds) accepts) next
