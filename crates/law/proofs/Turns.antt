-- The open turn can be reported. Assumes nothing.
use Rattle.std.proofs.Common.{◌≡◌, ℕ, true, false, not, List, is_some, Some, None, Option, refl, ap, ◌∙◌, subst, Err}
use Rattle.std.proofs.lemmas.Bool.{eq-eqb, and_from, and_right}
use Rattle.row.specs.declared.faults.Fault.{Fault}
use Rattle.row.specs.declared.rows.Row.{Row}
use Rattle.law.specs.declared.calls.Call.TheVariants.{Report}
use Rattle.law.specs.declared.calls.TurnNumbers.{TurnNumbers}
use Rattle.law.specs.declared.calls.Work.{Work}
use Rattle.law.specs.Checks.{same_work, same_turn, is_open, report_checks, first_fault}
use Rattle.law.specs.Rules.{Rules, Answers}
use Rattle.law.specs.State.{State}

-- a turn is the same as itself
same_work_lem : (w : Option Work) → same_work w w ≡ true
same_work_lem None = refl
same_work_lem (Some w) = and_from _ _ (eq-eqb w.row w.row refl) (eq-eqb w.block w.block refl)

same_turn_lem : (t : TurnNumbers) → same_turn t t ≡ true
same_turn_lem t = and_from _ _ (eq-eqb t.number t.number refl) (and_from _ _ (eq-eqb t.clock t.clock refl) (same_work_lem t.work))

-- no check applies to a report of the open turn that does not say finished
no_fault : (s : State) (t : TurnNumbers) → s.open_turn ≡ Some t → first_fault (report_checks s t false) ≡ None
no_fault s t e = rw (ap (λ o. is_open o t) e ∙ same_turn_lem t, and_right (not (is_some t.work)) false refl)

pub never_refused : (rows : List Row) (number : ℕ) (s : State) (t : TurnNumbers) (f : Fault) → s.open_turn ≡ Some t
    → Rules rows number s (Report t false) (Err f) → ⊥
never_refused rows number s t f e r =
    let answered = subst (Answers rows number s (Report t false) (Err f)) (no_fault s t e) r in
    cc
