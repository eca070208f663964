-- Small facts on options, kinds and turns. Assumes nothing.
use Rattle.std.proofs.Common.{◌≡◌, true, false, not, ◌&&◌, eqb, is_some, Some, None, Option, refl, ap}
use Rattle.std.proofs.lemmas.Bool.{and_parts, eqb-true}
use Rattle.row.specs.Rows.{is_track}
use Rattle.row.specs.declared.rows.Kind.{Kind}
use Rattle.row.specs.declared.rows.Kind.TheVariants.{Normal, Abnormal}
use Rattle.row.specs.declared.rows.Row.{Row}
use Rattle.law.specs.declared.calls.TurnNumbers.{TurnNumbers}
use Rattle.law.specs.declared.calls.Work.{Work}
use Rattle.law.specs.Checks.{same_work, same_turn, is_open}
use Rattle.law.specs.State.{is_abnormal}

-- an option is not both
pub some_is_none : {A : Type 0} (o : Option A) (x : A) → o ≡ Some x → o ≡ None → ⊥
some_is_none o x e f = cc

pub none_of : {A : Type 0} (o : Option A) → is_some o ≡ false → o ≡ None
none_of (Some x) e = cc
none_of None e = refl

pub some_of : {A : Type 0} (o : Option A) → is_some o ≡ true → (x : A) × (o ≡ Some x)
some_of (Some x) e = (x, refl)
some_of None e = absurd cc

-- a mode is not both
pub clash : (m : Kind) → m ≡ Normal → m ≡ Abnormal → ⊥
clash m e f = cc

pub normal_of : (k : Kind) → is_abnormal k ≡ false → k ≡ Normal
normal_of Normal e = refl
normal_of Abnormal e = cc

-- a check that stops what is abnormal for helpers, and did not apply
pub helper_only : (row : Row) (k : Kind) → (not (is_track row) && is_abnormal k) ≡ false → is_track row ≡ false → k ≡ Normal
helper_only row k e h = normal_of k (rw h at e)

same_work_lem : (v w : Option Work) → same_work v w ≡ true → v ≡ w
same_work_lem (Some v) (Some w) e =
    let p = and_parts (eqb v.row w.row) (eqb v.block w.block) e in
    let r : v.row ≡ w.row = eqb-true v.row w.row p.0 in
    let b : v.block ≡ w.block = eqb-true v.block w.block p.1 in
    λ i. Some (record { row = r i; block = b i })
same_work_lem (Some v) None e = cc
same_work_lem None (Some w) e = cc
same_work_lem None None e = refl

same_turn_lem : (t u : TurnNumbers) → same_turn t u ≡ true → t ≡ u
same_turn_lem t u e =
    let p = and_parts (eqb t.number u.number) (eqb t.clock u.clock && same_work t.work u.work) e in
    let q = and_parts (eqb t.clock u.clock) (same_work t.work u.work) p.1 in
    let n : t.number ≡ u.number = eqb-true t.number u.number p.0 in
    let c : t.clock ≡ u.clock = eqb-true t.clock u.clock q.0 in
    let w : t.work ≡ u.work = same_work_lem t.work u.work q.1 in
    λ i. record { number = n i; clock = c i; work = w i }

-- a turn that passes for the open one is the open one
pub open_turn_lem : (o : Option TurnNumbers) (t : TurnNumbers) → is_open o t ≡ true → o ≡ Some t
open_turn_lem (Some u) t e = ap Some (same_turn_lem u t e)
open_turn_lem None t e = cc
