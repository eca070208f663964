-- Tables and plans, read at any place. Assumes nothing.
use Rattle.std.proofs.Common.{ap, ◌∙◌, cond, eqb, ◌≡◌, ℕ, zero, suc, ◌<◌, Bool, true, false, ltb, List, length, get_or, set, replicate, sym, refl, subst, inl, inr, arith}
use Rattle.std.specs.List.{slice_get}
use Rattle.std.proofs.lemmas.Option.{slice_get-get_or, slice_get_past}
use Rattle.std.proofs.lemmas.List.{set-get_or, set_past}
use Rattle.std.proofs.lemmas.Bool.{cases_lt, lt-ltb, le-ltb}
use Rattle.row.specs.declared.rows.Row.{Row}
use Rattle.law.specs.State.{least_row}
use Rattle.law.proofs.Represents.{set_by}
use Rattle.sets.specs.Sets.{member, joined}
use Rattle.session.specs.Arrivals.{RowOf}
use Rattle.session.specs.RowStates.{new_row}
use Rattle.session.specs.declared.row_state.RowState.{RowState}
use Rattle.session.specs.View.{rows_in}
use Rattle.session.specs.declared.session.Session.{Session}

-- a table of n equal entries has that entry everywhere
pub all_same : {A : Type 0} (n : ℕ) (x : A) (r : ℕ) → get_or (replicate n x) r x ≡ x
all_same zero x zero = refl
all_same zero x (suc r) = refl
all_same (suc n) x zero = refl
all_same (suc n) x (suc r) = all_same n x r

-- what f tells of each row's state, where the state of row i is changed
pub told_by : {A : Type 0} (f : RowState → A) (new : ℕ → RowState → RowState) (xs : List RowState) (i q : ℕ) → i < length xs
    → f (get_or (set xs i (new i (get_or xs i new_row))) q new_row) ≡ cond (eqb i q) (f (new q (get_or xs q new_row))) (f (get_or xs q new_row))
told_by f new xs i q l = ap f (set_by new xs i new_row q l) ∙ by (eqb i q)
  where
    by : (t : Bool) → f (cond t (new q (get_or xs q new_row)) (get_or xs q new_row)) ≡ cond t (f (new q (get_or xs q new_row))) (f (get_or xs q new_row))
    by true = refl
    by false = refl

-- what a plan answers when asked for row r
pub row_of : (rows : List Row) (r : ℕ) → RowOf rows r (slice_get rows r)
row_of rows r = elim (cases_lt r (length rows)) [
  | inl l ↦ subst (RowOf rows r) (sym (slice_get-get_or rows r least_row l)) (l, refl)
  | inr l ↦ subst (RowOf rows r) (sym (slice_get_past rows r l)) l
]

-- a row of the plan has a place in the tables
pub has_place : {B P : Type 0} (s : Session B P) (r : ℕ) → r < length (rows_in s) → r < 32
has_place s r l = omega (arith, s.plan.now.few)

-- to ask k to join is to write k, present or past the end as it may be
pub joined-set : (xs : List Bool) (k : ℕ) → joined xs k ≡ set xs k true
joined-set xs k = elim (cases_lt k (length xs)) [
  | inl l ↦ by (member xs k) refl (lt-ltb k (length xs) l)
  | inr l ↦ rw (le-ltb k (length xs) l) (sym (set_past xs k true l))
]
  where
    by : (t : Bool) → member xs k ≡ t → ltb k (length xs) ≡ true → joined xs k ≡ set xs k true
    by true e l = rw (l, e) (sym (subst (λ z. set xs k z ≡ xs) e (set-get_or xs k false)))
    by false e l = rw (l, e)
