-- What a report does to jobs, board, pool and mode. Assumes nothing.
use Rattle.std.proofs.Common.{eqb, ◌≡◌, ℕ, ◌+◌, ◌<◌, ◌≤◌, Bool, true, false, cond, List, length, get_or, set, is_some, Some, None, Option, sym, refl, ap, ◌∙◌, subst, inl, inr, arith}
use Rattle.std.proofs.lemmas.List.{get_or-set_same, get_or-set_other}
use Rattle.std.proofs.lemmas.Bool.{both_ways, cases_lt, cases_eq}
use Rattle.row.specs.declared.rows.Kind.{Kind}
use Rattle.row.specs.declared.rows.Kind.TheVariants.{Normal}
use Rattle.row.specs.declared.rows.Row.{Row}
use Rattle.judge.specs.Plan.{rows_of}
use Rattle.sets.specs.Sets.{member, joined, left, IsEmpty}
use Rattle.sets.proofs.Laws.{laws}
use Rattle.law.specs.declared.calls.Job.{Job}
use Rattle.law.specs.declared.calls.Outcome.TheVariants.{GoesOn, Finished, Cut}
use Rattle.law.specs.declared.calls.TurnNumbers.{TurnNumbers}
use Rattle.law.specs.declared.calls.Work.{Work}
use Rattle.law.specs.Rules.{outcome_of}
use Rattle.law.specs.State.{State, after, reports, row_at, is_for, ends, ticked, after_tick, given_back, back_from, with_block, quiet_below}
use Rattle.law.proofs.Orderly.{quiet_yes, quiet_not}
use Rattle.law.proofs.Represents.{same_state}
use Rattle.session.specs.Reports.{Worked}
use Rattle.session.specs.RowStates.{new_row}
use Rattle.session.specs.declared.row_state.RowState.{RowState}
use Rattle.session.specs.View.{rows_in, job_of, ready_of, view, Tied}
use Rattle.session.specs.declared.session.Session.{Session}
use Rattle.session.proofs.Tables.{has_place, joined-set, told_by}

module _ {B P : Type 0} where
  -- a row outside the plan has no unended job
  pub outside : (s : Session B P) (r : ℕ) → length (rows_in s) ≤ r → job_of s r ≡ None
  outside s r l = s.in_plan r l

  -- where the board is empty no job is unended
  pub quiet : (on : B → List Bool) (s : Session B P) → Tied on s → IsEmpty (on s.board) → quiet_below (length (rows_in s)) (job_of s) ≡ true
  quiet on s tied none = by (quiet_below (length (rows_in s)) (job_of s)) refl
    where
      by : (t : Bool) → quiet_below (length (rows_in s)) (job_of s) ≡ t → t ≡ true
      by true e = refl
      by false e =
          let q = quiet_not (job_of s) (length (rows_in s)) e in
          absurd (both_ways (member (on s.board) q.0) (none q.0) (tied q.0 ∙ ap is_some q.3))

  -- where the board has a row, some job of the plan is unended
  pub not_quiet : (on : B → List Bool) (s : Session B P) (r : ℕ) → Tied on s → member (on s.board) r ≡ true → quiet_below (length (rows_in s)) (job_of s) ≡ false
  not_quiet on s r tied some = by (quiet_below (length (rows_in s)) (job_of s)) refl
    where
      none : job_of s r ≡ None → ⊥
      none e = both_ways (member (on s.board) r) (tied r ∙ ap is_some e) some

      by : (t : Bool) → quiet_below (length (rows_in s)) (job_of s) ≡ t → t ≡ false
      by false e = refl
      by true e = elim (cases_lt r (length (rows_in s))) [ inl l ↦ absurd (none (quiet_yes (job_of s) (length (rows_in s)) e r l)) | inr l ↦ absurd (none (outside s r l)) ]

-- a job of which nothing is left has ended
pub has_ended : (a : Row) (finished : Bool) (j : Job) (rest : Option Job) → rest ≡ after_tick a finished (Some j) → is_some rest ≡ false → ends a finished j ≡ true
has_ended a finished j rest e none = by (ends a finished j) (sym none ∙ ap is_some e)
  where
    by : (t : Bool) → false ≡ is_some (cond t None (Some (ticked j))) → t ≡ true
    by true x = refl
    by false x = absurd cc

-- The job j of the row that the turn was for, a of the plan, has ended by this tick: nothing is left of it, and its block goes back.
module _ {B P : Type 0} (s : Session B P) (w : Work) (finished : Bool) (a : Row) (j : Job) (is : row_at (rows_in s) w.row ≡ a) (unended : job_of s w.row ≡ Some j)
    (over : ends a finished j ≡ true) where
  nothing_left_lem : after_tick (row_at (rows_in s) w.row) finished (job_of s w.row) ≡ None
  nothing_left_lem = ap (after_tick (row_at (rows_in s) w.row) finished) unended ∙ ap (λ z. after_tick z finished (Some j)) is ∙ ap (λ t. cond t None (Some (ticked j))) over

  goes_back : given_back (row_at (rows_in s) w.row) finished (job_of s w.row) ≡ Some j.block
  goes_back = ap (given_back (row_at (rows_in s) w.row) finished) unended ∙ ap (λ z. given_back z finished (Some j)) is ∙ ap (λ t. cond t (Some j.block) None) over

  pub ended-outcome : cond finished Finished Cut ≡ outcome_of (row_at (rows_in s) w.row) finished (job_of s w.row)
  ended-outcome =
      sym (ap (outcome_of (row_at (rows_in s) w.row) finished) unended ∙ ap (λ z. outcome_of z finished (Some j)) is ∙ ap (λ t. cond finished Finished (cond t Cut GoesOn)) over)

  -- what is kept of row q after a tick of its job
  abbrev ended_row : ℕ → RowState → RowState
  ended_row q x = record { job = after_tick (row_at (rows_in s) q) finished x.job; ready = x.ready }

  module _ (rows : List RowState) (e : rows ≡ set s.rows w.row (record { job = None; ready = ready_of s w.row })) (in_plan : w.row < length (rows_in s)) where
    fits_lem : w.row < length s.rows
    fits_lem = let place = has_place s w.row in_plan in omega arith

    as_ended : rows ≡ set s.rows w.row (record { job = after_tick (row_at (rows_in s) w.row) finished (job_of s w.row); ready = ready_of s w.row })
    as_ended = e ∙ ap (λ o. set s.rows w.row (record { job = o; ready = ready_of s w.row })) (sym nothing_left_lem)

    pub ended-jobs : (q : ℕ) → (get_or rows q new_row).job ≡ cond (is_for (Some w) q) (after_tick (row_at (rows_in s) q) finished (job_of s q)) (job_of s q)
    ended-jobs q = ap (λ z. (get_or z q new_row).job) as_ended ∙ told_by (λ x. x.job) ended_row s.rows w.row q fits_lem

    pub ended-ready : (q : ℕ) → (get_or rows q new_row).ready ≡ ready_of s q
    ended-ready q = ap (λ z. (get_or z q new_row).ready) as_ended ∙ told_by (λ x. x.ready) ended_row s.rows w.row q fits_lem ∙ by (eqb w.row q)
      where
        by : (t : Bool) → cond t (ready_of s q) (ready_of s q) ≡ ready_of s q
        by true = refl
        by false = refl

    -- the board still has the rows with an unended job when the row leaves it
    pub left_tied : (on on' : List Bool) → on' ≡ left on w.row → ((q : ℕ) → get_or on q false ≡ is_some (job_of s q)) → (q : ℕ) → get_or on' q false ≡ is_some (get_or rows q new_row).job
    left_tied on on' board tied q = ap (λ z. get_or z q false) board ∙ by ∙ sym (ap (λ z. is_some (get_or z q new_row).job) e)
      where
        none : RowState
        none = record { job = None; ready = ready_of s w.row }

        by : get_or (left on w.row) q false ≡ is_some (get_or (set s.rows w.row none) q new_row).job
        by = elim (cases_eq q w.row) [
          | inl e ↦ subst (λ z. get_or (left on w.row) z false ≡ is_some (get_or (set s.rows w.row none) z new_row).job) (sym e) (laws.gone on w.row ∙ sym (ap (λ x. is_some x.job) (get_or-set_same s.rows w.row none new_row fits_lem)))
          | inr n ↦ laws.left_others on w.row q n ∙ tied q ∙ sym (ap (λ x. is_some x.job) (get_or-set_other s.rows w.row q none new_row n))
        ]

  pub ended-blocks : (free free' : List Bool) → free' ≡ joined free j.block → free' ≡ with_block (back_from (rows_in s) (job_of s) finished (Some w)) free
  ended-blocks free free' e = e ∙ joined-set free j.block ∙ ap (λ o. with_block o free) (sym goes_back)

-- the state after an accepted report, once the tick is accounted for
pub worked_next : {B P : Type 0} (on : B → List Bool) (free : P → List Bool) (s m : Session B P) (t : TurnNumbers) (finished : Bool) (k : Kind)
    → Worked on free s t.work finished m → k ≡ cond (quiet_below (length (rows_in m)) (job_of m)) Normal m.mode
    → ◌≡◌ {A = State} (record { clock = m.clock + 1; mode = k; job = job_of m; ready = ready_of m; open_turn = None; free = free m.pool })
    (after (rows_in s) (view free s) (reports t finished))
worked_next on free s m t finished k done mode =
    let rows : rows_in m ≡ rows_in s = ap (λ p. rows_of p.now) done.plan in
    same_state _ _ (ap (λ z. z + 1) done.clock) (mode ∙ (λ i. cond (quiet_below (length (rows i)) (λ r. done.jobs r i)) Normal (done.mode i)))
    done.jobs done.ready refl done.blocks
