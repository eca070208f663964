-- An arrival takes a block and makes a job, or finds no block free. Assumes nothing.
use Rattle.std.proofs.Common.{◌≡◌, ℕ, ◌+◌, ◌<◌, Bool, true, false, cond, eqb, List, [], ◌∷◌, length, get_or, set, is_some, Some, None, sym, refl, ap, ◌∙◌, arith}
use Rattle.std.proofs.lemmas.List.Sums.{sum_by-cons}
use Rattle.std.proofs.lemmas.Bool.{eq-eqb, ne_eqb}
use Rattle.row.specs.Rows.{period_of}
use Rattle.row.specs.declared.faults.Refusal.TheVariants.{NoFreeBlock}
use Rattle.row.specs.declared.rows.Kind.{Kind}
use Rattle.row.specs.declared.rows.Row.{Row}
use Rattle.sets.specs.Sets.{member, size, IsEmpty}
use Rattle.sets.proofs.Members.{empty_none, size_leave}
use Rattle.law.specs.Checks.{count}
use Rattle.law.specs.State.{State, after, admits, row_at, new_job}
use Rattle.law.proofs.Represents.{same_state, set_by}
use Rattle.session.specs.Arrivals.{Admitted, wanting}
use Rattle.session.specs.Faults.{fault_in}
use Rattle.session.specs.RowStates.{new_row}
use Rattle.session.specs.declared.row_state.RowState.{RowState}
use Rattle.session.specs.View.{rows_in, job_of, state_of, view, Tied}
use Rattle.session.specs.declared.session.Session.{Session}
use Rattle.session.proofs.Tables.{has_place, joined-set, told_by}

-- the law counts the blocks as the pools do
size-count : (blocks : List Bool) → size blocks ≡ count blocks
size-count [] = refl
size-count (true ∷ blocks) = omega (arith, size-count blocks, sum_by-cons (λ b. cond b 1 0) true blocks)
size-count (false ∷ blocks) = omega (arith, size-count blocks, sum_by-cons (λ b. cond b 1 0) false blocks)

-- no block is wanting where one was taken
pub not_wanting : (s : State) (r b : ℕ) → member s.free b ≡ true → wanting s r ≡ None
not_wanting s r b e =
    let more : count s.free ≡ 0 → ⊥ = λ z. omega (arith, size_leave s.free b e, size-count s.free) in
    rw (ne_eqb (count s.free) 0 more)

-- where no block was taken, the last check applies
pub no_block : (s : State) (r : ℕ) → IsEmpty s.free → wanting s r ≡ Some (fault_in (record { refusal = NoFreeBlock; place = r }))
no_block s r none = rw (eq-eqb (count s.free) 0 (omega (arith, empty_none s.free none, size-count s.free)))

module _ {B P : Type 0} where
  -- Of a session whose pool has just given block b of `blocks`, admit makes the state after an admitted arrival.
  pub admitted_next : (on : B → List Bool) (free : P → List Bool) (s s' : Session B P) (a : Row) (r : ℕ) (k : Kind) (b : ℕ) (blocks : List Bool)
      → Admitted on s a r k b s' → r < length (rows_in s) → row_at (rows_in s) r ≡ a → free s.pool ≡ set blocks b false
      → view free s' ≡ after (rows_in s) (state_of blocks s) (admits r k b)
  admitted_next on free s s' a r k b blocks done in_plan is taken =
      let place = has_place s r in_plan in
      let new : ℕ → RowState → RowState = λ q _. record { job = Some (new_job k s.clock b); ready = s.clock + period_of (row_at (rows_in s) q) } in
      let fits : r < length s.rows = omega arith in
      let rows = done.rows ∙ ap (λ z. set s.rows r (record { job = Some (new_job k s.clock b); ready = s.clock + period_of z })) (sym is) in
      same_state _ _ done.clock done.mode
      (λ q. ap (λ z. (get_or z q new_row).job) rows ∙ told_by (λ x. x.job) new s.rows r q fits)
      (λ q. ap (λ z. (get_or z q new_row).ready) rows ∙ told_by (λ x. x.ready) new s.rows r q fits)
      done.turn (ap free done.pool ∙ taken)

  -- and the board still has the rows with an unended job
  pub admitted-tied : (on : B → List Bool) (s s' : Session B P) (a : Row) (r : ℕ) (k : Kind) (b : ℕ) → length (on s.board) ≡ 32
      → Admitted on s a r k b s' → r < length (rows_in s) → Tied on s → Tied on s'
  admitted-tied on s s' a r k b range done in_plan tied q =
      let place = has_place s r in_plan in
      let fits : r < length s.rows = omega arith in
      let fits' : r < length (on s.board) = omega arith in
      let yes : get_or (on s'.board) q false ≡ cond (eqb r q) true (get_or (on s.board) q false)
      = ap (λ z. get_or z q false) (done.board ∙ joined-set (on s.board) r) ∙ set_by (λ _ _. true) (on s.board) r false q fits' in
      let job : job_of s' q ≡ cond (eqb r q) (Some (new_job k s.clock b)) (job_of s q)
      = ap (λ z. (get_or z q new_row).job) done.rows ∙ told_by (λ x. x.job) (λ _ _. record { job = Some (new_job k s.clock b); ready = s.clock + period_of a }) s.rows r q fits in
      yes ∙ by (eqb r q) ∙ sym (ap is_some job)
    where
      by : (t : Bool) → cond t true (get_or (on s.board) q false) ≡ is_some (cond t (Some (new_job k s.clock b)) (job_of s q))
      by true = refl
      by false = tied q
