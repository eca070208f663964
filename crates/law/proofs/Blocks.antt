-- After every lawful history each block is free or held as it must be, and enough blocks are always enough. Assumes nothing.
use Rattle.std.proofs.Common.{◌≡◌, ℕ, ◌<◌, ◌≤◌, Bool, true, false, cond, ltb, ◌↔◌, List, [], ◌∷◌, length, get_or, Some, None, Option, sym, refl, ap, ◌∙◌, subst, inl, inr, arith, Ok}
use Rattle.std.proofs.lemmas.Bool.{cases_eq, both_ways, eq-eqb, ne_eqb, eqb-true, ltb-true, not-false}
use Rattle.row.specs.Faults.{number_of}
use Rattle.row.specs.declared.faults.Fault.{Fault}
use Rattle.row.specs.declared.faults.Refusal.TheVariants.{NoFreeBlock}
use Rattle.row.specs.declared.rows.Kind.{Kind}
use Rattle.row.specs.declared.rows.Row.{Row}
use Rattle.law.specs.Answer.{Answer}
use Rattle.law.specs.declared.calls.Reply.TheVariants.{Done}
use Rattle.law.specs.declared.calls.Call.{Call}
use Rattle.law.specs.declared.calls.Call.TheVariants.{Arrive, Report}
use Rattle.law.specs.declared.calls.Job.{Job}
use Rattle.law.specs.declared.calls.Outcome.{Outcome}
use Rattle.law.specs.declared.calls.Work.{Work}
use Rattle.law.specs.Checks.{count, checks, first_fault}
use Rattle.law.specs.History.{History, state_at, job_at, free_at}
use Rattle.law.specs.Law.{Holds, Shared, Strayed}
use Rattle.law.specs.Rules.{WorkDue, Lawful}
use Rattle.law.specs.State.{row_at, given_back, with_block, ends, ticked}
use Rattle.law.proofs.Basics.{some_is_none, none_of}
use Rattle.law.proofs.Checks.{applies_at, first-applies}
use Rattle.law.proofs.Kept.{one_if, Kept, kept_takes, kept_gives, kept_same}
use Rattle.law.proofs.Orderly.{Orderly, orderly, ticks_step}
use Rattle.law.proofs.Steps.{Step, admitted, opened, reported, refused, step}
use Rattle.law.proofs.Sums.{sum_none, sum_ones_but}
use Rattle.law.proofs.Windows.{Ticks}

-- the block of a row's unended job
abbrev pub holding : Option Job → Option ℕ
holding (Some j) = Some j.block
holding None = None

holder : (rows : List Row) (h : History) (r b : ℕ) (o : Option Job) → job_at rows h r ≡ o → holding o ≡ Some b → Holds rows h r b
holder rows h r b (Some j) e f = record { mine = j; unended = e; block = cc f }
holder rows h r b None e f = absurd (some_is_none _ _ f refl)

abbrev pub KeptAt : List Row → List Bool → History → Type 0
KeptAt rows free₀ h = Kept (length rows) free₀ (free_at rows free₀ h) (λ r. holding (job_at rows h r))

module _ (rows : List Row) (number : ℕ) (free₀ : List Bool) (h : History) (s : Orderly rows h) (w : KeptAt rows free₀ h) where
  kept_report : (n c : ℕ) (x : Option Work) (finished : Bool) (o : Outcome) → WorkDue (job_at rows h) x
      → KeptAt rows free₀ (record { call = Report (record { number = n; clock = c; work = x }) finished; answer = Ok (Done o) } ∷ h)
  kept_report n c (Some x) finished o due =
      subst (λ z. Kept (length rows) free₀ (with_block z (free_at rows free₀ h)) hold') (sym (ap (given_back row finished) due.unended))
      (by (ends row finished mine) refl)
    where
      row : Row
      row = row_at rows x.row

      mine : Job
      mine = due.mine

      h' : History
      h' = record { call = Report (record { number = n; clock = c; work = Some x }) finished; answer = Ok (Done o) } ∷ h

      hold : ℕ → Option ℕ
      hold r = holding (job_at rows h r)

      hold' : ℕ → Option ℕ
      hold' r = holding (job_at rows h' r)

      ticks : Ticks rows (job_at rows h) (job_at rows h') x.row mine finished
      ticks = ticks_step rows h n c x finished o due s

      held : hold x.row ≡ Some mine.block
      held = ap holding due.unended

      others : (r : ℕ) → (x.row ≡ r → ⊥) → hold' r ≡ hold r
      others r d = ap holding (ticks.other_jobs r d)

      after : (b : Bool) → ends row finished mine ≡ b → hold' x.row ≡ holding (cond b None (Some (ticked mine)))
      after b e = ap holding ticks.left ∙ ap (λ z. holding (cond z None (Some (ticked mine)))) e

      by : (b : Bool) → ends row finished mine ≡ b → Kept (length rows) free₀ (with_block (cond b (Some mine.block) None) (free_at rows free₀ h)) hold'
      by true e = kept_gives w x.row mine.block (s.in_plan x.row mine due.unended) held (after true e) others
      by false e = kept_same w (λ r. elim (cases_eq x.row r) [
        | inl p ↦ subst (λ z. hold' z ≡ hold z) p (after false e ∙ sym held)
        | inr d ↦ others r d
      ])
  kept_report n c None finished o due = w

  kept_step : {c : Call} {a : Answer} → Step rows number free₀ h c a → KeptAt rows free₀ (record { call = c; answer = a } ∷ h)
  kept_step (admitted q k b a) =
      kept_takes w q b a.in_plan (ap holding a.ended) a.is_free (rw (eq-eqb q q refl)) (λ r d. rw (ne_eqb q r d))
  kept_step (opened t none a) = w
  kept_step (reported t finished o e) = kept_report t.number t.clock t.work finished o (s.due t e)
  kept_step (refused c f e) = w

pub kept-blocks : (rows : List Row) (number : ℕ) (free₀ : List Bool) (h : History) → Lawful rows number free₀ h → KeptAt rows free₀ h
kept-blocks rows number free₀ [] l = record {
  out = λ r b e. absurd (some_is_none _ _ e refl);
  apart = λ q r b e. absurd (some_is_none _ _ e refl);
  was_free = λ b e. e;
  was_taken = λ r b e. absurd (some_is_none _ _ e refl);
  kept = λ b e. inl e;
  total = omega (arith, sum_none (length rows));
}
kept-blocks rows number free₀ (e ∷ h) l =
    kept_step rows number free₀ h (orderly rows number free₀ h l.0) (kept-blocks rows number free₀ h l.0)
    (step rows number free₀ h e.call e.answer l.1)

module _ (rows : List Row) (number : ℕ) (free₀ : List Bool) (h : History) (l : Lawful rows number free₀ h) where
  holds : (r b : ℕ) → Holds rows h r b → holding (job_at rows h r) ≡ Some b
  holds r b x = ap holding x.unended ∙ ap Some x.block

  pub none_shared : Shared rows h → ⊥
  none_shared (q, r, b, less, x, y) = omega (arith, less, (kept-blocks rows number free₀ h l).apart q r b (holds q b x) (holds r b y))

  pub none_strayed : Strayed rows free₀ (free_at rows free₀ h) h → ⊥
  none_strayed (b, e, astray) =
      let w = kept-blocks rows number free₀ h l in
      elim astray [
        | inl x ↦ elim (w.kept b e) [
          | inl f ↦ both_ways (get_or (free_at rows free₀ h) b false) x.0 f
          | inr k ↦ x.1 k.0 (holder rows h k.0 b (job_at rows h k.0) refl k.1)
        ]
        | inr x ↦ both_ways (get_or (free_at rows free₀ h) b false) (w.out x.1.0 b (holds x.1.0 b x.1.1)).1 x.0
      ]

  -- the free blocks are those that were free at opening and are not held
  pub free_exactly : (b : ℕ) → (get_or (free_at rows free₀ h) b false ≡ true) ↔ ((get_or free₀ b false ≡ true) × ((r : ℕ) → Holds rows h r b → ⊥))
  free_exactly b =
      let w = kept-blocks rows number free₀ h l in (
        (λ e. (w.was_free b e, λ r x. both_ways (get_or (free_at rows free₀ h) b false) (w.out r b (holds r b x)).1 e)),
        (λ p. elim (w.kept b p.0) [ inl f ↦ f | inr k ↦ absurd (p.1 k.0 (holder rows h k.0 b (job_at rows h k.0) refl k.1)) ]),
      )

  -- an arrival that is refused for want of a block finds none free, and its row holds none
  pub none_starved : (r : ℕ) (k : Kind) (f : Fault) → first_fault (checks rows (state_at rows free₀ h) (Arrive r k)) ≡ Some f → f.refusal ≡ NoFreeBlock
      → length rows ≤ count free₀ → ⊥
  none_starved r k f e is many =
      let all = checks rows (state_at rows free₀ h) (Arrive r k) in
      let first = first-applies 0 all f (omega arith) e in
      let twenty : number_of f.refusal ≡ 20 = ap number_of is in
      let none : count (free_at rows free₀ h) ≡ 0 = eqb-true (count (free_at rows free₀ h)) 0 (subst (λ n. applies_at n all ≡ true) twenty first.this) in
      let in_plan : r < length rows = ltb-true r (length rows) (not-false (ltb r (length rows)) (first.before 15 (omega arith))) in
      let ended : job_at rows h r ≡ None = none_of (job_at rows h r) (first.before 19 (omega arith)) in
      let fewer = sum_ones_but (length rows) (λ q. one_if (holding (job_at rows h q))) r (λ q. one (holding (job_at rows h q)))
      in_plan (ap (λ o. one_if (holding o)) ended) in
      omega (arith, many, none, (kept-blocks rows number free₀ h l).total, fewer)
    where
      one : (o : Option ℕ) → one_if o ≤ 1
      one (Some b) = omega arith
      one None = omega arith
