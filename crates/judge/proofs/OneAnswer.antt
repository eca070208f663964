-- The judge's answer is determined. Assumes nothing.
use Rattle.std.proofs.Common.{◌≡◌, ℕ, ◌<◌, ◌≤◌, true, cond, eqb, ltb, ◌⊎◌, List, map, length, get_or, take, Some, None, Option, sym, refl, ap, ◌∙◌, subst, inl, inr, arith}
use Rattle.std.proofs.lemmas.Bool.{cases_lt, lt-ltb, le-ltb, eq-eqb, ne_eqb, true≢false}
use Rattle.std.proofs.lemmas.List.{same_lists, length-map}
use Rattle.row.specs.Rows.{numbers_of, is_track}
use Rattle.row.specs.declared.rows.Row.{Row}
use Rattle.row.specs.declared.rows.Row.TheVariants.{Track, Helper}
use Rattle.row.specs.declared.rows.RowNumbers.{RowNumbers}
use Rattle.judge.specs.Accepted.{LatePasses, Passes, Accepted, MixedInTime, LongInTime, FailsNormal, FailsMixed, FailsLong}
use Rattle.judge.specs.Judged.{all_keep, FailsBy, FailsFirst, FirstFailure, Refused}
use Rattle.judge.specs.Plan.{rows_of, bounds_of, Filled}
use Rattle.judge.specs.Determined.{AtMostOne, Determined}
use Rattle.judge.specs.declared.bounds.Bounds.{Bounds}
use Rattle.judge.specs.declared.bounds.LateBounds.{LateBounds}
use Rattle.judge.specs.declared.bounds.JudgeFault.{JudgeFault}
use Rattle.judge.specs.declared.bounds.JudgeFault.TheVariants.{TooManyRows, NoRows, OutsideLimits, NormalBound as normalBound, MixedBound as mixedBound, LongBound as longBound}
use Rattle.judge.specs.declared.plan.Plan.{Plan}
use Rattle.judge.proofs.Accepting.{some-row}
use Rattle.judge.proofs.SameRows.{same_rows, rows_keep}
use Rattle.judge.proofs.Uniques.{least_single, mixed_single, long_single}

-- a row's bounds
late_single : (above : List Row) (r : Row) → AtMostOne (LatePasses above r)
late_single above (Track t) (Some a) (Some b) p q =
    let mixed = mixed_single above t.short a.mixed b.mixed p.0 q.0 in
    let long = long_single above t.long a.long b.long p.2 q.2 in
    λ i. Some (record { mixed = mixed i; long = long i })
late_single above (Track t) (Some a) None p q = absurd q
late_single above (Track t) None (Some b) p q = absurd p
late_single above (Track t) None None p q = refl
late_single above (Helper h) (Some a) (Some b) p q = absurd p
late_single above (Helper h) (Some a) None p q = absurd p
late_single above (Helper h) None (Some b) p q = absurd q
late_single above (Helper h) None None p q = refl

passes_single : (above : List Row) (r : Row) → AtMostOne (Passes above r)
passes_single above r a b p q =
    let normal = least_single _ a.normal b.normal p.normal q.normal in
    let late = late_single above r a.late b.late p.late q.late in
    λ i. record { normal = normal i; late = late i }

accepted_single : (rows : List Row) → AtMostOne (Accepted rows)
accepted_single rows a b p q =
    same_lists a b (p.many ∙ sym q.many) (λ k d below.
    let within : k < length rows = omega (arith, p.many) in
    let r = some-row rows k within in
    passes_single (take k rows) (get_or rows k r) (get_or a k d) (get_or b k d) (p.each k within r d) (q.each k within r d))

filled_single : (given : List RowNumbers) (p q : Plan) → Filled given p → Filled given q → (rows_of p ≡ rows_of q) × (bounds_of p ≡ bounds_of q)
filled_single given p q f g =
    let rows = same_rows (rows_of p) (rows_of q) (f.made ∙ sym g.made) in
    (rows, accepted_single (rows_of q) (bounds_of p) (bounds_of q) (subst (λ rs. Accepted rs (bounds_of p)) rows f.accepted) g.accepted)

-- a track that passes has both late bounds in time
late_in_time : (above : List Row) (r : Row) (late : Option LateBounds) → is_track r ≡ true → LatePasses above r late → MixedInTime above r × LongInTime above r
late_in_time above (Track t) (Some b) track p = ((b.mixed, p.0, p.1), (b.long, p.2, p.3))
late_in_time above (Track t) None track p = absurd p
late_in_time above (Helper h) late track p = absurd (true≢false (sym track))

module _ (above : List Row) (r : Row) (i : ℕ) where
  -- the check that fails
  abbrev Stage : JudgeFault → Type 0
  Stage f = ((f ≡ normalBound i) × FailsNormal above r) ⊎ (((f ≡ mixedBound i) × FailsMixed above r) ⊎ ((f ≡ longBound i) × FailsLong above r))

  stage : (f : JudgeFault) → FailsBy above r i f → Stage f
  stage (TooManyRows n) p = absurd p
  stage NoRows p = absurd p
  stage OutsideLimits p = absurd p
  stage (normalBound j) p = inl (ap normalBound p.0, p.1)
  stage (mixedBound j) p = inr (inl (ap mixedBound p.0, p.1))
  stage (longBound j) p = inr (inr (ap longBound p.0, p.1))

  stages_single : AtMostOne Stage
  stages_single f g (inl a) (inl b) = a.0 ∙ sym b.0
  stages_single f g (inl a) (inr (inl b)) = absurd (a.1 b.1.1)
  stages_single f g (inl a) (inr (inr b)) = absurd (a.1 b.1.1)
  stages_single f g (inr (inl a)) (inl b) = absurd (b.1 a.1.1)
  stages_single f g (inr (inl a)) (inr (inl b)) = a.0 ∙ sym b.0
  stages_single f g (inr (inl a)) (inr (inr b)) = absurd (a.1.2 b.1.2)
  stages_single f g (inr (inr a)) (inl b) = absurd (b.1 a.1.1)
  stages_single f g (inr (inr a)) (inr (inl b)) = absurd (b.1.2 a.1.2)
  stages_single f g (inr (inr a)) (inr (inr b)) = a.0 ∙ sym b.0

  fails_single : AtMostOne (FailsBy above r i)
  fails_single f g p q = stages_single f g (stage f p) (stage g q)

  -- a row that passes fails by no check
  fails-apart : (b : Bounds) (f : JudgeFault) → Passes above r b → FailsBy above r i f → ⊥
  fails-apart b f p fails =
      elim (stage f fails) [
        | inl s ↦ s.1 (b.normal, p.normal, p.in_time)
        | inr (inl s) ↦ s.1.2 (late_in_time above r b.late s.1.0 p.late).0
        | inr (inr s) ↦ s.1.3 (late_in_time above r b.late s.1.0 p.late).1
      ]

module _ (rows : List Row) where
  -- a row that fails has no row before it that fails
  not_before : (f g : JudgeFault) (p : FailsFirst rows f) (q : FailsFirst rows g) → p.place < q.place → ⊥
  not_before f g p q less =
      let r = some-row rows p.place p.within in
      let passes = q.before p.place less r in
      fails-apart (take p.place rows) (get_or rows p.place r) p.place passes.0 f passes.1 (p.fails r)

  first_single : AtMostOne (FailsFirst rows)
  first_single f g p q =
      elim (cases_lt p.place q.place) [
        | inl less ↦ absurd (not_before f g p q less)
        | inr more ↦ elim (cases_lt q.place p.place) [
          | inl less ↦ absurd (not_before g f q p less)
          | inr least ↦
              let same : p.place ≡ q.place = omega arith in
              let r = some-row rows q.place q.within in
              let moved = subst (λ k. FailsBy (take k rows) (get_or rows k r) k f) same (p.fails r) in
              fails_single (take q.place rows) (get_or rows q.place r) q.place f g moved (q.fails r)
        ]
      ]

  first-apart : (bounds : List Bounds) (f : JudgeFault) → Accepted rows bounds → FailsFirst rows f → ⊥
  first-apart bounds f a p =
      let r = some-row rows p.place p.within in
      let b : Bounds = record { normal = 0; late = None } in
      fails-apart (take p.place rows) (get_or rows p.place r) p.place (get_or bounds p.place b) f (a.each p.place p.within r b) (p.fails r)

-- the refusals that look at the numbers alone, in their order
abbrev early : List RowNumbers → Option JudgeFault
early given = cond (ltb 32 (length given)) (Some (TooManyRows (length given))) (cond (eqb (length given) 0) (Some NoRows) (cond (all_keep given) None (Some OutsideLimits)))

module _ (given : List RowNumbers) where
  -- the other refusals: rows are made, and one fails
  record Failing (f : JudgeFault) : Type 0 where
    rows : List Row
    made : map numbers_of rows ≡ given
    few : length rows ≤ 32
    first : FailsFirst rows f

  in_range : 1 ≤ length given → length given ≤ 32 → early given ≡ cond (all_keep given) None (Some OutsideLimits)
  in_range some few =
      let nonzero : length given ≡ 0 → ⊥ = λ e. omega arith in
      rw (le-ltb 32 (length given) few, ne_eqb (length given) 0 nonzero)

  none_early : (rows : List Row) → map numbers_of rows ≡ given → 1 ≤ length given → length given ≤ 32 → early given ≡ None
  none_early rows made some few = in_range some few ∙ ap (λ k. cond k None (Some OutsideLimits)) (ap all_keep (sym made) ∙ rows_keep rows)

  failure : (i : ℕ) (f : JudgeFault) (Fails : List Row → Row → Type 0) →
      ((rows : List Row) (r : Row) → Fails (take i rows) (get_or rows i r) → FailsBy (take i rows) (get_or rows i r) i f) → FirstFailure given i Fails → Failing f
  failure i f Fails by p = record {
    rows = p.rows;
    made = p.made;
    few = p.few;
    first = record { place = i; within = p.within; before = p.before; fails = λ r. by p.rows r (p.fails r) };
  }

  cause : (f : JudgeFault) → Refused given f → (early given ≡ Some f) ⊎ Failing f
  cause (TooManyRows n) p = inl (rw (lt-ltb 32 (length given) p.0) (ap (λ k. Some (TooManyRows k)) (sym p.1)))
  cause NoRows p = let few : length given ≤ 32 = omega arith in inl (rw (le-ltb 32 (length given) few, eq-eqb (length given) 0 p))
  cause OutsideLimits p = inl (in_range p.0 p.1 ∙ ap (λ k. cond k None (Some OutsideLimits)) p.2)
  cause (normalBound i) p = inr (failure i (normalBound i) FailsNormal (λ rows r fails. (refl, fails)) p)
  cause (mixedBound i) p = inr (failure i (mixedBound i) FailsMixed (λ rows r fails. (refl, fails)) p)
  cause (longBound i) p = inr (failure i (longBound i) FailsLong (λ rows r fails. (refl, fails)) p)

  failing_early : (f : JudgeFault) → Failing f → early given ≡ None
  failing_early f p =
      let many = ap length p.made in
      let same = length-map p.rows numbers_of in
      let within = p.first.within in
      none_early p.rows p.made (omega (arith, p.few)) (omega (arith, p.few))

  failing_single : AtMostOne Failing
  failing_single f g p q =
      let same = same_rows p.rows q.rows (p.made ∙ sym q.made) in
      first_single q.rows f g (subst (λ rows. FailsFirst rows f) same p.first) q.first

  refused_single : AtMostOne (Refused given)
  refused_single f g p q =
      elim (cause f p) [
        | inl a ↦ elim (cause g q) [ inl b ↦ cc | inr b ↦ let none = failing_early g b in cc ]
        | inr a ↦ elim (cause g q) [ inl b ↦ let none = failing_early f a in cc | inr b ↦ failing_single f g a b ]
      ]

  apart : (p : Plan) (f : JudgeFault) → Filled given p → Refused given f → ⊥
  apart p f filled refused =
      elim (cause f refused) [
        | inl a ↦ let none = none_early (rows_of p) filled.made filled.some filled.few in let z : ◌≡◌ {A = ℕ} 0 1 = cc in omega arith
        | inr a ↦
            let same = same_rows a.rows (rows_of p) (a.made ∙ sym filled.made) in
            first-apart (rows_of p) (bounds_of p) f filled.accepted (subst (λ rows. FailsFirst rows f) same a.first)
      ]

pub determined : Determined
determined = record {
  normal = λ above C. least_single _;
  finish = λ above B s. least_single _;
  start = λ above. least_single _;
  mixed = mixed_single;
  long = long_single;
  passes = passes_single;
  accepted = accepted_single;
  filled = filled_single;
  refused = refused_single;
  apart = apart;
}
