-- Bounds of small line-ups by tests that compute. Assumes nothing.
use Rattle.std.proofs.Common.{◌≡◌, ℕ, ◌+◌, ◌-◌, ◌<◌, ◌≤◌, max, Bool, true, false, not, ◌&&◌, leb, List, map, length, get_or, take, Some, None, Option, sym, refl, subst, arith}
use Rattle.std.proofs.lemmas.List.{get_or_default}
use Rattle.std.proofs.lemmas.Bool.{and_parts, both_ways, not-true, leb-true, true≢false}
use Rattle.row.specs.Rows.{numbers_of, deadline_of, short_of, long_of}
use Rattle.row.specs.declared.rows.Row.{Row}
use Rattle.row.specs.declared.rows.Row.TheVariants.{Track, Helper}
use Rattle.judge.specs.Accepted.{LatePasses, Passes, Accepted, FailsNormal, LongInTime}
use Rattle.judge.specs.Bounds.{NormalBound, LateFinish, MixedBound, LongBound}
use Rattle.judge.specs.Judged.{FirstFailure}
use Rattle.judge.specs.Demand.{normal_demand, late_demand, start_demand}
use Rattle.judge.specs.declared.bounds.Bounds.{Bounds}
use Rattle.judge.specs.declared.bounds.LateBounds.{LateBounds}
use Rattle.judge.proofs.Accepting.{PassTo}
use Rattle.judge.proofs.Uniques.{long_single}
use Rattle.law.specs.State.{least_row}
use Rattle.cases.proofs.Searches.{all_below, all_below_lem, is_least, first_from, room_from, room_tested, least_room, is_greatest, greatest}

-- the searches below look at so many ticks, which is enough for the examples
abbrev ticks : ℕ
ticks = 100

module _ (above : List Row) where
  abbrev is_normal : ℕ → ℕ → Bool
  is_normal C R = is_least (room_from 1 (normal_demand above C)) R

  -- the late finish at first budget B and instant s, and whether it is right at every instant below n
  abbrev finish : ℕ → ℕ → ℕ
  finish B s = first_from ticks (room_from 1 (late_demand above B s)) 1

  abbrev are_finishes : ℕ → ℕ → Bool
  are_finishes B n = all_below (λ s. is_least (room_from 1 (late_demand above B s)) (finish B s)) n

  finishes : (B n : ℕ) → are_finishes B n ≡ true → (s : ℕ) → s < n → LateFinish above B s (finish B s)
  finishes B n e s l = least_room 1 (late_demand above B s) (finish B s) (all_below_lem (λ s. is_least (room_from 1 (late_demand above B s)) (finish B s)) n e s l)

  abbrev start : ℕ
  start = first_from ticks (room_from 0 (start_demand above)) 0

  pub normal-bound : (C R : ℕ) → is_normal C R ≡ true → NormalBound above C R
  normal-bound C R e = least_room 1 (normal_demand above C) R e

  -- the mixed bound, where a late finish attains it
  abbrev is_mixed : ℕ → ℕ → ℕ → Bool
  is_mixed C R m = is_normal C R && (are_finishes C R && (is_greatest R (finish C) m && leb R m))

  pub mixed-bound : (C R m : ℕ) → is_mixed C R m ≡ true → MixedBound above C m
  mixed-bound C R m e =
      let p = and_parts (is_normal C R) _ e in
      let q = and_parts (are_finishes C R) _ p.1 in
      let r = and_parts (is_greatest R (finish C) m) (leb R m) q.1 in
      let le = leb-true R m r.1 in
      record {
        normal = R;
        is_normal = normal-bound C R p.0;
        late = m;
        is_late = greatest (LateFinish above C) R (finish C) m (finishes C R q.0) r.0;
        greater = omega arith;
      }

  abbrev is_long : ℕ → ℕ → Bool
  is_long L m = is_least (room_from 0 (start_demand above)) start && (are_finishes L (max 1 start) && is_greatest (max 1 start) (λ s. finish L s - s) m)

  pub long-bound : (L m : ℕ) → is_long L m ≡ true → LongBound above L m
  long-bound L m e =
      let p = and_parts (is_least (room_from 0 (start_demand above)) start) _ e in
      let q = and_parts (are_finishes L (max 1 start)) _ p.1 in
      let least = least_room 0 (start_demand above) start p.0 in
      record {
        start = start;
        is_start = record { holds = least.holds.1; first = λ u l fits. least.first u l (omega arith, fits) };
        greatest = greatest (λ s v. (F : ℕ) × LateFinish above L s F × (v ≡ F - s)) (max 1 start) (λ s. finish L s - s) m
            (λ s l. (finish L s, finishes L (max 1 start) q.0 s l, refl)) q.1;
      }

  -- whether row r passes with the bounds b
  abbrev late_passes : Row → ℕ → Option LateBounds → Bool
  late_passes (Track t) R (Some b) =
      (is_mixed t.short R b.mixed && leb b.mixed t.deadline) && (is_long t.long b.long && leb b.long t.deadline)
  late_passes (Track t) R None = false
  late_passes (Helper h) R (Some b) = false
  late_passes (Helper h) R None = true

  late-passes : (r : Row) (R : ℕ) (late : Option LateBounds) → late_passes r R late ≡ true → LatePasses above r late
  late-passes (Track t) R (Some b) e =
      let p = and_parts (is_mixed t.short R b.mixed && leb b.mixed t.deadline) _ e in
      let mixed = and_parts (is_mixed t.short R b.mixed) _ p.0 in
      let long = and_parts (is_long t.long b.long) _ p.1 in
      (mixed-bound t.short R b.mixed mixed.0, leb-true b.mixed t.deadline mixed.1, long-bound t.long b.long long.0, leb-true b.long t.deadline long.1)
  late-passes (Track t) R None e = absurd (true≢false (sym e))
  late-passes (Helper h) R (Some b) e = absurd (true≢false (sym e))
  late-passes (Helper h) R None e = tt

  abbrev pub passes : Row → Bounds → Bool
  passes r b = is_normal (short_of r) b.normal && (leb b.normal (deadline_of r) && late_passes r b.normal b.late)

  pub does_pass : (r : Row) (b : Bounds) → passes r b ≡ true → Passes above r b
  does_pass r b e =
      let p = and_parts (is_normal (short_of r) b.normal) _ e in
      let q = and_parts (leb b.normal (deadline_of r)) _ p.1 in
      record {
        normal = normal-bound (short_of r) b.normal p.0;
        in_time = leb-true b.normal (deadline_of r) q.0;
        late = late-passes r b.normal b.late q.1;
      }

  -- a row fails where no window up to its deadline has room
  pub fails-normal : (r : Row) → all_below (λ t. not (room_from 1 (normal_demand above (short_of r)) t)) (deadline_of r + 1) ≡ true → FailsNormal above r
  fails-normal r e (R, bound, le) =
      let demand : ℕ → ℕ = normal_demand above (short_of r) in
      both_ways (room_from 1 demand R) (not-true (room_from 1 demand R) (all_below_lem (λ t. not (room_from 1 demand t)) (deadline_of r + 1) e R (omega arith)))
      (room_tested 1 demand R bound.holds)

  -- and where its long bound passes its deadline
  pub fails-long : (r : Row) (m : ℕ) → is_long (long_of r) m ≡ true → deadline_of r < m → LongInTime above r → ⊥
  fails-long r m e over (n, bound, le) =
      let same = long_single above (long_of r) m n (long-bound (long_of r) m e) bound in
      omega arith

module _ (rows : List Row) (bounds : List Bounds) where
  -- whether the first n rows pass with these bounds
  abbrev pub pass_to : ℕ → Bool
  pass_to n = all_below (λ i. passes (take i rows) (get_or rows i least_row) (get_or bounds i (record { normal = 0; late = None }))) n

  pub pass_to_lem : (n : ℕ) → n ≤ length rows → n ≤ length bounds → pass_to n ≡ true → PassTo n rows bounds
  pass_to_lem n within inside e j l r b =
      let none : Bounds = record { normal = 0; late = None } in
      subst (λ x. Passes (take j rows) x (get_or bounds j b)) (get_or_default rows j least_row r (omega arith))
      (subst (λ x. Passes (take j rows) (get_or rows j least_row) x) (get_or_default bounds j none b (omega arith))
      (does_pass (take j rows) (get_or rows j least_row) (get_or bounds j none)
      (all_below_lem (λ i. passes (take i rows) (get_or rows i least_row) (get_or bounds i none)) n e j l)))

  -- all rows pass
  pub accepted : length bounds ≡ length rows → pass_to (length rows) ≡ true → Accepted rows bounds
  accepted many e = record { many = many; each = pass_to_lem (length rows) (omega arith) (omega arith) e }

  -- the numbers of the rows are refused if all rows before row i pass and row i fails
  pub first_failure : (i : ℕ) (Fails : List Row → Row → Type 0) → length rows ≤ 32 → i < length rows → i ≤ length bounds → pass_to i ≡ true
      → ((r : Row) → Fails (take i rows) (get_or rows i r)) → FirstFailure (map numbers_of rows) i Fails
  first_failure i Fails few within inside e fails = record {
    rows = rows;
    made = refl;
    few = few;
    within = within;
    before = λ j l r. (_, pass_to_lem i (omega arith) inside e j l r (record { normal = 0; late = None }));
    fails = fails;
  }
