-- The late bounds of a track from the greatest of its late finishes, found or missed up to its deadline. Assumes nothing.
use Rattle.std.proofs.Common.{ℕ, max, List, Some, None, Option, refl, subst, arith}
use Rattle.row.specs.declared.rows.Row.{Row}
use Rattle.judge.specs.Bounds.{NoneUpTo, FoundUpTo, Greatest, NormalBound, LateFinish, LatestStart, MixedBound, LongBound}
use Rattle.judge.specs.Instants.{FinishFrom}
use Rattle.judge.proofs.Uniques.{least_single}

module _ (above : List Row) where
  pub mixed-found : (C R m : ℕ) → NormalBound above C R → Greatest R (LateFinish above C) m → MixedBound above C (max R m)
  mixed-found C R m bound g = record { normal = R; is_normal = bound; late = m; is_late = g; greater = refl }

  pub mixed_missed : (C R D : ℕ) → NormalBound above C R → NoneUpTo D (Greatest R (LateFinish above C)) → NoneUpTo D (MixedBound above C)
  mixed_missed C R D bound none m h mixed =
      let same = least_single _ mixed.normal R mixed.is_normal bound in
      none mixed.late (omega (arith, mixed.greater)) (subst (λ n. Greatest n (LateFinish above C) mixed.late) same mixed.is_late)

  pub long_judged : (L S D : ℕ) → LatestStart above S → (o : Option ℕ) → FoundUpTo D (Greatest (max 1 S) (FinishFrom above L)) o → FoundUpTo D (LongBound above L) o
  long_judged L S D start None none = λ m h long.
      let same = least_single _ long.start S long.is_start start in
      none m h (subst (λ n. Greatest (max 1 n) (FinishFrom above L) m) same long.greatest)
  long_judged L S D start (Some m) p = (record { start = S; is_start = start; greatest = p.0 }, p.1)
