use Rattle.std.proofs.Common.{Some}
use Rattle.judge.proofs.Greatests.{SoFar}
use Rattle.judge.proofs.greatest.greatest.Given as goal

-- the greatest of the values so far
abbrev pub invariant-loop-instant : goal.invariant-loop-instant
invariant-loop-instant g l = SoFar l.instant (λ s v. goal.F-post g l.value s (Some v)) l.greatest
