use Rattle.std.proofs.Common.{arith}
use Rattle.judge.proofs.tracks.TimelyTrack.long_finish.Goals as goal

pub returns-in_err-finish : goal.returns-in_err-finish
returns-in_err-finish c =
    rw c.from_residual.ensures (λ t h finish. c.in_err-finish.ensures finish.0 (omega (arith, finish.2)) finish.1)
