use Rattle.std.proofs.Common.{ℕ, ◌+◌, ◌-◌, ◌<◌}
use Rattle.judge.specs.Bounds.{HasRoom}
use Rattle.judge.proofs.above.Above.least.Given as goal

-- no smaller window has room
abbrev pub invariant-loop-window : goal.invariant-loop-window
invariant-loop-window g l = (u : ℕ) → u < l.window → HasRoom (g.S.Share.taken l.share) l.self.rows.now l.own u → ⊥

abbrev pub decreases-loop-window : goal.decreases-loop-window
decreases-loop-window g l = l.limit + 1 - l.window
