use Rattle.std.proofs.Common.{arith}
use Rattle.judge.proofs.Demands.{none_below_demand}
use Rattle.judge.proofs.above.Above.least.Goals as goal

pub loop-window-preserved : goal.loop-window-preserved
loop-window-preserved g c =
    let share = c.args.share.now in
    λ u h. none_below_demand (g.S.Share.taken share) (g.met.S.Share.rises share) c.args.self.now.rows.now c.args.own
    c.loop-window.window c.loop-window.invariant u (omega arith)
