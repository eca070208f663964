use Rattle.std.proofs.Common.{arith}
use Rattle.row.proofs.Limits.{limits}
use Rattle.judge.specs.Demand.{normal_share}
use Rattle.judge.proofs.Leasts.{found}
use Rattle.judge.proofs.above.Above.normal_bound.Goals as goal

pub returns : goal.returns
returns c =
    let l = limits c.args.row.now in
    rw (← c.short.ensures, ← c.deadline.ensures) (found normal_share c.args.self.now.rows.now c.short.result c.deadline.result (omega arith) c.least.result c.least.ensures)
