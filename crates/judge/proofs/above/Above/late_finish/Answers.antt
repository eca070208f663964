use Rattle.std.proofs.Common.{arith}
use Rattle.judge.specs.Demand.{late_share}
use Rattle.judge.proofs.Leasts.{found}
use Rattle.judge.proofs.above.Above.late_finish.Goals as goal

pub returns : goal.returns
returns c = found (late_share c.args.instant) c.args.self.now.rows.now c.args.budget c.args.limit (omega arith) c.least.result c.least.ensures
