use Rattle.std.proofs.Common.{arith}
use Rattle.row.specs.declared.rows.Row.TheVariants.{Track}
use Rattle.judge.specs.Shares.{late_small}
use Rattle.judge.proofs.share.LateShare.of.Goals as goal

-- the share of a track is small
pub overflow_add-result : goal.overflow_add-result
overflow_add-result c =
    let d = c.args.self.now in
    let small = late_small d.instant d.early (Track c.in-Track.track) c.args.window in
    rw (c.rounded_up-jobs.ensures, c.rounded_up-late_jobs.ensures, c.saturating_sub.ensures) (omega arith)
