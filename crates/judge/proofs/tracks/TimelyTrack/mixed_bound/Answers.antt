use Rattle.std.proofs.Common.{Some, None, arith, rules}
use Rattle.judge.specs.Bounds.{LateFinish}
use Rattle.judge.proofs.Greatests.{greatest-found}
use Rattle.judge.proofs.Lates.{mixed-found, mixed_missed}
use Rattle.judge.proofs.tracks.TimelyTrack.mixed_bound.Goals as goal

pub returns-in_err-late : goal.returns-in_err-late
returns-in_err-late c =
    let t = c.args.self.now in
    let above = t.above.rows.now in
    rw c.from_residual.ensures (mixed_missed above t.track.short t.normal t.track.deadline t.bound
    (greatest-found t.track.deadline (LateFinish above t.track.short) (λ s o below p. search rules) None c.in_err-late.ensures))

pub returns : goal.returns
returns c =
    let t = c.args.self.now in
    let above = t.above.rows.now in
    let late = greatest-found t.track.deadline (LateFinish above t.track.short) (λ s o below p. search rules) (Some c.in_ok-late.late) c.in_ok-late.ensures in
    rw c.max.ensures (mixed-found above t.track.short t.normal c.in_ok-late.late t.bound late.0, omega (arith, late.1, t.timely))
