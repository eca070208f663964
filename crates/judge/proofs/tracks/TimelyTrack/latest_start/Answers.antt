use Rattle.std.proofs.Common.{◌-◌, le_refl, arith}
use Rattle.judge.proofs.Demands.{start_room}
use Rattle.judge.proofs.Leasts.{start-found}
use Rattle.judge.proofs.tracks.TimelyTrack.latest_start.Goals as goal

-- the normal bound less the short budget has room for a start
pub unreachable-requires : goal.unreachable-requires
unreachable-requires c =
    let t = c.args.self.now in
    let room = start_room t.above.rows.now t.track.short t.normal (omega arith) t.bound.holds.1 in
    c.in-None.ensures (t.normal - t.track.short) (le_refl _) room

pub returns-clause-start : goal.returns-clause-start
returns-clause-start c = start-found c.args.self.now.above.rows.now c.in-Some.start c.in-Some.ensures.0
