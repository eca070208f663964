-- After i lines, the first i answers of the log are the history of the session since it was opened, and the others are as they were.
use Rattle.std.proofs.Common.{◌≡◌, ◌+◌, ◌≤◌, length, drop}
use Rattle.session.proofs.Replays.{Made}
use Rattle.session.proofs.replaying.replay.Given as goal

abbrev pub invariant-loop-i : goal.invariant-loop-i
invariant-loop-i g l =
    let i = l.i-iterator.count in
    record {
      left : l.i-iterator.iter.iter.rest.now ≡ drop i l.lines;
      room : i + l.i-iterator.iter.n ≡ length l.log;
      reached : i ≤ length l.lines;
      made : Made g.B.Board.rows g.P.Pool.free g.L.Line.makes g.L.Line.past l.lines l.initial.session l.initial.log l.log i l.session;
    }
