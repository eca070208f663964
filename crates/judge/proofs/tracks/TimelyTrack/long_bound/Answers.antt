use Rattle.std.proofs.Common.{◌≡◌, max, rules}
use Rattle.judge.specs.Instants.{FinishFrom}
use Rattle.judge.proofs.Greatests.{greatest-found}
use Rattle.judge.proofs.Lates.{long_judged}
use Rattle.judge.proofs.tracks.TimelyTrack.long_bound.Goals as goal

pub returns : goal.returns
returns c =
    let t = c.args.self.now in
    let above = t.above.rows.now in
    let instants : c.max-instants.result ≡ max 1 c.latest_start.result = search rules in
    long_judged above t.track.long c.latest_start.result t.track.deadline c.latest_start.ensures.start c.greatest.result
    (greatest-found t.track.deadline (FinishFrom above t.track.long) (λ s o below p. search rules) c.greatest.result (rw instants at c.greatest.ensures))
