use Rattle.session.proofs.Replays.{replayed_carried}
use Rattle.simulate.proofs.reading.steps_replayed.Goals as goal

pub returns : goal.returns
returns c = replayed_carried (λ line. line.step) _
