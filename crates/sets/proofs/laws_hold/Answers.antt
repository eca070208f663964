use Rattle.sets.proofs.Laws.{laws}
use Rattle.sets.proofs.laws_hold.Goals as goal

pub returns : goal.returns
returns c = laws
