use Rattle.cases.proofs.Examples.{worked_examples}
use Rattle.cases.proofs.worked_examples_hold.Goals as goal

pub returns : goal.returns
returns c = worked_examples
