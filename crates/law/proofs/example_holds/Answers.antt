use Rattle.law.proofs.Example.{example}
use Rattle.law.proofs.example_holds.Goals as goal

pub returns : goal.returns
returns c = example
