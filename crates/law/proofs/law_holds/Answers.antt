use Rattle.law.proofs.Law.{the_law}
use Rattle.law.proofs.law_holds.Goals as goal

pub returns : goal.returns
returns c = the_law
