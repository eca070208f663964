use Rattle.std.proofs.Common.{ap, ◌∙◌}
use Rattle.sets.specs.Sets.{empty}
use Rattle.sets.proofs.Digits.{digits-empty}
use Rattle.sets.proofs.bit_set.BitSet.empty.Goals as goal

pub returns : goal.returns
returns c = digits-empty c.min.result ∙ ap empty c.min.ensures
