use Rattle.std.proofs.Common.{refl}
use borrow.Author.Tests.{both_ways}
use Rattle.sets.specs.Sets.{empty}
use Rattle.sets.proofs.Members.{member-empty}
use Rattle.board.proofs.chain.ChainBoard.new.Goals as goal

pub invariant_of-result : goal.invariant_of-result
unfolding empty
invariant_of-result c = record { many = refl; begins = refl; on = λ row e. absurd (both_ways _ (member-empty 32 row) e) }

pub returns : goal.returns
unfolding empty
returns c = refl
