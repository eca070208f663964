use Rattle.board.proofs.Changes.{unlinked_first}
use Rattle.board.proofs.chain.ChainBoard.unlink_first.Goals as goal

pub invariant_of-self : goal.invariant_of-self
invariant_of-self c = let chain = unlinked_first c.args.self.now c.requires in record { many = chain.many; begins = chain.begins; on = chain.on }

pub returns : goal.returns
returns c = (unlinked_first c.args.self.now c.requires).rows_are
