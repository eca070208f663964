use Rattle.std.proofs.Common.{arith}
use Rattle.board.proofs.Changes.{head_within, linked_first}
use Rattle.board.proofs.chain.ChainBoard.link_first.Goals as goal

pub bounds-self-row : goal.bounds-self-row
bounds-self-row c = omega (arith, head_within c.args.self.now)

pub invariant_of-self : goal.invariant_of-self
invariant_of-self c = let chain = linked_first c.args.self.now c.args.row c.requires in record { many = chain.many; begins = chain.begins; on = chain.on }

pub returns : goal.returns
returns c = (linked_first c.args.self.now c.args.row c.requires).rows_are
