use Rattle.board.proofs.Changes.{linked_after}
use Rattle.board.proofs.chain.ChainBoard.link_after.Goals as goal

pub invariant_of-self : goal.invariant_of-self
invariant_of-self c =
    let chain = linked_after c.args.self.now c.args.place c.args.row c.requires.last c.requires.absent c.requires.within in
    record { many = chain.many; begins = chain.begins; on = chain.on }

pub returns : goal.returns
returns c = (linked_after c.args.self.now c.args.place c.args.row c.requires.last c.requires.absent c.requires.within).rows_are
