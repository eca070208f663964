use Rattle.board.proofs.Changes.{unlinked_after}
use Rattle.board.proofs.chain.ChainBoard.unlink_after.Goals as goal

pub invariant_of-self : goal.invariant_of-self
invariant_of-self c =
    let chain = unlinked_after c.args.self.now c.args.place c.args.row c.requires.last c.requires.present in
    record { many = chain.many; begins = chain.begins; on = chain.on }

pub returns : goal.returns
returns c = (unlinked_after c.args.self.now c.args.place c.args.row c.requires.last c.requires.present).rows_are
