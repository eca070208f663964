use Rattle.std.proofs.Common.{ltb, sym, ap, ◌∙◌}
use Rattle.std.specs.Bool.{then_some}
use Rattle.sets.specs.Chains.{on_chain}
use Rattle.sets.proofs.Members.{smallest_least}
use Rattle.board.proofs.Order.{first_follows}
use Rattle.board.proofs.Changes.{in_chain, length-rows}
use Rattle.board.proofs.chain.ChainBoardBoard.first.Goals as goal

pub returns : goal.returns
returns c =
    let board = c.args.self.now in
    let rows = on_chain board.links in
    let found = c.then_some.ensures ∙ ap (λ n. then_some (ltb board.head n) board.head) (sym (length-rows board)) ∙ first_follows rows board.head (in_chain board).first in
    record { answer = found; least = smallest_least rows _ (sym found) }
