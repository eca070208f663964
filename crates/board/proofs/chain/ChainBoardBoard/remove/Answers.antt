use Rattle.std.proofs.Common.{sym, arith}
use Rattle.board.proofs.Changes.{row_within, head_least}
use Rattle.board.proofs.chain.ChainBoardBoard.remove.Goals as goal

pub last_below-place-requires : goal.last_below-place-requires
last_below-place-requires c =
    let board = c.args.self.now in
    let present = sym c.if-not-holds.ensures in
    record { head_lt_row = omega (arith, head_least board c.args.row present); row_bound = row_within board c.args.row present }
