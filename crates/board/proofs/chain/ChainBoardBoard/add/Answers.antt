use Rattle.std.proofs.Common.{sym, arith}
use Rattle.sets.specs.Chains.{on_chain}
use Rattle.sets.proofs.Members.{join_absent, join_past, join_present}
use Rattle.board.proofs.Changes.{length-rows, head_below}
use Rattle.board.proofs.chain.ChainBoardBoard.add.Goals as goal
use Rattle.board.proofs.chain.ChainBoardBoard.add.Goals.{then-row-ge-ROWS-via-then-row-ge-ROWS, then-row-ge-ROWS-via-else-row-ge-ROWS+then-holds}

pub returns-then-row-ge-ROWS : goal.returns-then-row-ge-ROWS
returns-then-row-ge-ROWS c =
    let board = c.args.self.now in
    let rows = on_chain board.links in
    elim c.then-row-ge-ROWS.branch [
      | then-row-ge-ROWS-via-then-row-ge-ROWS w ↦ join_past rows c.args.row (omega (arith, length-rows board))
      | then-row-ge-ROWS-via-else-row-ge-ROWS+then-holds w ↦ join_present rows c.args.row (sym w.if-holds.ensures)
    ]

pub last_below-place-requires : goal.last_below-place-requires
last_below-place-requires c =
    let within = c.if-row-ge-ROWS.false in
    record { head_lt_row = head_below c.args.self.now c.args.row (sym c.if-holds.ensures) within c.if-row-self.false; row_bound = within }

pub returns-then-row-self : goal.returns-then-row-self
returns-then-row-self c =
    let board = c.args.self.now in
    join_absent (on_chain board.links) _ c.args.row (omega (arith, length-rows board)) (sym c.if-holds.ensures) c.link_first.ensures

pub returns-else-row-self : goal.returns-else-row-self
returns-else-row-self c =
    let board = c.args.self.now in
    join_absent (on_chain board.links) _ c.args.row (omega (arith, length-rows board)) (sym c.if-holds.ensures) c.link_after.ensures
