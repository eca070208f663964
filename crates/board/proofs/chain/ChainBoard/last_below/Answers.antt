use Rattle.std.proofs.Common.{arith}
use Rattle.board.proofs.Changes.{head_on, link_on}
use Rattle.board.proofs.chain.ChainBoard.last_below.Goals as goal

pub loop-place-init : goal.loop-place-init
loop-place-init c = (head_on c.args.self.now (omega arith), c.requires.head_lt_row)

pub loop-place-preserved : goal.loop-place-preserved
loop-place-preserved c = (link_on c.args.self.now c.loop-place.place c.loop-place.invariant.0 (omega arith), omega arith)
