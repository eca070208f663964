use Rattle.std.proofs.Common.{◌≡◌, ◌-◌, ◌<◌, true}
use Rattle.sets.specs.Sets.{member}
use Rattle.sets.specs.Chains.{on_chain}
use Rattle.board.proofs.chain.ChainBoard.last_below.Given as goal

abbrev pub invariant-loop-place : goal.invariant-loop-place
invariant-loop-place l = (member (on_chain l.self.links) l.place ≡ true) × (l.place < l.row)

abbrev pub decreases-loop-place : goal.decreases-loop-place
decreases-loop-place l = l.row - l.place
