use Rattle.std.proofs.Common.{◌≡◌}
use Rattle.pool.specs.Visits.{free_in}
use Rattle.pool.proofs.Lists.{first_of}
use Rattle.pool.proofs.free_list.FreeListPool.link_all.Given as goal

abbrev pub invariant-loop-block : goal.invariant-loop-block
invariant-loop-block l = (l.self.blocks ≡ l.initial.self.blocks) × (free_in l.self.blocks l.self.links ≡ first_of l.self.blocks l.block)
