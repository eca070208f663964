use Rattle.std.proofs.Common.{sym, refl, ap, ◌∙◌}
use Rattle.sets.specs.Sets.{size}
use Rattle.sets.proofs.Members.{size-empty}
use Rattle.pool.proofs.Lists.{free_none}
use Rattle.pool.proofs.free_list.FreeListPool.all_taken.Goals as goal

pub invariant_of-result : goal.invariant_of-result
invariant_of-result c = record {
  number = c.requires;
  many = refl;
  counted = sym (ap size (free_none c.args.blocks c.requires.1) ∙ size-empty c.args.blocks);
  visited = refl;
}

pub returns : goal.returns
returns c = record { same = refl; none = free_none c.args.blocks c.requires.1 }
