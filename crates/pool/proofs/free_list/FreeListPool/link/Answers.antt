use Rattle.std.proofs.Common.{refl, arith}
use Rattle.pool.proofs.Lists.{count-within, given}
use Rattle.pool.proofs.free_list.FreeListPool.link.Goals as goal

pub overflow_add-self : goal.overflow_add-self
overflow_add-self c = omega (arith, count-within c.args.self.now)

pub invariant_of-self : goal.invariant_of-self
invariant_of-self c =
    let pool = c.args.self.now in
    let list = given pool c.args.block c.requires.within c.requires.taken in
    record { number = pool.number; many = list.many; counted = list.counted; visited = list.visited }

pub returns : goal.returns
returns c = record { same = refl; after = (given c.args.self.now c.args.block c.requires.within c.requires.taken).free_are }
