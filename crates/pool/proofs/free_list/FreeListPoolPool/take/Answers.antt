use Rattle.std.proofs.Common.{refl}
use Rattle.pool.proofs.Lists.{end_empty, head_free, taken}
use Rattle.pool.proofs.free_list.FreeListPoolPool.take.Goals as goal

pub returns-then-self-eq-END : goal.returns-then-self-eq-END
returns-then-self-eq-END c = record { answer = end_empty c.args.self.now c.if-self-eq-END.true; after = refl }

pub invariant_of-self : goal.invariant_of-self
invariant_of-self c =
    let pool = c.args.self.now in
    let list = taken pool c.if-self-eq-END.false in
    record { number = pool.number; many = list.many; counted = list.counted; visited = list.visited }

pub returns : goal.returns
returns c =
    let pool = c.args.self.now in
    record { answer = head_free pool c.if-self-eq-END.false; after = (taken pool c.if-self-eq-END.false).free_are }
