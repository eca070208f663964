-- What any pool with these free blocks may answer to a call, and its free blocks after the call. Assumes nothing.
use Rattle.std.specs.Prelude.{◌≡◌, Bool, List, length, nat_lt}
use Rattle.sets.specs.Sets.{member, joins, joined, without, size, IsMember}
use Rattle.boards_and_pools.specs.declared.answers.Answer.{Answer}
use Rattle.boards_and_pools.specs.declared.answers.Answer.TheVariants.{Done, Said, Found, Count}
use Rattle.boards_and_pools.specs.declared.pools.PoolCall.{PoolCall}
use Rattle.boards_and_pools.specs.declared.pools.PoolCall.TheVariants.{Take, TakeAndReturn, Give, Blocks, FreeCount, IsFree}

-- a take gives a free block, or none where no block is free; which one is left open
abbrev pub Takes : List Bool → Answer → Type 0
Takes free Done = ⊥
Takes free (Said b) = ⊥
Takes free (Found block) = IsMember free block
Takes free (Count n) = ⊥

abbrev pub PoolSays : List Bool → PoolCall → Answer → Type 0
PoolSays free Take r = Takes free r
PoolSays free TakeAndReturn r = r ≡ Said (nat_lt 0 (size free))
PoolSays free (Give block) r = r ≡ Said (joins free block)
PoolSays free Blocks r = r ≡ Count (length free)
PoolSays free FreeCount r = r ≡ Count (size free)
PoolSays free (IsFree block) r = r ≡ Said (member free block)

abbrev pub without_taken : List Bool → Answer → List Bool
without_taken free Done = free
without_taken free (Said b) = free
without_taken free (Found block) = without free block
without_taken free (Count n) = free

abbrev pub pool_after : List Bool → PoolCall → Answer → List Bool
pool_after free Take r = without_taken free r
pool_after free TakeAndReturn r = free
pool_after free (Give block) r = joined free block
pool_after free Blocks r = free
pool_after free FreeCount r = free
pool_after free (IsFree block) r = free

-- a pool with these free blocks may answer so to a call, and has those free blocks after it
pub record PoolAnswers (free : List Bool) (call : PoolCall) (said : Answer) (free' : List Bool) : Type 0 where
  pub answer : PoolSays free call said
  pub after : free' ≡ pool_after free call said
