use Rattle.std.proofs.Common.{length, min, ap, ◌∙◌, arith}
use Rattle.sets.proofs.Members.{length-full}
use Rattle.pool.proofs.bitmap.BitmapPool.new.Goals as goal

pub invariant_of-result : goal.invariant_of-result
invariant_of-result c =
    let many = ap length c.full.ensures ∙ length-full (min c.blocks_for.result 64) in
    record { number = (omega arith, omega arith) }
