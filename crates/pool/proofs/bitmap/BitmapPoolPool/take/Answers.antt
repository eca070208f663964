use Rattle.std.proofs.Common.{sym}
use Rattle.sets.proofs.Members.{smallest-member}
use Rattle.pool.proofs.bitmap.BitmapPoolPool.take.Goals as goal

pub returns-clause-answer : goal.returns-clause-answer
returns-clause-answer c = smallest-member c.args.self.now.free _ (sym c.pop_first.ensures.answer)
