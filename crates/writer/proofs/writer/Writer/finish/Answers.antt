use Rattle.std.proofs.Common.{Ok, rules}
use Rattle.writer.specs.Writers.{Finished}
use Rattle.writer.proofs.Keeping.{finish-holds, finish_back}
use Rattle.writer.proofs.writer.Writer.finish.Goals as goal

pub returns-clause-holds : goal.returns-clause-holds
returns-clause-holds c =
    let before = c.args.self.now in
    let after = c.write.new.self in
    let wrote : Finished before after (Ok after.place.at) = search rules in
    λ items h. finish-holds before after items h (Ok after.place.at) wrote

pub returns-clause-back : goal.returns-clause-back
returns-clause-back c =
    let before = c.args.self.now in
    let after = c.write.new.self in
    let wrote : Finished before after (Ok after.place.at) = search rules in
    λ items h. finish_back before after items h (Ok after.place.at) wrote
