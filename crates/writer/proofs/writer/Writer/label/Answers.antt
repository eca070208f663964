use Rattle.std.proofs.Common.{refl, rules}
use Rattle.format.specs.Writing.{label_item}
use Rattle.writer.specs.Writers.{place_of, Wrote}
use Rattle.writer.proofs.Keeping.{holds_more}
use Rattle.writer.proofs.writer.Writer.label.Goals as goal

pub returns-clause-holds : goal.returns-clause-holds
returns-clause-holds c =
    let item = label_item (place_of c.args.self.now) c.args.bytes.now in
    let wrote : Wrote c.args.self.now c.write.new.self item c.write.result = search rules in
    λ items h. holds_more c.args.self.now c.write.new.self item items tt refl h c.write.result wrote
