use Rattle.std.proofs.Common.{rules}
use Rattle.writer.specs.Writers.{row_item, Wrote}
use Rattle.writer.proofs.Keeping.{holds_more, row_kept}
use Rattle.writer.proofs.writer.Writer.put.Goals as goal

pub returns-clause-holds : goal.returns-clause-holds
returns-clause-holds c =
    let item = row_item c.args.row.now in
    let wrote : Wrote c.args.self.now c.write.new.self item c.write.result = search rules in
    λ items h. holds_more c.args.self.now c.write.new.self item items (row_kept c.args.row.now) tt h c.write.result wrote
