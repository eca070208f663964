use Rattle.writer.proofs.Keeping.{holds_none}
use Rattle.writer.proofs.writer.Writer.new.Goals as goal

pub returns-clause-holds : goal.returns-clause-holds
returns-clause-holds c = holds_none _ c.start.ensures
