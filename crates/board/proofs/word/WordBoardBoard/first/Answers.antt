use Rattle.std.proofs.Common.{sym}
use Rattle.sets.proofs.Members.{smallest_least}
use Rattle.board.proofs.word.WordBoardBoard.first.Goals as goal

pub returns-clause-least : goal.returns-clause-least
returns-clause-least c = smallest_least c.args.self.now.rows _ (sym c.first.ensures)
