-- With the board tied to the jobs, it is empty exactly when no job of the plan is unended.
use Rattle.session.proofs.Reports.{quiet, not_quiet}
use Rattle.session.proofs.session.Session.mode_after.Goals as goal

pub returns-in-None : goal.returns-in-None
returns-in-None g c tied = rw (quiet g.B.Board.rows c.args.self.now tied c.in-None.ensures.least)

pub returns-in-Some : goal.returns-in-Some
returns-in-Some g c tied = rw (not_quiet g.B.Board.rows c.args.self.now _ tied c.in-Some.ensures.least.0)
