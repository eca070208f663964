-- The turn that is opened is for the work that is due, and only the open turn changes.
use Rattle.std.proofs.Common.{refl, rules, Ok}
use Rattle.law.specs.declared.calls.Reply.TheVariants.{Turn}
use Rattle.law.specs.declared.calls.Call.TheVariants.{Begin}
use Rattle.session.specs.View.{Tied, Allowed}
use Rattle.session.proofs.Histories.{extended}
use Rattle.session.proofs.session.Session.begin.Goals as goal

pub returns : goal.returns
returns g c =
    let s = c.args.self.now in
    let rule : Tied g.B.Board.rows s → Allowed g.P.Pool.free s Begin (Ok (Turn (record { number = s.number; clock = s.clock; work = c.due.result }))) = search rules in
    record { rule = rule; next = refl; history = extended _ _ _ _ _ _ (record { plan = refl; number = refl; tied = λ t. t }) rule (λ _. refl) }
