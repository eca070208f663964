-- A refusal leaves everything as it was; an accepted report gives one tick to the clock and to the job of its turn.
use Rattle.std.proofs.Common.{ap, subst, Ok}
use Rattle.judge.specs.Plan.{rows_of}
use Rattle.law.specs.declared.calls.Reply.TheVariants.{Done}
use Rattle.law.specs.declared.calls.Call.TheVariants.{Report}
use Rattle.law.specs.Rules.{Answers}
use Rattle.session.specs.View.{rows_in, view, Tied, Allowed}
use Rattle.session.proofs.Histories.{extended}
use Rattle.session.proofs.Reports.{worked_next}
use Rattle.session.proofs.session.Session.report_numbers.Goals as goal

pub returns : goal.returns
returns g c =
    let s = c.args.self.now in
    let free = g.P.Pool.free in
    let call = Report c.args.turn c.args.finished in
    let answer = Ok (Done c.work-outcome.result) in
    let done = c.work-outcome.ensures.worked in
    let rule : Allowed free s call answer
    = subst (Answers (rows_in s) s.number (view free s) call answer) c.in_ok-reportable.ensures (ap (λ o. Ok (Done o)) c.work-outcome.ensures.outcome) in
    let next = λ (tied : Tied g.B.Board.rows s). worked_next g.B.Board.rows free s _ c.args.turn c.args.finished _ done (c.mode_after-self.ensures (done.tied tied)) in
    record {
      rule = rule;
      next = next;
      history = extended g.B.Board.rows free s _ call answer (record { plan = ap (λ p. rows_of p.now) done.plan; number = done.number; tied = done.tied }) (λ _. rule) next;
    }
