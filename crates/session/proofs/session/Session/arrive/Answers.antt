-- Two refusals leave the state as it was; an admitted arrival makes of it what the law says.
use Rattle.std.proofs.Common.{◌≡◌, refl, ap, ◌∙◌, subst, Ok, Err, Some, None}
use Rattle.std.specs.Option.{ok_or}
use Rattle.row.specs.declared.faults.Refusal.TheVariants.{NoFreeBlock}
use Rattle.sets.specs.Sets.{IsMember, without}
use Rattle.law.specs.declared.calls.Reply.TheVariants.{Block}
use Rattle.law.specs.declared.calls.Call.TheVariants.{Arrive}
use Rattle.judge.specs.Plan.{rows_of}
use Rattle.law.proofs.Represents.{same_state}
use Rattle.session.specs.Answers.{admitted}
use Rattle.session.specs.Faults.{fault_in}
use Rattle.session.specs.View.{view}
use Rattle.session.specs.declared.faults.SessionFault.{SessionFault}
use Rattle.session.proofs.Admissions.{no_block, not_wanting, admitted_next, admitted-tied}
use Rattle.session.proofs.Histories.{goes_up, said_up, said_refused, said_accepted}
use Rattle.session.proofs.session.Session.arrive.Goals as goal

pub returns-in_err-asked : goal.returns-in_err-asked
returns-in_err-asked g c =
    let said = said_up Block g.B.Board.rows g.P.Pool.free c.args.self.now (Arrive c.args.row c.args.kind) c.from_residual.result _ c.from_residual.ensures.1 c.in_err-asked.ensures in
    record { rule = said.rule; next = said.next; history = said.history }

pub returns-in_err-block : goal.returns-in_err-block
returns-in_err-block g c =
    let s = c.args.self.now in
    let fault : SessionFault = record { refusal = NoFreeBlock; place = c.args.row } in
    let none : c.take.result ≡ None = c.in_err-block.ensures.ok_part in
    let up : admitted c.from_residual-in_err-block.result ≡ Err (fault_in fault)
    = goes_up Block _ _ c.from_residual-in_err-block.ensures.1 ∙ ap admitted (c.in_err-block.ensures.value ∙ ap (λ o. ok_or o fault) none) in
    let said = said_refused g.B.Board.rows g.P.Pool.free s _ (Arrive c.args.row c.args.kind) _ _ up
    (c.in_ok-asked.ensures.2 ∙ no_block (view g.P.Pool.free s) c.args.row (subst (IsMember (g.P.Pool.free s.pool)) none c.take.ensures.answer))
    (record { plan = refl; number = refl; tied = λ t. t })
    (same_state _ _ refl refl (λ _. refl) (λ _. refl) refl (c.take.ensures.after ∙ ap (without (g.P.Pool.free s.pool)) none)) in
    record { rule = said.rule; next = said.next; history = said.history }

pub returns : goal.returns
returns g c =
    let s = c.args.self.now in
    let r = c.args.row in
    let b = c.in_ok-block.block in
    let some : c.take.result ≡ Some b = c.in_ok-block.ensures.ok_part in
    let is_free = subst (IsMember (g.P.Pool.free s.pool)) some c.take.ensures.answer in
    let asked = c.in_ok-asked.ensures in
    let done = c.admit.ensures in
    let said = said_accepted g.B.Board.rows g.P.Pool.free s c.admit.new.self (Arrive r c.args.kind) (Ok (Block b))
    (asked.2 ∙ not_wanting (view g.P.Pool.free s) r b is_free) (b, refl, is_free)
    (record {
      plan = ap (λ p. rows_of p.now) done.plan;
      number = done.number;
      tied = admitted-tied g.B.Board.rows _ _ _ r _ b (g.met.B.Board.range s.board) done asked.0;
    })
    (admitted_next g.B.Board.rows g.P.Pool.free _ _ _ r _ b (g.P.Pool.free s.pool) done asked.0 asked.1 (c.take.ensures.after ∙ ap (without (g.P.Pool.free s.pool)) some)) in
    record { rule = said.rule; next = said.next; history = said.history }
