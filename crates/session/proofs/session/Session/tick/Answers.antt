-- The exit at which the job has ended: row and block go back.
use Rattle.std.proofs.Common.{cond, set, Some, None, sym, refl, ap, ◌∙◌}
use Rattle.law.specs.State.{ticked}
use Rattle.session.specs.View.{ready_of}
use Rattle.session.proofs.Reports.{has_ended, ended-outcome, ended-jobs, ended-ready, ended-blocks, left_tied}
use Rattle.session.proofs.session.Session.tick.Goals as goal

pub returns : goal.returns
returns g c =
    let s = c.args.self.now in
    let w = c.args.work in
    let asked = c.in-Some.ensures in
    let j = c.in-Some-job.job in
    let unended = sym c.in-Some-job.ensures.answer in
    let rest = c.after_tick-left in
    let over = has_ended c.in-Some.asked c.args.finished j rest.result rest.ensures (sym c.is_some.ensures ∙ c.if-is_some.false) in
    let rows = ap (λ o. set s.rows w.row (record { job = o; ready = ready_of s w.row })) (rest.ensures ∙ ap (λ t. cond t None (Some (ticked j))) over) in
    record {
      outcome = c.ending.ensures ∙ ended-outcome s w c.args.finished c.in-Some.asked j asked.1 unended over;
      worked = record {
        plan = refl;
        number = refl;
        clock = refl;
        mode = refl;
        ready = ended-ready s w c.args.finished c.in-Some.asked j asked.1 unended over _ rows asked.0;
        jobs = ended-jobs s w c.args.finished c.in-Some.asked j asked.1 unended over _ rows asked.0;
        blocks = ended-blocks s w c.args.finished c.in-Some.asked j asked.1 unended over _ _ c.give.ensures.after;
        tied = left_tied s w c.args.finished c.in-Some.asked j asked.1 unended over _ rows asked.0 _ _ c.remove.ensures.after;
      };
    }
