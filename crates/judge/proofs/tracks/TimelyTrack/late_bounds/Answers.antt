use Rattle.std.proofs.Common.{sym, refl, ◌∙◌}
use Rattle.std.proofs.lemmas.Result.{err_from_is_err_and}
use Rattle.judge.proofs.Leasts.{missed}
use Rattle.judge.proofs.tracks.TimelyTrack.late_bounds.Goals as goal

pub returns-in_err-mixed : goal.returns-in_err-mixed
returns-in_err-mixed c =
    let t = c.args.self.now in
    let p = err_from_is_err_and c.from_residual.result c.from_residual.ensures.1 in
    let none = missed c.mixed_bound.result _ _ c.mixed_bound.ensures (sym c.ok_or.ensures.value ∙ c.in_err-mixed.was) in
    rw (p.1, p.2, none.1) (refl, (refl, (t.normal, t.bound, t.timely), λ q. none.0 q.0 q.2 q.1))

pub returns-in_err-long : goal.returns-in_err-long
returns-in_err-long c =
    let t = c.args.self.now in
    let p = err_from_is_err_and c.from_residual-in_err-long.result c.from_residual-in_err-long.ensures.1 in
    let mixed = rw c.in_ok-mixed.ensures.ok_part at c.mixed_bound.ensures in
    let none = missed c.long_bound.result _ _ c.long_bound.ensures (sym c.ok_or-2.ensures.value ∙ c.in_err-long.was) in
    rw (p.1, p.2, none.1) (refl, (refl, (t.normal, t.bound, t.timely), (_, mixed.0, mixed.1), λ q. none.0 q.0 q.2 q.1))
