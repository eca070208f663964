use Rattle.std.proofs.Common.{◌≡◌, ◌+◌, length, take, ap, ◌∙◌, arith}
use Rattle.std.proofs.lemmas.List.{length-take-le}
use Rattle.std.proofs.lemmas.Result.{err_from_is_err_and}
use Rattle.judge.proofs.Accepting.{pass_more, fails-first}
use Rattle.judge.proofs.judging.bound_rows.Goals as goal

pub returns-in_err-pass : goal.returns-in_err-pass
returns-in_err-pass c =
    let p = err_from_is_err_and c.from_residual.result c.from_residual.ensures.1 in
    let rows = c.args.rows.now in
    let i = c.loop-place.place in
    let above : length (take i rows) ≡ i = length-take-le i rows (omega arith) in
    rw (p.1, p.2) (fails-first rows c.loop-place.bounds.items i c.index-rows-place.result _ c.loop-place-test.true c.index-rows-place.is
    c.loop-place.invariant.1 (rw above at c.in_err-pass.ensures))

pub loop-place-preserved : goal.loop-place-preserved
loop-place-preserved c =
    let far = c.loop-place.invariant in
    let rows = c.args.rows.now in
    let new = c.in_ok-pass.field-0 in (
      c.push.ensures.len ∙ ap (λ n. n + 1) far.0,
      rw c.push.ensures.items (pass_more rows c.loop-place.bounds.items c.loop-place.place c.index-rows-place.result new c.loop-place-test.true far.0 c.index-rows-place.is far.1 c.in_ok-pass.ensures),
    )

pub returns : goal.returns
returns c =
    let far = c.loop-place.invariant in
    let all : c.loop-place.place ≡ length c.args.rows.now = omega arith in
    record { many = far.0 ∙ all; each = λ i below r b. far.1 i (omega arith) r b }
