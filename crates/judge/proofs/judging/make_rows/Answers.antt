use Rattle.std.proofs.Common.{◌+◌, [], ◌∷◌, ◌++◌, map, refl, sym, ap, ap₂, ◌∙◌, take_all}
use Rattle.std.proofs.lemmas.List.{take_more, map_push}
use Rattle.row.specs.Rows.{numbers_of}
use Rattle.judge.proofs.Made.{not_all_keep}
use Rattle.judge.proofs.judging.make_rows.Goals as goal

pub returns-in_default : goal.returns-in_default
returns-in_default c = (refl, not_all_keep c.args.given.now c.loop-numbers.numbers-index _ c.loop-numbers-test.true c.in_default.ensures.0)

pub loop-numbers-preserved : goal.loop-numbers-preserved
loop-numbers-preserved c =
    let far = c.loop-numbers.invariant in
    let pushed = ap (map numbers_of) c.push.ensures.items ∙ map_push numbers_of c.loop-numbers.rows.items c.in-Ok.row in
    let next = take_more c.args.given.now c.loop-numbers.numbers-index _ c.loop-numbers-test.true in
    (c.push.ensures.len ∙ ap (λ n. n + 1) far.0, pushed ∙ ap₂ (λ ns n. ns ++ n ∷ []) far.1 c.in-Ok.ensures.1 ∙ sym next)

pub returns : goal.returns
returns c = c.loop-numbers.invariant.1 ∙ take_all _ c.args.given.now c.loop-numbers-test.false
