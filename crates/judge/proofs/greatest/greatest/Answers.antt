use Rattle.std.proofs.Common.{◌≡◌, max, arith, rules}
use Rattle.judge.proofs.Greatests.{one_more, greatest}
use Rattle.judge.proofs.greatest.greatest.Goals as goal

pub loop-instant-preserved : goal.loop-instant-preserved
loop-instant-preserved g c =
    let more : c.max-greatest.result ≡ max c.loop-instant.greatest c.in_ok-value.field-0 = search rules in
    rw more (one_more _ c.loop-instant.instant c.loop-instant.greatest c.in_ok-value.field-0 c.loop-instant.invariant c.in_ok-value.ensures)

pub returns-in_err-value : goal.returns-in_err-value
returns-in_err-value g c = rw c.from_residual.ensures (record { is = (c.loop-instant.instant, c.loop-instant-test.true, c.in_err-value.ensures) })

pub returns : goal.returns
returns g c =
    let all : c.loop-instant.instant ≡ c.args.instants = omega arith in
    record { is = greatest _ c.args.instants c.loop-instant.greatest c.requires.some (rw all at c.loop-instant.invariant) }
