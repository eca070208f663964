use Rattle.std.proofs.Common.{length, refl, ap, arith, rules}
use Rattle.std.proofs.lemmas.List.{length-map}
use Rattle.std.proofs.lemmas.Result.{err_from_is_err_and}
use Rattle.row.specs.Rows.{numbers_of}
use Rattle.judge.proofs.Accepting.{refused}
use Rattle.judge.proofs.OneAnswer.{determined}
use Rattle.judge.proofs.judging.judge.Goals as goal

pub returns-in_err-bounds : goal.returns-in_err-bounds
returns-in_err-bounds c =
    let p = err_from_is_err_and c.from_residual-in_err-bounds.result c.from_residual-in_err-bounds.ensures.1 in
    let rows = c.in_ok-rows.rows.items in
    let made = c.in_ok-rows.ensures in
    let many = length-map rows numbers_of in
    let few = ap length made in
    let count = c.in_ok-check_count.ensures in
    rw (p.1, p.2) (record { answer = (refl, refused c.args.given.now rows made (omega arith) _ (rw c.as_slice.ensures.value at c.in_err-bounds.ensures)); determined = determined })

pub invariant_of-plan : goal.invariant_of-plan
invariant_of-plan c =
    let many = length-map c.in_ok-rows.rows.items numbers_of in
    let few = ap length c.in_ok-rows.ensures in
    let count = c.in_ok-check_count.ensures in
    record { few = omega arith; accepted = ∣ rw c.as_slice.ensures.value at c.in_ok-bounds.ensures ∣₁ }

pub returns-in_err-check_count : goal.returns-in_err-check_count
returns-in_err-check_count c = record { answer = search rules; determined = determined }

pub returns-in_err-rows : goal.returns-in_err-rows
returns-in_err-rows c = record { answer = search rules; determined = determined }

pub returns : goal.returns
returns c =
    let count = c.in_ok-check_count.ensures in
    record {
      answer = record { made = c.in_ok-rows.ensures; some = count.0; few = count.1; accepted = rw c.as_slice.ensures.value at c.in_ok-bounds.ensures };
      determined = determined;
    }
