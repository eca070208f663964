use Rattle.std.proofs.Common.{◌≡◌, ◌*◌, ◌≤◌, length, get_or, sum_by, arith, rules}
use Rattle.std.proofs.lemmas.List.Sums.{sum_by-le}
use Rattle.judge.proofs.above.Above.demand.Goals as goal

-- each share is small, and there are few
pub overflow_add-result : goal.overflow_add-result
overflow_add-result g c =
    let taken = g.S.Share.taken c.args.share.now c.args.window in
    let above = c.args.self.now.rows.now in
    let sum : c.sum-shares.result ≡ sum_by taken above = search rules in
    let small : sum_by taken above ≤ length above * 1572858 = sum_by-le taken 1572858 above (λ k d below.
    let one = g.met.S.Share.bounded c.args.share.now (get_or above k d) c.args.window in
    omega arith) in
    omega (arith, c.args.self.now.few)
