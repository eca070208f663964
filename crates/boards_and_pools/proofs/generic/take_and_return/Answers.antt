use Rattle.std.proofs.Common.{◌≡◌, ℕ, Bool, true, false, ltb, List, set, sym, ap, ◌∙◌, arith, lt-ltb}
use Rattle.sets.specs.Sets.{member, size, joins, joined}
use Rattle.sets.proofs.Members.{rejoin, size_leave, empty_none}
use Rattle.boards_and_pools.proofs.generic.take_and_return.Goals as goal

-- from xs a member k is taken, which leaves ys, and given back, which leaves zs
returned : (xs ys zs : List Bool) (k : ℕ) (says : Bool) → member xs k ≡ true → ys ≡ set xs k false → says ≡ joins ys k → zs ≡ joined ys k
    → record { answer : says ≡ ltb 0 (size xs); after : zs ≡ xs }
returned xs ys zs k says present taken answer after =
    let again = rejoin xs k present in
    record {
      answer = answer ∙ ap (λ set. joins set k) taken ∙ again.0 ∙ sym (lt-ltb 0 (size xs) (omega (arith, size_leave xs k present)));
      after = after ∙ ap (λ set. joined set k) taken ∙ again.1;
    }

pub returns-in-Some : goal.returns-in-Some
returns-in-Some g c =
    let free = g.P.Pool.free in
    let taken = c.in-Some.ensures in
    returned (free c.args.pool.now) (free c.take.new.self) _ c.in-Some.block _ taken.answer taken.after c.give.ensures.answer c.give.ensures.after

pub returns-in-None : goal.returns-in-None
returns-in-None g c =
    let taken = c.in-None.ensures in
    record { answer = sym (ap (ltb 0) (empty_none _ taken.answer)); after = taken.after }
