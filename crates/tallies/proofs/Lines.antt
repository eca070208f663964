-- The lines grow with the number of the loop.
use Rattle.std.proofs.Common.{◌≡◌, ℕ, ◌+◌, ◌<◌, ◌≤◌, List, ◌++◌, [], ◌∷◌, codes, get_or, arith, rules}
use Rattle.std.specs.Fmt.{decimal}
use Rattle.std.proofs.lemmas.Grind.{common_steps}
use Rattle.tallies.specs.Texts.{line, lines_below}

pub lines_more : (n : ℕ) (times : List ℕ) → lines_below times n ++ line times n ≡ lines_below times (n + 1)
unfolding lines_below
lines_more n times = search rules

pub line_seen :
    (n : ℕ) (times : List ℕ)
    → 0 < get_or times n 0
    → codes "refused by " ++ (decimal n ++ (codes ": " ++ (decimal (get_or times n 0) ++ (10 ∷ [])))) ≡ line times n
line_seen n times h = grind (arith, common_steps)

pub line_unseen : (n : ℕ) (times : List ℕ) → get_or times n 0 ≤ 0 → [] ≡ line times n
line_unseen n times h = grind (arith, common_steps)
