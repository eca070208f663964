-- A word as a set: k is a member where the binary digit k of the word is 1. Assumes nothing.
use Rattle.std.specs.Prelude.{ℕ, zero, suc, ◌/◌, ◌%◌, Bool, List, [], ◌∷◌, ◌==◌}

-- the n lowest binary digits of a word, lowest first
unfoldable pub digits : ℕ → ℕ → List Bool
digits zero word = []
digits (suc n) word = (word % 2 == 1) ∷ digits n (word / 2)
