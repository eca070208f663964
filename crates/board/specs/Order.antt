-- Rows in order. Assumes nothing.
use Rattle.std.specs.Prelude.{◌≡◌, ℕ, suc, ◌+◌, ◌<◌, ◌≤◌, Bool, true, false, List, [], ◌∷◌, drop, slice_index}
use Rattle.sets.specs.Sets.{member}
use Rattle.sets.specs.Chains.{on_chain}

-- how many numbers stand before the smallest member; all of them where there is none
abbrev pub before : List Bool → ℕ
before [] = 0
before (true ∷ xs) = 0
before (false ∷ xs) = suc (before xs)

-- the smallest member from k on, or the end of the range where there is none
abbrev pub next_from : List Bool → ℕ → ℕ
next_from xs k = k + before (drop k xs)

-- a chain in order: it begins with the smallest row on it, or the end,
abbrev pub Begins : ℕ → List ℕ → Type 0
Begins head links = head ≡ next_from (on_chain links) 0

-- and behind each row on it stands the next larger one, or the end
abbrev pub GoesOn : List ℕ → Type 0
GoesOn links = (row : ℕ) → member (on_chain links) row ≡ true → slice_index links row ≡ next_from (on_chain links) (suc row)

-- `place` is the last row on the chain below `row`
abbrev pub LastBelow : List ℕ → ℕ → ℕ → Type 0
LastBelow links row place = (member (on_chain links) place ≡ true) × (place < row) × (row ≤ slice_index links place)
