-- A set of the numbers below n: the list of length n that says of each number whether it is a member. Assumes nothing.
use Rattle.std.specs.Prelude.{◌≡◌, ℕ, suc, ◌<◌, Bool, true, false, cond, not, ◌&&◌, List, [], ◌∷◌, length, replicate, Some, None, Option, nat_lt, slice_index_or, slice_set}

-- no number below n
unfoldable pub empty : ℕ → List Bool
empty n = replicate n false

-- every number below n
unfoldable pub full : ℕ → List Bool
full n = replicate n true

-- whether k is a member
abbrev pub member : List Bool → ℕ → Bool
member xs k = slice_index_or xs k false

-- whether k can join: it is below n and absent
abbrev pub joins : List Bool → ℕ → Bool
joins xs k = nat_lt k (length xs) && not (member xs k)

-- the set after k was asked to join: with k where k can join, else as it was
abbrev pub joined : List Bool → ℕ → List Bool
joined xs k = cond (joins xs k) (slice_set xs k true) xs

-- the set after k was asked to leave: without k where k is a member, else as it was
abbrev pub left : List Bool → ℕ → List Bool
left xs k = cond (member xs k) (slice_set xs k false) xs

-- the set after the member that was found, if any, has left
abbrev pub without : List Bool → Option ℕ → List Bool
without xs None = xs
without xs (Some k) = slice_set xs k false

-- the same number, counted from one place before
abbrev pub further : Option ℕ → Option ℕ
further None = None
further (Some k) = Some (suc k)

-- the smallest member, or none
abbrev pub smallest : List Bool → Option ℕ
smallest [] = None
smallest (true ∷ xs) = Some 0
smallest (false ∷ xs) = further (smallest xs)

-- how many members there are
abbrev pub size : List Bool → ℕ
size [] = 0
size (true ∷ xs) = suc (size xs)
size (false ∷ xs) = size xs

-- no number is a member
abbrev pub IsEmpty : List Bool → Type 0
IsEmpty xs = (k : ℕ) → member xs k ≡ false

-- k is a member, or there is none
abbrev pub IsMember : List Bool → Option ℕ → Type 0
IsMember xs None = IsEmpty xs
IsMember xs (Some k) = member xs k ≡ true

-- k is a member and no smaller number is, or there is none
abbrev pub IsSmallest : List Bool → Option ℕ → Type 0
IsSmallest xs None = IsEmpty xs
IsSmallest xs (Some k) = (member xs k ≡ true) × ((j : ℕ) → j < k → member xs j ≡ false)
