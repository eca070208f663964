-- What the counts come to and how they read.
use Rattle.std.specs.Prelude.{ℕ, ◌+◌, ◌-◌, ◌^◌, zero, suc, Bool, true, false, min, List, [], ◌∷◌, ◌++◌, cond, nat_lt, codes, slice_index}
use Rattle.std.specs.Fmt.{decimal}
use Rattle.tallies.specs.declared.Agreement.{Agreement}

-- one more agreement, or one more disagreement
abbrev pub noted : Bool → Agreement → Agreement
noted true both = record both { agreed = min (both.agreed + 1) (2 ^ 32 - 1) }
noted false both = record both { disagreed = min (both.disagreed + 1) (2 ^ 32 - 1) }

-- a line for each of the two counts
abbrev pub agreement : Agreement → List ℕ
agreement both =
    codes "agreed " ++ decimal both.agreed ++ (10 ∷ []) ++ codes "disagreed " ++ decimal both.disagreed ++ (10 ∷ [])

-- the line of a refusal, if it came
abbrev pub line : List ℕ → ℕ → List ℕ
line times number =
    cond (nat_lt 0 (slice_index times number))
    (codes "refused by " ++ (decimal number ++ (codes ": " ++ (decimal (slice_index times number) ++ (10 ∷ [])))))
    []

-- the lines of the refusals whose numbers are below n
unfoldable pub lines_below : List ℕ → ℕ → List ℕ
lines_below times zero = []
lines_below times (suc n) = lines_below times n ++ line times n
