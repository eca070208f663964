-- The lines of a listing. Assumes nothing.
use Rattle.std.specs.Prelude.{ℕ, zero, suc, List, [], ◌∷◌, ◌++◌, length, Some, None, codes, decimal, Option}
use Rattle.std.specs.List.{slice_get}
use Rattle.row.specs.Faults.{number_of, word_of}
use Rattle.row.specs.declared.faults.Fault.{Fault}
use Rattle.row.specs.declared.rows.Row.{Row}
use Rattle.row.specs.declared.rows.Row.TheVariants.{Track, Helper}
use Rattle.judge.specs.declared.bounds.Bounds.{Bounds}
use Rattle.judge.specs.declared.bounds.LateBounds.{LateBounds}

-- a word behind a single space
abbrev pub spaced : List ℕ → List ℕ
spaced word = 0x20 ∷ word

-- the byte that ends a line
abbrev pub line_end : List ℕ
line_end = 0x0a ∷ []

-- a refused line-up: `refused`, number, layer, place
abbrev pub refused_line : Fault → List ℕ
refused_line f = codes "refused" ++ spaced (decimal (number_of f.refusal)) ++ spaced (word_of f.layer) ++ spaced (decimal f.place) ++ line_end

abbrev pub letter_of : Row → List ℕ
letter_of (Track t) = codes "T"
letter_of (Helper h) = codes "H"

-- the mixed and the long bound, which only a track has
abbrev pub late_fields : Option LateBounds → List ℕ
late_fields (Some b) = spaced (decimal b.mixed) ++ spaced (decimal b.long)
late_fields None = []

-- the row's number, and `T` or `H`
abbrev pub head_of : ℕ → Row → List ℕ
head_of i r = decimal i ++ spaced (letter_of r)

-- a row: its number and letter, its bounds
abbrev pub row_line : ℕ → Row → Bounds → List ℕ
row_line i r b = head_of i r ++ spaced (decimal b.normal) ++ late_fields b.late ++ line_end

abbrev pub line_at : ℕ → Option Row → Option Bounds → List ℕ
line_at i None b = []
line_at i (Some r) None = []
line_at i (Some r) (Some b) = row_line i r b

-- the lines of the first n rows
abbrev pub lines_to : ℕ → List Row → List Bounds → List ℕ
lines_to zero rows bounds = []
lines_to (suc n) rows bounds = lines_to n rows bounds ++ line_at n (slice_get rows n) (slice_get bounds n)

-- rows that pass: a line for each, from row 0
abbrev pub bound_lines : List Row → List Bounds → List ℕ
bound_lines rows bounds = lines_to (length rows) rows bounds
