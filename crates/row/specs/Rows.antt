-- A row by its numbers. Assumes nothing.
use Rattle.std.specs.Prelude.{◌≡◌, ℕ, Bool, true, false, Result, MatchResult}
use Rattle.row.specs.Limits.{within}
use Rattle.row.specs.Faults.{outside_limits}
use Rattle.row.specs.declared.faults.Fault.{Fault}
use Rattle.row.specs.declared.rows.Row.{Row}
use Rattle.row.specs.declared.rows.Row.TheVariants.{Track, Helper}
use Rattle.row.specs.declared.rows.RowNumbers.{RowNumbers}
use Rattle.row.specs.declared.rows.RowNumbers.TheVariants.{Track as track, Helper as helper}

abbrev pub numbers_of : Row → RowNumbers
numbers_of (Track t) = track t.period t.deadline t.short t.long
numbers_of (Helper h) = helper h.period h.deadline h.short

-- whether plain numbers keep the limits, and so make a row
abbrev pub keeps : RowNumbers → Bool
keeps (track T D C L) = within T D C L
keeps (helper T D C) = within T D C C

-- the row with these numbers, or the refusal of numbers that break the limits
abbrev pub RowOrFault : RowNumbers → Result Row Fault → Type 0
RowOrFault numbers r = MatchResult r (λ row. (keeps numbers ≡ true) × (numbers_of row ≡ numbers)) (λ f. (keeps numbers ≡ false) × (f ≡ outside_limits))

-- numbers that make no row
abbrev pub blank : RowNumbers
blank = helper 0 0 0

-- the least numbers that make one
abbrev pub least : RowNumbers
least = helper 1 1 1

abbrev pub period_of : Row → ℕ
period_of (Track t) = t.period
period_of (Helper h) = h.period

abbrev pub deadline_of : Row → ℕ
deadline_of (Track t) = t.deadline
deadline_of (Helper h) = h.deadline

-- the budget of a normal job
abbrev pub short_of : Row → ℕ
short_of (Track t) = t.short
short_of (Helper h) = h.short

-- the budget of an abnormal job; a helper has no abnormal jobs, and its only budget stands for it
abbrev pub long_of : Row → ℕ
long_of (Track t) = t.long
long_of (Helper h) = h.short

abbrev pub is_track : Row → Bool
is_track (Track t) = true
is_track (Helper h) = false
