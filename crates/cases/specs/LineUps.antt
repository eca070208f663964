-- The rows of the worked examples, and words to speak of their bounds. Assumes nothing.
use Rattle.std.specs.Prelude.{◌≡◌, ℕ, List, [], ◌∷◌, map, Some, None}
use Rattle.std.proofs.Common.{lit≤}
use Rattle.row.specs.Faults.{number_of}
use Rattle.row.specs.Limits.{Limits}
use Rattle.row.specs.Rows.{numbers_of}
use Rattle.row.specs.declared.faults.Layer.TheVariants.{Judge}
use Rattle.row.specs.declared.rows.Row.{Row}
use Rattle.row.specs.declared.rows.Row.TheVariants.{Track, Helper}
use Rattle.judge.specs.Judged.{Refused, fault_of}
use Rattle.judge.specs.declared.bounds.Bounds.{Bounds}
use Rattle.judge.specs.declared.bounds.JudgeFault.{JudgeFault}

-- a track by T, D, C and L, a helper by T, D and C
abbrev pub track : (T D C L : ℕ) → Limits T D C L → Row
track T D C L limits = Track (record { period = T; deadline = D; short = C; long = L; limits = limits })

abbrev pub helper : (T D C : ℕ) → Limits T D C C → Row
helper T D C limits = Helper (record { period = T; deadline = D; short = C; limits = limits })

-- the worked line-up
abbrev pub row0 : Row
row0 = track 10 10 2 4 (lit≤ tt, lit≤ tt, lit≤ tt, lit≤ tt, lit≤ tt)

abbrev pub row1 : Row
row1 = helper 8 8 2 (lit≤ tt, lit≤ tt, lit≤ tt, lit≤ tt, lit≤ tt)

abbrev pub row2 : Row
row2 = track 20 20 3 5 (lit≤ tt, lit≤ tt, lit≤ tt, lit≤ tt, lit≤ tt)

abbrev pub worked : List Row
worked = row0 ∷ row1 ∷ row2 ∷ []

-- the same with another deadline of row 2
abbrev pub due15 : List Row
due15 = row0 ∷ row1 ∷ track 20 15 3 5 (lit≤ tt, lit≤ tt, lit≤ tt, lit≤ tt, lit≤ tt) ∷ []

abbrev pub due14 : List Row
due14 = row0 ∷ row1 ∷ track 20 14 3 5 (lit≤ tt, lit≤ tt, lit≤ tt, lit≤ tt, lit≤ tt) ∷ []

-- a track that takes every tick, and a helper below it
abbrev pub full_track : Row
full_track = track 1 1 1 1 (lit≤ tt, lit≤ tt, lit≤ tt, lit≤ tt, lit≤ tt)

abbrev pub below_full : List Row
below_full = full_track ∷ helper 5 5 1 (lit≤ tt, lit≤ tt, lit≤ tt, lit≤ tt, lit≤ tt) ∷ []

-- a helper above a track
abbrev pub below_helper : List Row
below_helper =
    helper 4 4 2 (lit≤ tt, lit≤ tt, lit≤ tt, lit≤ tt, lit≤ tt)
    ∷ track 20 20 3 8 (lit≤ tt, lit≤ tt, lit≤ tt, lit≤ tt, lit≤ tt)
    ∷ []

-- the bounds of a track: normal, mixed, long; and of a helper
abbrev pub track_bounds : ℕ → ℕ → ℕ → Bounds
track_bounds normal mixed long = record { normal = normal; late = Some (record { mixed = mixed; long = long }) }

abbrev pub helper_bounds : ℕ → Bounds
helper_bounds normal = record { normal = normal; late = None }

-- the judge refuses the numbers of these rows by this fault, which the outside knows by its number, layer `judge` and its place
pub record RefusedBy (rows : List Row) (f : JudgeFault) (number place : ℕ) : Type 0 where
  pub refused : Refused (map numbers_of rows) f
  pub by_number : number_of (fault_of f).refusal ≡ number
  pub by_judge : (fault_of f).layer ≡ Judge
  pub at_place : (fault_of f).place ≡ place
