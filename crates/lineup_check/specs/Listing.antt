-- The listing of a line-up, and what the check call does with it. Assumes nothing.
use Rattle.std.specs.Prelude.{◌≡◌, ℕ, ◌⊎◌, List, ◌++◌, length, drop, Ok, Err, MatchBool, Result, nat_le}
use Rattle.row.specs.declared.faults.Fault.{Fault}
use Rattle.row.specs.declared.rows.RowNumbers.{RowNumbers}
use Rattle.format.specs.Decoding.{map_ok, decode, rows_among}
use Rattle.format.specs.Records as records
use Rattle.format.specs.declared.records.ReadFault.{ReadFault}
use Rattle.judge.specs.Judged as judged
use Rattle.judge.specs.Judged.{Refused}
use Rattle.judge.specs.Plan.{Filled, rows_of, bounds_of}
use Rattle.judge.specs.declared.bounds.JudgeFault.{JudgeFault}
use Rattle.judge.specs.declared.plan.Plan.{Plan}
use Rattle.lineup_check.specs.Lines.{refused_line, bound_lines}

-- the rows of a line-up's bytes, or the reader's fault
abbrev pub rows_in : List ℕ → Result (List RowNumbers) ReadFault
rows_in input = map_ok rows_among (decode input)

-- the fault that applies to a line-up: the reader's, or else the judge's
abbrev pub Faulty : Result (List RowNumbers) ReadFault → Fault → Type 0
Faulty (Err e) f = f ≡ records.fault_of e
Faulty (Ok given) f = (j : JudgeFault) × Refused given j × (f ≡ judged.fault_of j)

-- the line-up is read, and the plan has its rows and their bounds
abbrev pub Planned : Result (List RowNumbers) ReadFault → Plan → Type 0
Planned (Err e) p = ⊥
Planned (Ok given) p = Filled given p

-- text is the listing of a line-up: the bounds of every row, or the one fault that applies
abbrev pub Listing : List ℕ → List ℕ → Type 0
Listing input text =
    ((p : Plan) × Planned (rows_in input) p × (text ≡ bound_lines (rows_of p) (bounds_of p)))
    ⊎ ((f : Fault) × Faulty (rows_in input) f × (text ≡ refused_line f))

-- the buffer begins with the text and is otherwise as before, and n is the text's length;
-- or the text does not fit, the buffer is as before, and n is 0
abbrev pub Written : List ℕ → List ℕ → List ℕ → ℕ → Type 0
Written text before after n =
    MatchBool (nat_le (length text) (length before))
    ((n ≡ length text) × (after ≡ text ++ drop (length text) before))
    ((n ≡ 0) × (after ≡ before))

-- a line-up has one listing
abbrev pub OneListing : Type 0
OneListing = (input t u : List ℕ) → Listing input t → Listing input u → t ≡ u
