-- A line-up has one listing. Assumes nothing.
use Rattle.std.proofs.Common.{◌≡◌, List, Ok, Err, Result, sym, ap, ◌∙◌, ap₂, inl, inr}
use Rattle.row.specs.declared.faults.Fault.{Fault}
use Rattle.row.specs.declared.rows.RowNumbers.{RowNumbers}
use Rattle.format.specs.declared.records.ReadFault.{ReadFault}
use Rattle.judge.specs.Judged as judged
use Rattle.judge.specs.Plan.{rows_of, bounds_of}
use Rattle.judge.specs.declared.plan.Plan.{Plan}
use Rattle.judge.proofs.OneAnswer.{determined}
use Rattle.lineup_check.specs.Lines.{bound_lines, refused_line}
use Rattle.lineup_check.specs.Listing.{rows_in, Planned, Faulty, OneListing}

-- a line-up fills plans alike, has one fault, and not both a plan and a fault
same_plans : (read : Result (List RowNumbers) ReadFault) (p q : Plan) → Planned read p → Planned read q → (rows_of p ≡ rows_of q) × (bounds_of p ≡ bounds_of q)
same_plans (Ok given) p q a b = determined.filled given p q a b
same_plans (Err e) p q a b = absurd a

one_fault : (read : Result (List RowNumbers) ReadFault) (f g : Fault) → Faulty read f → Faulty read g → f ≡ g
one_fault (Ok given) f g (i, r, a) (j, s, b) = a ∙ ap judged.fault_of (determined.refused given i j r s) ∙ sym b
one_fault (Err e) f g a b = a ∙ sym b

not_both : (read : Result (List RowNumbers) ReadFault) (p : Plan) (f : Fault) → Planned read p → Faulty read f → ⊥
not_both (Ok given) p f a b = determined.apart given p b.0 a b.1
not_both (Err e) p f a b = a

pub one_listing : OneListing
one_listing input t u (inl (p, a, e)) (inl (q, b, f)) =
    let same = same_plans (rows_in input) p q a b in
    e ∙ ap₂ bound_lines same.0 same.1 ∙ sym f
one_listing input t u (inl (p, a, e)) (inr (g, b, f)) = absurd (not_both (rows_in input) p g a b)
one_listing input t u (inr (g, a, e)) (inl (p, b, f)) = absurd (not_both (rows_in input) p g b a)
one_listing input t u (inr (g, a, e)) (inr (h, b, f)) = e ∙ ap refused_line (one_fault (rows_in input) g h a b) ∙ sym f
