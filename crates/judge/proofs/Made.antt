-- Numbers that make no row. Assumes nothing.
use Rattle.std.proofs.Common.{◌≡◌, ℕ, zero, suc, ◌<◌, false, List, [], ◌∷◌, length, get_or, arith}
use Rattle.std.proofs.lemmas.Bool.{and_left, and_right}
use Rattle.row.specs.Rows.{keeps}
use Rattle.row.specs.declared.rows.RowNumbers.{RowNumbers}
use Rattle.judge.specs.Judged.{all_keep}

-- numbers that break the limits at one place
pub not_all_keep : (given : List RowNumbers) (i : ℕ) (d : RowNumbers) → i < length given → keeps (get_or given i d) ≡ false → all_keep given ≡ false
not_all_keep [] i d within e = let b : ⊥ = omega arith in absurd b
not_all_keep (n ∷ given) zero d within e = and_left (keeps n) (all_keep given) e
not_all_keep (n ∷ given) (suc i) d within e = and_right (keeps n) (all_keep given) (not_all_keep given i d (omega arith) e)
