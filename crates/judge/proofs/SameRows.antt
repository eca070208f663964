-- A row is its numbers, and its numbers keep the limits. Assumes nothing.
use Rattle.std.proofs.Common.{◌≡◌, ℕ, true, leb, List, [], ◌∷◌, map, refl, ap₂, arith}
use mathlib.Core.HLevel.{is_prop→PathP}
use native.Mathlib.Bridge.{le_prop}
use Rattle.std.proofs.lemmas.Bool.{and_from, le-leb}
use Rattle.row.specs.Limits.{Limits, within}
use Rattle.row.specs.Rows.{numbers_of, keeps}
use Rattle.row.specs.declared.rows.Row.{Row}
use Rattle.row.specs.declared.rows.Row.TheVariants.{Track, Helper}
use Rattle.judge.specs.Judged.{all_keep}

limits_prop : (T D C L : ℕ) → IsProp (Limits T D C L)
limits_prop T D C L x y i = (le_prop x.0 y.0 i, le_prop x.1 y.1 i, le_prop x.2 y.2 i, le_prop x.3 y.3 i, le_prop x.4 y.4 i)

pub same_row : (r s : Row) → numbers_of r ≡ numbers_of s → r ≡ s
same_row (Track r) (Track s) e =
    let T : r.period ≡ s.period = cc in
    let D : r.deadline ≡ s.deadline = cc in
    let C : r.short ≡ s.short = cc in
    let L : r.long ≡ s.long = cc in
    λ i. Track (record {
      period = T i;
      deadline = D i;
      short = C i;
      long = L i;
      limits = is_prop→PathP (λ j. Limits (T j) (D j) (C j) (L j)) (λ j. limits_prop (T j) (D j) (C j) (L j)) r.limits s.limits i;
    })
same_row (Helper r) (Helper s) e =
    let T : r.period ≡ s.period = cc in
    let D : r.deadline ≡ s.deadline = cc in
    let C : r.short ≡ s.short = cc in
    λ i. Helper (record {
      period = T i;
      deadline = D i;
      short = C i;
      limits = is_prop→PathP (λ j. Limits (T j) (D j) (C j) (C j)) (λ j. limits_prop (T j) (D j) (C j) (C j)) r.limits s.limits i;
    })
same_row (Track r) (Helper s) e = let z : ◌≡◌ {A = ℕ} 0 1 = cc in let b : ⊥ = omega arith in absurd b
same_row (Helper r) (Track s) e = let z : ◌≡◌ {A = ℕ} 0 1 = cc in let b : ⊥ = omega arith in absurd b

pub same_rows : (rows others : List Row) → map numbers_of rows ≡ map numbers_of others → rows ≡ others
same_rows [] [] e = refl
same_rows (r ∷ rows) (s ∷ others) e = ap₂ ◌∷◌ (same_row r s (cc)) (same_rows rows others (cc))
same_rows [] (s ∷ others) e = let z : ◌≡◌ {A = ℕ} 0 1 = cc in let b : ⊥ = omega arith in absurd b
same_rows (r ∷ rows) [] e = let z : ◌≡◌ {A = ℕ} 0 1 = cc in let b : ⊥ = omega arith in absurd b

limits_within : (T D C L : ℕ) → Limits T D C L → within T D C L ≡ true
limits_within T D C L (l) =
    and_from (leb 1 C) _ (le-leb 1 C l.0) (and_from (leb C L) _ (le-leb C L l.1) (and_from (leb L D) _ (le-leb L D l.2)
    (and_from (leb D T) _ (le-leb D T l.3) (le-leb T 262143 l.4))))

row_keeps : (r : Row) → keeps (numbers_of r) ≡ true
row_keeps (Track r) = limits_within r.period r.deadline r.short r.long r.limits
row_keeps (Helper r) = limits_within r.period r.deadline r.short r.short r.limits

pub rows_keep : (rows : List Row) → all_keep (map numbers_of rows) ≡ true
rows_keep [] = refl
rows_keep (r ∷ rows) = and_from (keeps (numbers_of r)) (all_keep (map numbers_of rows)) (row_keeps r) (rows_keep rows)
