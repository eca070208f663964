-- The rows read so far, with those still to be read, are the rows of the line-up. Assumes nothing.
use Rattle.std.proofs.Common.{◌≡◌, ℕ, zero, suc, ◌+◌, ◌-◌, ◌<◌, ◌≤◌, List, [], ◌∷◌, ◌++◌, length, Some, None, Ok, Err, Option, Result, sym, refl, ap, ◌∙◌, append_assoc, append-nil, arith}
use Rattle.row.specs.declared.rows.RowNumbers.{RowNumbers}
use Rattle.format.specs.Decoding.{map_ok, followed, decode_from, decode, rows_among}
use Rattle.format.specs.Reading.{start, read_at, behind, size_of}
use Rattle.format.specs.declared.places.Place.{Place}
use Rattle.format.specs.Records.{Item, row, label, end}
use Rattle.format.specs.declared.records.ReadFault.{ReadFault}
use Rattle.format.proofs.Lengths.{size_pos}

-- the rows kept so far, and enough reads for what is left
pub record Collecting (input : List ℕ) (p : Place) (rows : List RowNumbers) : Type 0 where
  pub reads : ℕ
  pub enough : length input - p.at < reads
  pub left : map_ok (λ is. rows ++ rows_among is) (decode_from reads input p) ≡ map_ok rows_among (decode input)

map-map : {X Y Z E : Type 0} (f : Y → Z) (g : X → Y) (r : Result X E) → map_ok f (map_ok g r) ≡ map_ok (λ x. f (g x)) r
map-map f g (Ok x) = refl
map-map f g (Err e) = refl

map_same : {X Y E : Type 0} (f g : X → Y) → ((x : X) → f x ≡ g x) → (r : Result X E) → map_ok f r ≡ map_ok g r
map_same f g h (Ok x) = ap Ok (h x)
map_same f g h (Err e) = refl

rows_cons : (i : Item) (is : List Item) → rows_among (i ∷ is) ≡ rows_among (i ∷ []) ++ rows_among is
rows_cons (row n) is = refl
rows_cons (label o bs) is = refl
rows_cons end is = refl

pub collect_none : (input : List ℕ) → Collecting input start []
collect_none input = record { reads = length input + 1; enough = omega arith; left = refl }

-- one read, with which the records from place p on begin
step : (input : List ℕ) (p : Place) (rows : List RowNumbers) (reads : ℕ) → length input - p.at < reads
    → map_ok (λ is. rows ++ rows_among is) (decode_from reads input p) ≡ map_ok rows_among (decode input)
    → (n : ℕ) × (length input - p.at ≤ n)
    × (map_ok (λ is. rows ++ rows_among is) (followed p (read_at input p) (decode_from n input)) ≡ map_ok rows_among (decode input))
unfolding decode_from
step input p rows zero h l = absurd (omega arith)
step input p rows (suc n) h l = (n, omega arith, l)

module _ (input : List ℕ) (p : Place) (rows : List RowNumbers) (c : Collecting input p rows) where
  -- what the read gives decides
  given : (a : Result (Option Item) ReadFault) → a ≡ read_at input p → (n : ℕ) × (length input - p.at ≤ n)
      × (map_ok (λ is. rows ++ rows_among is) (followed p a (decode_from n input)) ≡ map_ok rows_among (decode input))
  given a e =
      let s = step input p rows c.reads c.enough c.left in
      (s.0, s.1, ap (λ r. map_ok (λ is. rows ++ rows_among is) (followed p r (decode_from s.0 input))) e ∙ s.2)

  pub collect_all : Ok None ≡ read_at input p → Ok rows ≡ map_ok rows_among (decode input)
  collect_all e = ap Ok (sym (append-nil rows)) ∙ (given (Ok None) e).2

  pub collect_fault : (f : ReadFault) → Err f ≡ read_at input p → Err f ≡ map_ok rows_among (decode input)
  collect_fault f e = (given (Err f) e).2

  pub collect_more : (i : Item) → Ok (Some i) ≡ read_at input p → p.at + size_of i ≤ length input
      → Collecting input (behind p i) (rows ++ rows_among (i ∷ []))
  collect_more i e within =
      let g = given (Ok (Some i)) e in
      record {
        reads = g.0;
        enough = omega (arith, size_pos i, g.1);
        left =
            sym (map-map (λ is. rows ++ rows_among is) (λ is. i ∷ is) (decode_from g.0 input (behind p i))
            ∙ map_same _ _ (λ is. ap (λ x. rows ++ x) (rows_cons i is) ∙ sym (append_assoc rows (rows_among (i ∷ [])) (rows_among is))) (decode_from g.0 input (behind p i)))
            ∙ g.2;
      }
