-- A record read back from its bytes. Assumes nothing.
use Rattle.std.proofs.Common.{◌≡◌, ℕ, ◌+◌, ◌-◌, ◌*◌, ◌%◌, ◌^◌, ◌<◌, ◌≤◌, Bool, true, false, eqb, ltb, leb, List, [], ◌∷◌, ◌++◌, length, take, Ok, sym, refl, ap, ◌∙◌, arith}
use Rattle.std.proofs.lemmas.List.{take_at, length-append}
use Rattle.std.proofs.lemmas.Bool.Decides.{nat_tests}
use Rattle.std.proofs.lemmas.Bool.{and_parts, leb-true, ltb-true, ne_eqb, le-ltb, eq-eqb}
use Rattle.row.specs.Limits.{within, Limits}
use Rattle.row.specs.declared.rows.RowNumbers.TheVariants.{Track, Helper}
use Rattle.fields.specs.Fields.{field}
use Rattle.fields.proofs.Digits.{field_byte}
use Rattle.format.specs.Encoding.{number_of, row_fields, record_bytes, row_bytes}
use Rattle.format.specs.Reading.{record_in, helper_in, track_in, label_in, end_in, as_row, as_label, as_end, good_label, is_end}
use Rattle.format.specs.declared.places.Place.{Place}
use Rattle.format.specs.Records.{Item, row, label, end}
use Rattle.format.specs.Standing.{Stands}
use Rattle.format.proofs.Bytes.{length_big}
use Rattle.format.proofs.Splitting.{last_field, big_more}

-- numbers that keep the limits
pub limits_from : (T D C L : ℕ) → within T D C L ≡ true → Limits T D C L
limits_from T D C L e = grind (arith, nat_tests)

pub limits_to : (T D C L : ℕ) → Limits T D C L → within T D C L ≡ true
limits_to T D C L h = grind (arith, nat_tests)

-- which record it is, by its kind
module _ (rest : List ℕ) (at rows : ℕ) (after_row : Bool) (some : 1 ≤ length rest) where
  filled : eqb (length rest) 0 ≡ false
  filled = ne_eqb (length rest) 0 (λ e. omega arith)

  pub kind_helper : field rest 0 3 ≡ 0 → record_in rest at rows after_row ≡ as_row (helper_in rest rows)
  kind_helper e = rw (filled, e) refl

  pub kind_track : field rest 0 3 ≡ 1 → record_in rest at rows after_row ≡ as_row (track_in rest rows)
  kind_track e = rw (filled, e) refl

  pub kind_label : field rest 0 3 ≡ 2 → record_in rest at rows after_row ≡ as_label at (label_in rest after_row)
  kind_label e = rw (filled, e) refl

  pub kind_end : field rest 0 3 ≡ 3 → record_in rest at rows after_row ≡ as_end (end_in rest rows)
  kind_end e = rw (filled, e) refl

-- the kind and the 5 bits behind it, by the first byte
pub first_byte : (b : ℕ) (more : List ℕ) (k m : ℕ) → b ≡ k * 32 + m → k < 8 → m < 32 → (field (b ∷ more) 0 3 ≡ k) × (field (b ∷ more) 3 5 ≡ m)
first_byte b more k m e h l = last_field (b ∷ more) 3 5 k m (field_byte (b ∷ more) 0 (omega arith) ∙ e) l

-- the fields of a helper
helper_fields : (rest : List ℕ) (T D C : ℕ) → Limits T D C C → field rest 0 64 ≡ number_of (row_fields (Helper T D C))
    → (field rest 0 3 ≡ 0) × (field rest 3 18 ≡ T) × (field rest 21 18 ≡ D) × (field rest 39 18 ≡ C) × (field rest 57 7 ≡ 0)
helper_fields rest T D C lim whole =
    let z = last_field rest 57 7 (((0 + T) * 2 ^ 18 + D) * 2 ^ 18 + C) 0 whole (omega arith) in
    let c = last_field rest 39 18 ((0 + T) * 2 ^ 18 + D) C z.0 (omega arith) in
    let d = last_field rest 21 18 (0 + T) D c.0 (omega arith) in
    let t = last_field rest 3 18 0 T d.0 (omega arith) in
    (t.0, t.1, d.1, c.1, z.1)

-- the fields of a track
track_fields : (rest : List ℕ) (T D C L : ℕ) → Limits T D C L → field rest 0 80 ≡ number_of (row_fields (Track T D C L))
    → (field rest 0 3 ≡ 1) × (field rest 3 18 ≡ T) × (field rest 21 18 ≡ D) × (field rest 39 18 ≡ C) × (field rest 57 18 ≡ L) × (field rest 75 5 ≡ 0)
track_fields rest T D C L lim whole =
    let z = last_field rest 75 5 ((((2 ^ 18 + T) * 2 ^ 18 + D) * 2 ^ 18 + C) * 2 ^ 18 + L) 0 whole (omega arith) in
    let l = last_field rest 57 18 (((2 ^ 18 + T) * 2 ^ 18 + D) * 2 ^ 18 + C) L z.0 (omega arith) in
    let c = last_field rest 39 18 ((2 ^ 18 + T) * 2 ^ 18 + D) C l.0 (omega arith) in
    let d = last_field rest 21 18 (2 ^ 18 + T) D c.0 (omega arith) in
    let t = last_field rest 3 18 1 T d.0 (omega arith) in
    (t.0, t.1, d.1, c.1, l.1, z.1)

-- a record that may stand at the place reads back from its bytes; behind an end record there is nothing
pub reread : (p : Place) (i : Item) (more : List ℕ) → Stands p i → p.rows ≤ 32 → (is_end i ≡ true → more ≡ [])
    → record_in (record_bytes p.rows i ++ more) p.at p.rows p.after_row ≡ Ok i
reread p (row (Helper T D C)) more s few last =
    let lim = limits_from T D C C s.kept in
    let rest : List ℕ = row_bytes (Helper T D C) ++ more in
    let long : length rest ≡ 8 + length more = length-append (row_bytes (Helper T D C)) more ∙ ap (λ n. n + length more) (length_big 8 (number_of (row_fields (Helper T D C)))) in
    let f = helper_fields rest T D C lim (big_more 8 (number_of (row_fields (Helper T D C))) more (omega arith)) in
    let enough : ltb (length rest) 8 ≡ false = le-ltb (length rest) 8 (omega arith) in
    kind_helper rest p.at p.rows p.after_row (omega arith) f.0
    ∙ simp (enough, f.1, f.2, f.3, f.4, s.kept, s.placed)
reread p (row (Track T D C L)) more s few last =
    let lim = limits_from T D C L s.kept in
    let rest : List ℕ = row_bytes (Track T D C L) ++ more in
    let long : length rest ≡ 10 + length more = length-append (row_bytes (Track T D C L)) more ∙ ap (λ n. n + length more) (length_big 10 (number_of (row_fields (Track T D C L)))) in
    let f = track_fields rest T D C L lim (big_more 10 (number_of (row_fields (Track T D C L))) more (omega arith)) in
    let enough : ltb (length rest) 10 ≡ false = le-ltb (length rest) 10 (omega arith) in
    kind_track rest p.at p.rows p.after_row (omega arith) f.0
    ∙ simp (enough, f.1, f.2, f.3, f.4, f.5, s.kept, s.placed)
reread p (label offset bytes) more s few last =
    let n : ℕ = length bytes in
    let rest : List ℕ = (0x40 + n) ∷ (bytes ++ more) in
    let both = and_parts (leb n 31) (good_label bytes p.after_row) s.placed in
    let short : n ≤ 31 = leb-true n 31 both.0 in
    let f = first_byte (0x40 + n) (bytes ++ more) 2 n (omega arith) (omega arith) (omega arith) in
    let enough : ltb (length rest) (1 + n) ≡ false = le-ltb (length rest) (1 + n) (omega (arith, length-append bytes more)) in
    let text : take n (bytes ++ more) ≡ bytes = take_at bytes more n refl in
    kind_label rest p.at p.rows p.after_row (omega arith) f.0
    ∙ simp (f.1, enough, text, both.1) (ap (λ o. Ok (label o bytes)) (sym s.offset))
reread p end more s few last =
    let n : ℕ = (p.rows - 1) % 32 in
    let rest : List ℕ = (0x60 + n) ∷ more in
    let some : 0 < p.rows = ltb-true 0 p.rows s.placed in
    let f = first_byte (0x60 + n) more 3 n (omega arith) (omega arith) (omega arith) in
    let count : eqb (n + 1) p.rows ≡ true = eq-eqb (n + 1) p.rows (omega arith) in
    let none : length more ≡ 0 = ap length (last refl) in
    let alone : ltb 1 (length rest) ≡ false = le-ltb 1 (length rest) (omega arith) in
    kind_end rest p.at p.rows p.after_row (omega arith) f.0 ∙ simp (f.1, count, alone)
