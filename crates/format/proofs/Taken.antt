-- A record that was read is made of the bytes that encode it. Assumes nothing.
use Rattle.std.proofs.Common.{◌≡◌, ℕ, ◌+◌, ◌-◌, ◌*◌, ◌%◌, ◌<◌, ◌≤◌, Bool, true, false, cond, eqb, ltb, leb, List, [], ◌∷◌, length, get_or, take, Ok, Err, Result, sym, refl, ap, ◌∙◌, subst, one-add, arith}
use Rattle.std.proofs.lemmas.List.{length-take}
use Rattle.std.proofs.lemmas.Bool.{and_from, le-leb, lt-ltb, eqb-true, ltb-false}
use Rattle.row.specs.Rows.{keeps}
use Rattle.row.specs.declared.faults.Refusal.{Refusal}
use Rattle.row.specs.declared.faults.Refusal.TheVariants.{UnknownKind, InputEnds, FillingNotZero, BadLabel, OutsideLimits, TooManyRows, WrongCount, AfterEnd}
use Rattle.row.specs.declared.rows.RowNumbers.{RowNumbers}
use Rattle.row.specs.declared.rows.RowNumbers.TheVariants.{Track, Helper}
use Rattle.fields.specs.Fields.{field}
use Rattle.fields.proofs.Digits.{field_byte, field_join, field_below}
use Rattle.format.specs.Encoding.{big_endian, number_of, row_fields, record_bytes}
use Rattle.format.specs.Reading.{record_in, row_in, helper_in, track_in, label_in, end_in, as_row, as_label, as_end, good_label, size_of, is_end}
use Rattle.format.specs.declared.places.Place.{Place}
use Rattle.format.specs.Records.{Item, row, label, end}
use Rattle.format.specs.Standing.{OffsetKept}
use Rattle.format.specs.Writing.{RowKept, may_stand}
use Rattle.format.proofs.Bytes.{bytes_of_field}

-- a record that was read at the front of what is left: its bytes, and that it may stand there
pub record Taken (rest : List ℕ) (p : Place) (i : Item) : Type 0 where
  pub within : size_of i ≤ length rest
  pub bytes : take (size_of i) rest ≡ record_bytes p.rows i
  pub placed : may_stand p i ≡ true
  pub kept : RowKept i
  pub offset : OffsetKept p i
  pub alone : is_end i ≡ true → length rest ≡ 1

-- a test that passed
not_refused : {X E : Type 0} (b : Bool) (e : E) (r : Result X E) (x : X) → cond b (Err e) r ≡ Ok x → (b ≡ false) × (r ≡ Ok x)
not_refused true e r x h = absurd cc
not_refused false e r x h = (refl, h)

admitted : {X E : Type 0} (b : Bool) (e : E) (r : Result X E) (x : X) → cond b r (Err e) ≡ Ok x → (b ≡ true) × (r ≡ Ok x)
admitted true e r x h = (refl, h)
admitted false e r x h = absurd cc

-- numbers that were read as a row
row_read : (rest : List ℕ) (size filling : ℕ) (numbers : RowNumbers) (rows : ℕ) (i : Item) → as_row (row_in rest size filling numbers rows) ≡ Ok i
    → (size ≤ length rest) × (filling ≡ 0) × (keeps numbers ≡ true) × (ltb rows 32 ≡ true) × (row numbers ≡ i)
row_read rest size filling numbers rows i e = by (row_in rest size filling numbers rows) refl e
  where
    by : (r : Result RowNumbers Refusal) → row_in rest size filling numbers rows ≡ r → as_row r ≡ Ok i
        → (size ≤ length rest) × (filling ≡ 0) × (keeps numbers ≡ true) × (ltb rows 32 ≡ true) × (row numbers ≡ i)
    by (Err f) g h = absurd cc
    by (Ok n) g h =
        let a = not_refused (ltb (length rest) size) InputEnds _ n g in
        let b = admitted (eqb filling 0) FillingNotZero _ n a.1 in
        let d = admitted (keeps numbers) OutsideLimits _ n b.1 in
        let f = admitted (ltb rows 32) TooManyRows _ n d.1 in
        let same : numbers ≡ n = let g = f.1 in cc in
        let item : row n ≡ i = cc in
        (ltb-false (length rest) size a.0, eqb-true filling 0 b.0, d.0, f.0, ap row same ∙ item)

module _ (rest : List ℕ) (p : Place) (i : Item) (small : (k : ℕ) → get_or rest k 0 < 256) where
  helper-taken : field rest 0 3 ≡ 0 → as_row (helper_in rest p.rows) ≡ Ok i → Taken rest p i
  helper-taken kind e =
      let r = row_read rest 8 (field rest 57 7) (Helper (field rest 3 18) (field rest 21 18) (field rest 39 18)) p.rows i e in
      let zeros = r.1 in
      let number : field rest 0 64 ≡ number_of (row_fields (Helper (field rest 3 18) (field rest 21 18) (field rest 39 18))) =
      omega (arith, field_join rest 57 7, field_join rest 39 18, field_join rest 21 18, field_join rest 3 18) in
      subst (Taken rest p) r.4
      (record {
        within = r.0;
        bytes = bytes_of_field rest 8 small r.0 ∙ ap (big_endian 8) number;
        placed = r.3;
        kept = r.2;
        offset = tt;
        alone = λ z. cc;
      })

  track-taken : field rest 0 3 ≡ 1 → as_row (track_in rest p.rows) ≡ Ok i → Taken rest p i
  track-taken kind e =
      let r = row_read rest 10 (field rest 75 5) (Track (field rest 3 18) (field rest 21 18) (field rest 39 18) (field rest 57 18)) p.rows i e in
      let zeros = r.1 in
      let number : field rest 0 80 ≡ number_of (row_fields (Track (field rest 3 18) (field rest 21 18) (field rest 39 18) (field rest 57 18))) =
      omega (arith, field_join rest 75 5, field_join rest 57 18, field_join rest 39 18, field_join rest 21 18, field_join rest 3 18) in
      subst (Taken rest p) r.4
      (record {
        within = r.0;
        bytes = bytes_of_field rest 10 small r.0 ∙ ap (big_endian 10) number;
        placed = r.3;
        kept = r.2;
        offset = tt;
        alone = λ z. cc;
      })

-- the first byte is the kind and the 5 bits behind it
first_is : (b : ℕ) (more : List ℕ) → b < 256 → b ≡ field (b ∷ more) 0 3 * 32 + field (b ∷ more) 3 5
first_is b more small = sym (field_byte (b ∷ more) 0 small) ∙ field_join (b ∷ more) 3 5

label-made : (b : ℕ) (more : List ℕ) (p : Place) (n : ℕ) → b < 256 → field (b ∷ more) 0 3 ≡ 2 → field (b ∷ more) 3 5 ≡ n → 1 + n ≤ length (b ∷ more)
    → good_label (take n more) p.after_row ≡ true → Taken (b ∷ more) p (label (p.at + 1) (take n more))
label-made b more p n small kind count h good =
    let long : length (take n more) ≡ n = length-take n more ∙ omega arith in
    let short : n < 32 = omega (arith, field_below (b ∷ more) 3 5) in
    let byte : b ≡ 0x40 + length (take n more) = omega (arith, first_is b more small) in
    record {
      within = omega arith;
      bytes = ap (λ k. take (1 + k) (b ∷ more)) long ∙ ap (λ k. take k (b ∷ more)) (one-add n) ∙ ap (λ x. x ∷ take n more) byte;
      placed = and_from (leb (length (take n more)) 31) _ (le-leb (length (take n more)) 31 (omega arith)) good;
      kept = tt;
      offset = refl;
      alone = λ z. cc;
    }

label-taken : (b : ℕ) (more : List ℕ) (p : Place) (i : Item) → b < 256 → field (b ∷ more) 0 3 ≡ 2 → as_label p.at (label_in (b ∷ more) p.after_row) ≡ Ok i
    → Taken (b ∷ more) p i
label-taken b more p i small kind e = by (label_in (b ∷ more) p.after_row) refl e
  where
    by : (r : Result (List ℕ) Refusal) → label_in (b ∷ more) p.after_row ≡ r → as_label p.at r ≡ Ok i → Taken (b ∷ more) p i
    by (Err f) g h = absurd cc
    by (Ok bytes) g h =
        let a = not_refused (ltb (length (b ∷ more)) (1 + field (b ∷ more) 3 5)) InputEnds _ bytes g in
        let d = admitted (good_label (take (field (b ∷ more) 3 5) more) p.after_row) BadLabel _ bytes a.1 in
        let same : take (field (b ∷ more) 3 5) more ≡ bytes = let z = d.1 in cc in
        let item : label (p.at + 1) bytes ≡ i = cc in
        subst (Taken (b ∷ more) p) (ap (label (p.at + 1)) same ∙ item)
        (label-made b more p (field (b ∷ more) 3 5) small kind refl (ltb-false (length (b ∷ more)) (1 + field (b ∷ more) 3 5) a.0) d.0)

end-taken : (b : ℕ) (more : List ℕ) (p : Place) (i : Item) → b < 256 → field (b ∷ more) 0 3 ≡ 3 → as_end (end_in (b ∷ more) p.rows) ≡ Ok i → Taken (b ∷ more) p i
end-taken b more p i small kind e = by (end_in (b ∷ more) p.rows) refl e
  where
    by : (r : Result (Unit {0}) Refusal) → end_in (b ∷ more) p.rows ≡ r → as_end r ≡ Ok i → Taken (b ∷ more) p i
    by (Err f) g h = absurd cc
    by (Ok u) g h =
        let a = admitted (eqb (field (b ∷ more) 3 5 + 1) p.rows) WrongCount _ u g in
        let d = not_refused (ltb 1 (length (b ∷ more))) AfterEnd _ u a.1 in
        let count : field (b ∷ more) 3 5 + 1 ≡ p.rows = eqb-true (field (b ∷ more) 3 5 + 1) p.rows a.0 in
        let one : length (b ∷ more) ≤ 1 = ltb-false 1 (length (b ∷ more)) d.0 in
        let item : end ≡ i = cc in
        let byte : b ≡ 0x60 + (p.rows - 1) % 32 = omega (arith, first_is b more small, field_below (b ∷ more) 3 5) in
        subst (Taken (b ∷ more) p) item
        (record { within = omega arith; bytes = ap (λ x. x ∷ []) byte; placed = lt-ltb 0 p.rows (omega arith); kept = tt; offset = tt; alone = λ z. omega arith })

-- every record that is read
pub taken : (rest : List ℕ) (p : Place) (i : Item) → ((k : ℕ) → get_or rest k 0 < 256) → record_in rest p.at p.rows p.after_row ≡ Ok i → Taken rest p i
taken [] p i small e = absurd cc
taken (x ∷ xs) p i small e =
    let kind : ℕ = field (x ∷ xs) 0 3 in
    by (eqb kind 0) (eqb kind 1) (eqb kind 2) (eqb kind 3) refl refl refl refl (not_refused (eqb (length (x ∷ xs)) 0) InputEnds _ i e).1
  where
    by : (a b c d : Bool) → eqb (field (x ∷ xs) 0 3) 0 ≡ a → eqb (field (x ∷ xs) 0 3) 1 ≡ b → eqb (field (x ∷ xs) 0 3) 2 ≡ c → eqb (field (x ∷ xs) 0 3) 3 ≡ d
        → cond a (as_row (helper_in (x ∷ xs) p.rows)) (cond b (as_row (track_in (x ∷ xs) p.rows))
        (cond c (as_label p.at (label_in (x ∷ xs) p.after_row)) (cond d (as_end (end_in (x ∷ xs) p.rows)) (Err UnknownKind)))) ≡ Ok i
        → Taken (x ∷ xs) p i
    by true b c d ea eb ec ed h = helper-taken (x ∷ xs) p i small (eqb-true (field (x ∷ xs) 0 3) 0 ea) h
    by false true c d ea eb ec ed h = track-taken (x ∷ xs) p i small (eqb-true (field (x ∷ xs) 0 3) 1 eb) h
    by false false true d ea eb ec ed h = label-taken x xs p i (small 0) (eqb-true (field (x ∷ xs) 0 3) 2 ec) h
    by false false false true ea eb ec ed h = end-taken x xs p i (small 0) (eqb-true (field (x ∷ xs) 0 3) 3 ed) h
    by false false false false ea eb ec ed h = absurd cc
