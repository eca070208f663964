-- Fields packed one behind the other. Assumes nothing.
use Rattle.std.proofs.Common.{◌≡◌, ℕ, ◌+◌, ◌-◌, ◌*◌, ◌^◌, ◌<◌, ◌≤◌, List, ◌++◌, length, get_or, take, drop, sym, refl, ap, ◌∙◌, ap₂, arith}
use Rattle.std.proofs.lemmas.List.{ext_get_or, get_or-drop, length-drop, take-append-drop, take_all}
use Rattle.std.proofs.lemmas.List.Sums.{fold_more, sum_by-take-le}
use Rattle.fields.specs.Fields.{bit_at, field, value_of, Packed}
use Rattle.fields.proofs.Digits.{value_same, field_join}
use Rattle.format.specs.Encoding.{number_of, bits_of, big_endian}
use Rattle.format.proofs.Bytes.{bytes_of_field, same_byte}

-- the first i fields are packed: they are the bits before o, and the bits from o on are as they were
pub record Filling (old new : List ℕ) (fields : List (ℕ × ℕ)) (i o : ℕ) : Type 0 where
  pub offset : o ≡ bits_of (take i fields)
  pub long : length new ≡ length old
  pub number : field new 0 o ≡ number_of (take i fields)
  pub later : (p : ℕ) → o ≤ p → bit_at new p ≡ bit_at old p
  pub bytes_old : (k : ℕ) → get_or old k 0 < 256
  pub bytes_new : (k : ℕ) → get_or new k 0 < 256

pub fill_none : (bs : List ℕ) (fields : List (ℕ × ℕ)) → ((k : ℕ) → get_or bs k 0 < 256) → Filling bs bs fields 0 0
unfolding value_of
fill_none bs fields small = record { offset = refl; long = refl; number = refl; later = λ p h. refl; bytes_old = small; bytes_new = small }

pub fill_more : (old new after : List ℕ) (fields : List (ℕ × ℕ)) (i o : ℕ) (d : ℕ × ℕ) → i < length fields → Filling old new fields i o
    → Packed new after o (get_or fields i d).0 (get_or fields i d).1 → ((k : ℕ) → get_or after k 0 < 256) → Filling old after fields (i + 1) (o + (get_or fields i d).0)
fill_more old new after fields i o d h f p small =
    record {
      offset = ap (λ n. n + (get_or fields i d).0) f.offset ∙ sym (fold_more (λ n f. n + f.0) 0 fields i d h);
      long = p.long ∙ f.long;
      number =
          field_join after o (get_or fields i d).0 ∙ omega (arith, ap (λ n. n * 2 ^ (get_or fields i d).0) (kept ∙ f.number), p.inside)
          ∙ sym (fold_more (λ n f. n * 2 ^ f.0 + f.1) 0 fields i d h);
      later = λ q l. p.behind q l ∙ f.later q (omega arith);
      bytes_old = f.bytes_old;
      bytes_new = small;
    }
  where
    kept : field after 0 o ≡ field new 0 o
    kept = value_same (λ k. bit_at after (0 + k)) (λ k. bit_at new (0 + k)) o (λ k l. p.before (0 + k) (omega arith))

-- a field that is packed stands within the bits of all
pub fill_within : (old new : List ℕ) (fields : List (ℕ × ℕ)) (i o : ℕ) (d : ℕ × ℕ) → i < length fields → Filling old new fields i o → o + (get_or fields i d).0 ≤ bits_of fields
fill_within old new fields i o d h f =
    omega (arith, f.offset, fold_more (λ n f. n + f.0) 0 fields i d h, sum_by-take-le (λ (f : ℕ × ℕ). f.0) fields (i + 1))

-- all fields are packed: the bytes that they take are those of their number, and the others are as they were
pub fill_all : (old new : List ℕ) (fields : List (ℕ × ℕ)) (i o size : ℕ) → length fields ≤ i → bits_of fields ≡ 8 * size → size ≤ length old
    → Filling old new fields i o → new ≡ big_endian size (number_of fields) ++ drop size old
fill_all old new fields i o size h whole within f =
    sym (take-append-drop size new) ∙ ap₂ ◌++◌ front behind
  where
    all : take i fields ≡ fields
    all = take_all i fields h

    bits : o ≡ 8 * size
    bits = f.offset ∙ ap bits_of all ∙ whole

    number : field new 0 (8 * size) ≡ number_of fields
    number = ap (field new 0) (sym bits) ∙ f.number ∙ ap number_of all

    front : take size new ≡ big_endian size (number_of fields)
    front = bytes_of_field new size f.bytes_new (omega (arith, f.long)) ∙ ap (big_endian size) number

    behind : drop size new ≡ drop size old
    behind =
        ext_get_or 0 (drop size new) (drop size old) (rw (length-drop size new, length-drop size old) (ap (λ n. n - size) f.long))
        (λ k l. get_or-drop size new k 0 ∙ same_byte new old (size + k) (f.bytes_new _) (f.bytes_old _) (λ j m. f.later _ (omega (arith, bits))) ∙ sym (get_or-drop size old k 0))
