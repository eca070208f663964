-- A field written to the bytes that hold it: what it reads back, and what stays. Assumes nothing.
use Rattle.std.proofs.Common.{◌≡◌, ℕ, ◌+◌, ◌-◌, ◌*◌, ◌/◌, ◌%◌, ◌^◌, ◌<◌, ◌≤◌, List, length, get_or, take, drop, sym, ap, ◌∙◌, ⊎_elim, add-zero, arith, rules}
use borrow.Rule.Slice.PartMut.{put_mid}
use Rattle.std.proofs.lemmas.List.{length-take, length-drop, places}
use Rattle.std.proofs.lemmas.Slice.{between-put_mid}
use Rattle.std.proofs.lemmas.Bool.{cases_lt}
use Rattle.fields.specs.Fields.{bit_at, field, with_field, Packed}
use Rattle.fields.proofs.Digits.{bit_part, field_part, same_bits}
use Rattle.fields.proofs.Packing.{with_field-behind, with_field-inside, with_field-before, field-behind, field-inside, field-before}

-- the bytes that hold the field of w bits at bit o, and the bits before and behind it in them
module _ (bs : List ℕ) (o w first past : ℕ) (f : first ≡ o / 8) (p : past ≡ (o + w + 7) / 8) (within : o + w ≤ 8 * length bs) where
  pub part_long : length (take (past - first) (drop first bs)) ≡ past - first
  part_long = simp (length-take, length-drop) (omega arith)

  pub part_bits : 8 * length (take (past - first) (drop first bs)) ≡ ((o - 8 * first) + w) + (8 * past - (o + w))
  part_bits = omega (arith, part_long)

  -- their bits, as a field of the whole and as the field of all their bits
  pub part_number : field bs (8 * first) (8 * (past - first)) ≡ field (take (past - first) (drop first bs)) 0 (8 * length (take (past - first) (drop first bs)))
  part_number =
      sym (ap (λ k. field (take (past - first) (drop first bs)) 0 (8 * k)) part_long
      ∙ field_part bs first (past - first) 0 (8 * (past - first)) (omega arith) ∙ ap (λ k. field bs k (8 * (past - first))) (add-zero (8 * first)))

module _ (bs ps : List ℕ) (o w v first past : ℕ) (f : first ≡ o / 8) (p : past ≡ (o + w + 7) / 8) (within : o + w ≤ 8 * length bs) (fits : v < 2 ^ w) (long : length ps ≡ length (take (past - first) (drop first bs)))
    (stored : field ps 0 (8 * length (take (past - first) (drop first bs)))
    ≡ with_field (field (take (past - first) (drop first bs)) 0 (8 * length (take (past - first) (drop first bs)))) (8 * past - (o + w)) w v) where
  n : ℕ
  n = past - first

  lead : ℕ
  lead = o - 8 * first

  tail : ℕ
  tail = 8 * past - (o + w)

  part : List ℕ
  part = take (past - first) (drop first bs)

  -- the new list
  after : List ℕ
  after = put_mid first (past - first) bs ps

  number : field ps 0 ((lead + w) + tail) ≡ with_field (field part 0 ((lead + w) + tail)) tail w v
  unfolding part lead tail
  number =
      let e = part_bits bs o w first past f p within in
      rw (← e) stored

  inside_part : field ps lead w ≡ v
  inside_part =
      sym (field-inside ps lead w tail) ∙ ap (λ z. z / 2 ^ tail % 2 ^ w) number ∙ with_field-inside (field part 0 ((lead + w) + tail)) tail w v fits

  before_part : field ps 0 lead ≡ field part 0 lead
  before_part =
      sym (field-before ps lead w tail) ∙ ap (λ z. z / 2 ^ tail / 2 ^ w) number
      ∙ with_field-before (field part 0 ((lead + w) + tail)) tail w v fits ∙ field-before part lead w tail

  behind_part : field ps (lead + w) tail ≡ field part (lead + w) tail
  behind_part =
      sym (field-behind ps lead w tail) ∙ ap (λ z. z % 2 ^ tail) number
      ∙ with_field-behind (field part 0 ((lead + w) + tail)) tail w v fits ∙ field-behind part lead w tail

  -- the bytes that hold the field are ps now, and all others are as they were
  part_after : take (past - first) (drop first after) ≡ ps
  unfolding after
  part_after = between-put_mid first (past - first) bs ps past (omega arith) (omega (arith, long, part_long bs o w first past f p within))

  byte_before : (k : ℕ) → k < first → get_or after k 0 ≡ get_or bs k 0
  unfolding after
  byte_before k h = search (rules, places)

  byte_behind : (k : ℕ) → past ≤ k → get_or after k 0 ≡ get_or bs k 0
  unfolding after
  byte_behind k h = search (rules, places)

  bit_of_byte : (q : ℕ) → get_or after (q / 8) 0 ≡ get_or bs (q / 8) 0 → bit_at after q ≡ bit_at bs q
  bit_of_byte q e = ap (λ b. b / 2 ^ (7 - q % 8) % 2) e

  -- bit j of the bytes that hold the field, where ps and the old bytes agree
  bit_kept : (j : ℕ) → j < 8 * (past - first) → bit_at ps j ≡ bit_at part j → bit_at after (8 * first + j) ≡ bit_at bs (8 * first + j)
  unfolding part
  bit_kept j h e =
      sym (bit_part after first (past - first) j h) ∙ ap (λ l. bit_at l j) part_after ∙ e ∙ bit_part bs first (past - first) j h

  before-field : (q : ℕ) → q < o → bit_at after q ≡ bit_at bs q
  unfolding lead
  before-field q h = ⊎_elim outside here (cases_lt q (8 * first))
    where
      outside : q < 8 * first → bit_at after q ≡ bit_at bs q
      outside l = bit_of_byte q (byte_before (q / 8) (omega arith))

      here : 8 * first ≤ q → bit_at after q ≡ bit_at bs q
      here l =
          let j : ℕ = q - 8 * first in
          let e : bit_at ps (0 + j) ≡ bit_at part (0 + j) = same_bits ps part 0 lead j before_part (omega arith) in
          let at : 8 * first + (0 + j) ≡ q = omega arith in
          rw at at (bit_kept (0 + j) (omega arith) e)

  behind-field : (q : ℕ) → o + w ≤ q → bit_at after q ≡ bit_at bs q
  unfolding lead tail
  behind-field q h = ⊎_elim here outside (cases_lt q (8 * past))
    where
      outside : 8 * past ≤ q → bit_at after q ≡ bit_at bs q
      outside l = bit_of_byte q (byte_behind (q / 8) (omega arith))

      here : q < 8 * past → bit_at after q ≡ bit_at bs q
      here l =
          let i : ℕ = q - (o + w) in
          let e : bit_at ps ((lead + w) + i) ≡ bit_at part ((lead + w) + i) = same_bits ps part (lead + w) tail i behind_part (omega arith) in
          let at : 8 * first + ((lead + w) + i) ≡ q = omega arith in
          rw at at (bit_kept ((lead + w) + i) (omega arith) e)

  inside-field : field after o w ≡ v
  unfolding lead
  inside-field =
      let at : 8 * first + lead ≡ o = omega arith in
      ap (λ k. field after k w) (sym at) ∙ sym (field_part after first (past - first) lead w (omega arith)) ∙ ap (λ l. field l lead w) part_after ∙ inside_part

  pub packed : Packed bs (put_mid first (past - first) bs ps) o w v
  unfolding after
  packed =
      record {
        long = search (rules, places);
        inside = inside-field;
        before = before-field;
        behind = behind-field;
      }
