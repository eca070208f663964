-- Fields read back from the bytes of a number. Assumes nothing.
use Rattle.std.proofs.Common.{◌≡◌, ℕ, zero, suc, ◌+◌, ◌-◌, ◌*◌, ◌/◌, ◌%◌, ◌^◌, ◌<◌, ◌≤◌, List, ◌++◌, length, get_or, sym, ap, ◌∙◌, add-one, arith}
use Rattle.std.proofs.lemmas.Nat.{shr_high, mod_low, shr-shr, div_below, pow_pos}
use Rattle.std.proofs.lemmas.List.{get_or_append_left}
use Rattle.fields.specs.Fields.{bit_at, field, value_of}
use Rattle.fields.proofs.Digits.{value_same, field_more, field_join, field_below}
use Rattle.format.specs.Encoding.{big_endian}
use Rattle.format.proofs.Bytes.{length_big, get_d_big}

-- a field within the first of two lists is that list's field
pub field_front : (bs more : List ℕ) (o w : ℕ) → o + w ≤ 8 * length bs → field (bs ++ more) o w ≡ field bs o w
field_front bs more o w h = value_same (λ i. bit_at (bs ++ more) (o + i)) (λ i. bit_at bs (o + i)) w each
  where
    each : (i : ℕ) → i < w → bit_at (bs ++ more) (o + i) ≡ bit_at bs (o + i)
    each i l =
        let inside : (o + i) / 8 < length bs = omega arith in
        ap (λ b. b / 2 ^ (7 - (o + i) % 8) % 2) (get_or_append_left bs more 0 ((o + i) / 8) inside)

-- a number that ends in a field, and what stands before it
pub last_field : (bs : List ℕ) (o w n v : ℕ) → field bs 0 (o + w) ≡ n * 2 ^ w + v → v < 2 ^ w → (field bs 0 o ≡ n) × (field bs o w ≡ v)
last_field bs o w n v e h =
    let both : field bs 0 o * 2 ^ w + field bs o w ≡ n * 2 ^ w + v = sym (field_join bs o w) ∙ e in (
      sym (shr_high (field bs 0 o) w (field bs o w) (field_below bs o w)) ∙ ap (λ z. z / 2 ^ w) both ∙ shr_high n w v h,
      sym (mod_low (field bs 0 o) w (field bs o w) (field_below bs o w)) ∙ ap (λ z. z % 2 ^ w) both ∙ mod_low n w v h,
    )

-- the first k of the n bytes of a number are the number without its last 8 * (n - k) bits
big_front : (n v k : ℕ) → v < 2 ^ (8 * n) → k ≤ n → field (big_endian n v) 0 (8 * k) ≡ v / 2 ^ (8 * (n - k))
unfolding value_of
big_front n v zero small h =
    let none : v / 2 ^ (8 * n) < 1 = div_below v (2 ^ (8 * n)) 1 (pow_pos (8 * n)) (omega arith) in
    let whole : n ≡ n - 0 = omega arith in
    let zeros : 0 ≡ v / 2 ^ (8 * n) = omega arith in
    zeros ∙ ap (λ k. v / 2 ^ (8 * k)) whole
big_front n v (suc k) small h =
    let front = big_front n v k small (omega arith) in
    let y : ℕ = v / 2 ^ (8 * (n - suc k)) in
    let bits : 8 * (n - suc k) + 8 ≡ 8 * (n - k) = omega arith in
    let high : y / 2 ^ 8 ≡ v / 2 ^ (8 * (n - k)) = shr-shr v (8 * (n - suc k)) 8 ∙ ap (λ m. v / 2 ^ m) bits in
    let byte : get_or (big_endian n v) k 0 ≡ y % 256 = get_d_big n v k h in
    let more = field_more (big_endian n v) k (omega arith) in
    ap (λ m. field (big_endian n v) 0 (8 * m)) (sym (add-one k)) ∙ more ∙ omega arith

-- the bytes of a number are the number
pub big_field : (n v : ℕ) → v < 2 ^ (8 * n) → field (big_endian n v) 0 (8 * n) ≡ v
big_field n v small =
    let none : n - n ≡ 0 = omega arith in
    big_front n v n small (omega arith) ∙ ap (λ k. v / 2 ^ (8 * k)) none ∙ omega arith

-- and so with more bytes behind them
pub big_more : (n v : ℕ) (more : List ℕ) → v < 2 ^ (8 * n) → field (big_endian n v ++ more) 0 (8 * n) ≡ v
big_more n v more small = field_front (big_endian n v) more 0 (8 * n) (omega (arith, length_big n v)) ∙ big_field n v small
