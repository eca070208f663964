-- A field written into a number, and the number into bytes. Assumes nothing.
use Rattle.std.proofs.Common.{◌≡◌, ℕ, ◌+◌, ◌-◌, ◌*◌, ◌/◌, ◌%◌, ◌^◌, ◌<◌, ◌≤◌, List, ap, ◌∙◌, add-mul, arith}
use lib.Arith.{digits_lt}
use lib.Bits.{bit_and}
use Rattle.std.proofs.lemmas.Nat.{shr_split, and_mask, one_shl, shl_whole, mod_below, pow_pos, pow-add, shr_high, mod_low, shr_below}
use Rattle.fields.specs.Fields.{field, with_field}
use Rattle.fields.proofs.Digits.{field_join, field_below}

-- a number is what stands before the field, the field, and what stands behind
pub number_parts : (n t w : ℕ) → n ≡ n / 2 ^ t / 2 ^ w * 2 ^ w * 2 ^ t + n / 2 ^ t % 2 ^ w * 2 ^ t + n % 2 ^ t
number_parts n t w =
    let y : ℕ = n / 2 ^ t in
    let split : (y / 2 ^ w * 2 ^ w + y % 2 ^ w) * 2 ^ t ≡ y * 2 ^ t = ap (λ z. z * 2 ^ t) (shr_split y w) in
    omega (arith, shr_split n t, add-mul (y / 2 ^ w * 2 ^ w) (y % 2 ^ w) (2 ^ t))

-- the field that stands there, as the code takes it out
pub old_field : (n t w : ℕ) → w < 64 → w + t ≤ 64 → (bit_and (n / 2 ^ t) ((1 * 2 ^ w) % 2 ^ 64 - 1) * 2 ^ t) % 2 ^ 64 ≡ n / 2 ^ t % 2 ^ w * 2 ^ t
old_field n t w h k =
    rw (one_shl w 64 h, and_mask (n / 2 ^ t) w) (shl_whole (n / 2 ^ t % 2 ^ w) w t 64 (mod_below (n / 2 ^ t) (2 ^ w) (pow_pos w)) k)

pub with_field_is : (n t w v : ℕ) → n - n / 2 ^ t % 2 ^ w * 2 ^ t + v * 2 ^ t ≡ with_field n t w v
with_field_is n t w v =
    let e = number_parts n t w in
    omega (arith, add-mul (n / 2 ^ t / 2 ^ w * 2 ^ w) v (2 ^ t))

-- what stands behind, in and before the field of the new number
module _ (n t w v : ℕ) (fits : v < 2 ^ w) where
  low : n % 2 ^ t < 2 ^ t
  low = mod_below n (2 ^ t) (pow_pos t)

  pub with_field-behind : with_field n t w v % 2 ^ t ≡ n % 2 ^ t
  with_field-behind = mod_low (n / 2 ^ t / 2 ^ w * 2 ^ w + v) t (n % 2 ^ t) low

  with_field_high : with_field n t w v / 2 ^ t ≡ n / 2 ^ t / 2 ^ w * 2 ^ w + v
  with_field_high = shr_high (n / 2 ^ t / 2 ^ w * 2 ^ w + v) t (n % 2 ^ t) low

  pub with_field-inside : with_field n t w v / 2 ^ t % 2 ^ w ≡ v
  with_field-inside = ap (λ z. z % 2 ^ w) with_field_high ∙ mod_low (n / 2 ^ t / 2 ^ w) w v fits

  pub with_field-before : with_field n t w v / 2 ^ t / 2 ^ w ≡ n / 2 ^ t / 2 ^ w
  with_field-before = ap (λ z. z / 2 ^ w) with_field_high ∙ shr_high (n / 2 ^ t / 2 ^ w) w v fits

  pub with_field_below : (lead : ℕ) → n < 2 ^ ((lead + w) + t) → with_field n t w v < 2 ^ ((lead + w) + t)
  with_field_below lead h =
      let high : n / 2 ^ t < 2 ^ (lead + w) = shr_below n (lead + w) t h in
      let top : n / 2 ^ t / 2 ^ w < 2 ^ lead = shr_below (n / 2 ^ t) lead w high in
      let upper : n / 2 ^ t / 2 ^ w * 2 ^ w + v < 2 ^ lead * 2 ^ w = digits_lt top fits in
      rw (pow-add 2 (lead + w) t, pow-add 2 lead w) (digits_lt upper low)

-- the bits of a list: before a field, in it, and behind it
module _ (bs : List ℕ) (lead w t : ℕ) where
  pub field-behind : field bs 0 ((lead + w) + t) % 2 ^ t ≡ field bs (lead + w) t
  field-behind = ap (λ z. z % 2 ^ t) (field_join bs (lead + w) t) ∙ mod_low (field bs 0 (lead + w)) t (field bs (lead + w) t) (field_below bs (lead + w) t)

  field_high : field bs 0 ((lead + w) + t) / 2 ^ t ≡ field bs 0 lead * 2 ^ w + field bs lead w
  field_high = ap (λ z. z / 2 ^ t) (field_join bs (lead + w) t) ∙ shr_high (field bs 0 (lead + w)) t (field bs (lead + w) t) (field_below bs (lead + w) t) ∙ field_join bs lead w

  pub field-inside : field bs 0 ((lead + w) + t) / 2 ^ t % 2 ^ w ≡ field bs lead w
  field-inside = ap (λ z. z % 2 ^ w) field_high ∙ mod_low (field bs 0 lead) w (field bs lead w) (field_below bs lead w)

  pub field-before : field bs 0 ((lead + w) + t) / 2 ^ t / 2 ^ w ≡ field bs 0 lead
  field-before = ap (λ z. z / 2 ^ w) field_high ∙ shr_high (field bs 0 lead) w (field bs lead w) (field_below bs lead w)
