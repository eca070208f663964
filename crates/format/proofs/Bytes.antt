-- Numbers as bytes. Assumes nothing.
use Rattle.std.proofs.Common.{◌≡◌, ℕ, zero, suc, ◌+◌, ◌-◌, ◌*◌, ◌/◌, ◌%◌, ◌^◌, ◌<◌, ◌≤◌, List, length, get_or, take, sym, refl, ap, ◌∙◌, zero-add, arith}
use Rattle.std.proofs.lemmas.List.{ext_get_or, get_or-take, length-take}
use Rattle.fields.specs.Fields.{bit_at, field}
use Rattle.fields.proofs.Digits.{value_same, field_byte, field_cut}
use Rattle.format.specs.Encoding.{big_endian}

pub length_big : (n v : ℕ) → length (big_endian n v) ≡ n
unfolding big_endian
length_big zero v = refl
length_big (suc n) v = ap suc (length_big n v)

pub get_d_big : (n v k : ℕ) → k < n → get_or (big_endian n v) k 0 ≡ v / 2 ^ (8 * (n - suc k)) % 256
unfolding big_endian
get_d_big zero v k h = absurd (omega arith)
get_d_big (suc n) v zero h = let e : n ≡ suc n - 1 = omega arith in ap (λ m. v / 2 ^ (8 * m) % 256) e
get_d_big (suc n) v (suc k) h =
    let e : n - suc k ≡ suc n - suc (suc k) = omega arith in
    get_d_big n v k (omega arith) ∙ ap (λ m. v / 2 ^ (8 * m) % 256) e

-- the first n bytes are the number of their bits
pub bytes_of_field : (bs : List ℕ) (n : ℕ) → ((k : ℕ) → get_or bs k 0 < 256) → n ≤ length bs → take n bs ≡ big_endian n (field bs 0 (8 * n))
bytes_of_field bs n small h = ext_get_or 0 (take n bs) (big_endian n (field bs 0 (8 * n))) long each
  where
    long : length (take n bs) ≡ length (big_endian n (field bs 0 (8 * n)))
    long = rw (length-take n bs, length_big n (field bs 0 (8 * n))) (omega arith)

    each : (k : ℕ) → k < length (take n bs) → get_or (take n bs) k 0 ≡ get_or (big_endian n (field bs 0 (8 * n))) k 0
    each k l =
        let below : k < n = omega (arith, length-take n bs) in
        let bits : 8 * n ≡ (8 * k + 8) + 8 * (n - suc k) = omega arith in
        let byte : field bs 0 (8 * n) / 2 ^ (8 * (n - suc k)) % 256 ≡ get_or bs k 0 =
        ap (λ m. field bs 0 m / 2 ^ (8 * (n - suc k)) % 256) bits ∙ field_cut bs 0 (8 * k) 8 (8 * (n - suc k))
        ∙ ap (λ o. field bs o 8) (zero-add (8 * k)) ∙ field_byte bs k (small k) in
        get_or-take n bs k 0 below ∙ sym byte ∙ sym (get_d_big n (field bs 0 (8 * n)) k below)

-- bytes whose bits are the same are the same
pub same_byte : (cs bs : List ℕ) (k : ℕ) → get_or cs k 0 < 256 → get_or bs k 0 < 256 → ((i : ℕ) → i < 8 → bit_at cs (8 * k + i) ≡ bit_at bs (8 * k + i)) → get_or cs k 0 ≡ get_or bs k 0
same_byte cs bs k a b h =
    sym (field_byte cs k a) ∙ value_same (λ i. bit_at cs (8 * k + i)) (λ i. bit_at bs (8 * k + i)) 8 h ∙ field_byte bs k b
