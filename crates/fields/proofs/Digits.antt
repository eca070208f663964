-- Laws of numbers given by their binary digits, for every number of digits. Assumes nothing.
use Rattle.std.proofs.Common.{◌≡◌, ℕ, zero, suc, ◌+◌, ◌-◌, ◌*◌, ◌/◌, ◌%◌, ◌^◌, ◌<◌, ◌≤◌, List, get_or, take, drop, sym, refl, ap, ◌∙◌, add-zero, add_assoc, add-suc, mul_assoc, pow-suc, zero-add, add-one, arith, lit≤, lit<}
use Rattle.std.proofs.Math.Nat.{mod-eq_of_lt}
use Rattle.std.proofs.lemmas.List.{get_or-take, get_or-drop}
use Rattle.std.proofs.lemmas.Nat.{pow-add, from_be_bytes-to_be_bytes_8, shr_high, mod_low, mod-pow-add, shr-shr}
use Rattle.std.specs.Int.{w64, to_be_bytes, from_be_bytes, bytes_high_first}
use Rattle.fields.specs.Fields.{bit_at, value_of, field}

-- digits that agree give the same number
pub value_same : (f g : ℕ → ℕ) (w : ℕ) → ((i : ℕ) → i < w → f i ≡ g i) → value_of f w ≡ value_of g w
unfolding value_of
value_same f g zero h = refl
value_same f g (suc w) h =
    let front = value_same f g w (λ i l. h i (omega arith)) in
    let last = h w (omega arith) in
    omega arith

-- w binary digits make a number below 2 ^ w
pub value_below : (f : ℕ → ℕ) (w : ℕ) → ((i : ℕ) → f i < 2) → value_of f w < 2 ^ w
unfolding value_of
value_below f zero h = omega arith
value_below f (suc w) h =
    let front = value_below f w h in
    let last = h w in
    omega (arith, pow-add 2 w 1)

-- the first a digits, then b more
pub value_split : (f : ℕ → ℕ) (a b : ℕ) → value_of f (a + b) ≡ value_of f a * 2 ^ b + value_of (λ i. f (a + i)) b
unfolding value_of
value_split f a zero = rw (add-zero a) (omega arith)
value_split f a (suc b) =
    let front = value_split f a b in
    rw (add-suc, pow-suc, ← mul_assoc) (omega arith)

-- the first w of the n low binary digits of x
value_of_digits : (x n w : ℕ) → w ≤ n → value_of (λ i. x / 2 ^ (n - suc i) % 2) w ≡ x / 2 ^ (n - w) % 2 ^ w
unfolding value_of
value_of_digits x n zero h = omega arith
value_of_digits x n (suc w) h =
    let front = value_of_digits x n w (omega arith) in
    let y : ℕ = x / 2 ^ (n - suc w) in
    let e : (n - suc w) + 1 ≡ n - w = omega arith in
    let halved : y / 2 ^ 1 ≡ x / 2 ^ (n - w) = shr-shr x (n - suc w) 1 ∙ ap (λ k. x / 2 ^ k) e in
    let rest : y / 2 ^ 1 % 2 ^ w ≡ x / 2 ^ (n - w) % 2 ^ w = ap (λ z. z % 2 ^ w) halved in
    let whole : y % 2 ^ suc w ≡ y % 2 ^ (w + 1) = ap (λ k. y % 2 ^ k) (sym (add-one w)) in
    omega (arith, mod-pow-add y w 1)

-- a cut: what is left of a field between its first `lead` bits and its last `tail` bits
pub value_cut : (f : ℕ → ℕ) → ((i : ℕ) → f i < 2) → (lead w tail : ℕ) → value_of f ((lead + w) + tail) / 2 ^ tail % 2 ^ w ≡ value_of (λ i. f (lead + i)) w
value_cut f bit lead w tail =
    rw (value_split f (lead + w) tail, shr_high (value_of f (lead + w)) tail _ (value_below (λ i. f ((lead + w) + i)) tail (λ i. bit _)), value_split f lead w)
    (mod_low (value_of f lead) w _ (value_below (λ i. f (lead + i)) w (λ i. bit _)))

-- bits

pub bit_below : (bs : List ℕ) (p : ℕ) → bit_at bs p < 2
bit_below bs p = omega arith

-- the eight bits of byte k are the byte
pub field_byte : (bs : List ℕ) (k : ℕ) → get_or bs k 0 < 256 → field bs (8 * k) 8 ≡ get_or bs k 0
field_byte bs k small =
    value_same (λ i. bit_at bs (8 * k + i)) (λ i. get_or bs k 0 / 2 ^ (8 - suc i) % 2) 8 each
    ∙ value_of_digits (get_or bs k 0) 8 8 (lit≤ tt) ∙ omega arith
  where
    each : (i : ℕ) → i < 8 → bit_at bs (8 * k + i) ≡ get_or bs k 0 / 2 ^ (8 - suc i) % 2
    each i h =
        let q : (8 * k + i) / 8 ≡ k = omega arith in
        let r : 7 - (8 * k + i) % 8 ≡ 8 - suc i = omega arith in
        rw (q, r) refl

-- n bytes from byte a on, and one more
pub field_next : (bs : List ℕ) (a n : ℕ) → get_or bs (a + n) 0 < 256 → field bs (8 * a) (8 * (n + 1)) ≡ field bs (8 * a) (8 * n) * 256 + get_or bs (a + n) 0
field_next bs a n small =
    let bit : ℕ → ℕ = λ i. bit_at bs (8 * a + i) in
    let count : 8 * (n + 1) ≡ 8 * n + 8 = omega arith in
    let last : value_of (λ i. bit (8 * n + i)) 8 ≡ field bs (8 * (a + n)) 8 =
    value_same (λ i. bit (8 * n + i)) (λ i. bit_at bs (8 * (a + n) + i)) 8 (λ i h. ap (bit_at bs) (omega arith)) in
    rw count (omega (arith, value_split bit (8 * n) 8, last, field_byte bs (a + n) small))

-- the first n bytes, and one more
pub field_more : (bs : List ℕ) (n : ℕ) → get_or bs n 0 < 256 → field bs 0 (8 * (n + 1)) ≡ field bs 0 (8 * n) * 256 + get_or bs n 0
field_more bs n small =
    let e : 0 + n ≡ n = zero-add n in
    rw e at (field_next bs 0 n (rw e small))

-- a field of w bits is below 2 ^ w
pub field_below : (bs : List ℕ) (o w : ℕ) → field bs o w < 2 ^ w
field_below bs o w = value_below (λ i. bit_at bs (o + i)) w (λ i. bit_below bs (o + i))

-- the first a bits, and then a field
pub field_join : (bs : List ℕ) (a w : ℕ) → field bs 0 (a + w) ≡ field bs 0 a * 2 ^ w + field bs a w
field_join bs a w =
    value_split (λ i. bit_at bs (0 + i)) a w
    ∙ ap (λ z. field bs 0 a * 2 ^ w + z) (value_same _ _ w (λ i h. ap (bit_at bs) (zero-add (a + i))))

-- a field cut out of a wider one
pub field_cut : (bs : List ℕ) (o lead w tail : ℕ) → field bs o ((lead + w) + tail) / 2 ^ tail % 2 ^ w ≡ field bs (o + lead) w
field_cut bs o lead w tail =
    value_cut (λ i. bit_at bs (o + i)) (λ i. bit_below bs (o + i)) lead w tail
    ∙ value_same _ _ w (λ i h. ap (bit_at bs) (sym (add_assoc o lead i)))

-- a bit of the rest of a list is the list's bit behind what was dropped
bit_from : (bs : List ℕ) (a j : ℕ) → bit_at (drop a bs) (0 + j) ≡ bit_at bs (8 * a + j)
bit_from bs a j =
    let byte : (8 * a + j) / 8 ≡ a + (0 + j) / 8 = omega arith in
    let bit : (8 * a + j) % 8 ≡ (0 + j) % 8 = omega arith in
    rw (byte, bit, get_or-drop) refl

-- a bit of a part of a list is the list's bit at that part
pub bit_part : (bs : List ℕ) (a n j : ℕ) → j < 8 * n → bit_at (take n (drop a bs)) j ≡ bit_at bs (8 * a + j)
bit_part bs a n j h =
    let inside : j / 8 < n = omega arith in
    let byte : (8 * a + j) / 8 ≡ a + j / 8 = omega arith in
    let bit : (8 * a + j) % 8 ≡ j % 8 = omega arith in
    rw (byte, bit, get_or-take, get_or-drop) refl

-- and so with a field
pub field_part : (bs : List ℕ) (a n o w : ℕ) → o + w ≤ 8 * n → field (take n (drop a bs)) o w ≡ field bs (8 * a + o) w
field_part bs a n o w h =
    value_same (λ i. bit_at (take n (drop a bs)) (o + i)) (λ i. bit_at bs (8 * a + o + i)) w
    (λ i l. bit_part bs a n (o + i) (omega arith) ∙ ap (bit_at bs) (sym (add_assoc (8 * a) o i)))

-- each bit of a field is a digit of its number
pub bit_of_field : (bs : List ℕ) (o w i : ℕ) → i < w → bit_at bs (o + i) ≡ field bs o w / 2 ^ (w - suc i) % 2
unfolding value_of
bit_of_field bs o w i h =
    let all : w ≡ (i + 1) + (w - suc i) = omega arith in
    let cut = value_cut (λ k. bit_at bs (o + k)) (λ k. bit_below bs (o + k)) i 1 (w - suc i) in
    sym (ap (λ n. field bs o n / 2 ^ (w - suc i) % 2) all ∙ cut ∙ rw (add-zero i) (omega arith))

-- two lists with the same field have the same bits there
pub same_bits : (cs bs : List ℕ) (o w i : ℕ) → field cs o w ≡ field bs o w → i < w → bit_at cs (o + i) ≡ bit_at bs (o + i)
same_bits cs bs o w i e h = bit_of_field cs o w i h ∙ ap (λ v. v / 2 ^ (w - suc i) % 2) e ∙ sym (bit_of_field bs o w i h)

-- eight bytes are the number that they are read as
pub field_eight : (bs : List ℕ) → ((k : ℕ) → get_or bs k 0 < 256) → field bs 0 64 ≡ from_be_bytes w64 bs
unfolding value_of
field_eight bs small =
    omega (arith, field_more bs 0 (small 0), field_more bs 1 (small 1), field_more bs 2 (small 2), field_more bs 3 (small 3), field_more bs 4 (small 4), field_more bs 5 (small 5), field_more bs 6 (small 6), field_more bs 7 (small 7))

byte_small : (n v k : ℕ) → get_or (bytes_high_first n v) k 0 < 256
byte_small zero v k = omega arith
byte_small (suc zero) v zero = omega arith
byte_small (suc (suc n)) v zero = omega arith
byte_small (suc n) v (suc k) = byte_small n v k

-- and more bytes behind them change nothing
pub field_front : (bs : List ℕ) → ((k : ℕ) → get_or bs k 0 < 256) → from_be_bytes w64 (take 8 bs) ≡ field bs 0 64
field_front bs small =
    let front : (k : ℕ) → k < 8 → get_or (take 8 bs) k 0 ≡ get_or bs k 0 = λ k. get_or-take 8 bs k 0 in
    omega (arith, field_eight bs small, front 0 (lit< tt), front 1 (lit< tt), front 2 (lit< tt), front 3 (lit< tt), front 4 (lit< tt), front 5 (lit< tt), front 6 (lit< tt), front 7 (lit< tt))

-- the last n bytes of a number are the number, if it is small enough
pub field_last : (v n : ℕ) → n ≤ 8 → v < 2 ^ (8 * n) → v < 2 ^ 64 → field (drop (8 - n) (to_be_bytes w64 v)) 0 (8 * n) ≡ v
field_last v n h small fits =
    let bytes = to_be_bytes w64 v in
    let whole : field bytes 0 (8 * (8 - n) + 8 * n) ≡ v =
    ap (field bytes 0) (omega arith) ∙ field_eight bytes (byte_small 8 v) ∙ from_be_bytes-to_be_bytes_8 v fits in
    let part : field (drop (8 - n) bytes) 0 (8 * n) ≡ field bytes (8 * (8 - n)) (8 * n) =
    value_same _ _ (8 * n) (λ i l. bit_from bytes (8 - n) i) in
    part ∙ sym (mod_low (field bytes 0 (8 * (8 - n))) (8 * n) _ (field_below bytes (8 * (8 - n)) (8 * n)))
    ∙ ap (λ z. z % 2 ^ (8 * n)) (sym (field_join bytes (8 * (8 - n)) (8 * n)) ∙ whole) ∙ mod-eq_of_lt small

-- five of the eight bytes from byte a on
pub field_five : (bs : List ℕ) (a : ℕ) → field (drop a bs) 0 64 / 2 ^ 24 ≡ field bs (8 * a) 40
field_five bs a =
    let digit : ℕ → ℕ = λ i. bit_at bs (8 * a + i) in
    ap (λ v. v / 2 ^ 24) (value_same _ digit 64 (λ i l. bit_from bs a i) ∙ value_split digit 40 24)
    ∙ shr_high (field bs (8 * a) 40) 24 _ (value_below (λ i. digit (40 + i)) 24 (λ i. bit_below bs (8 * a + (40 + i))))

-- the bytes that hold a field, as one number, with what stands behind and before the field cut off
pub field_from_bytes : (bs : List ℕ) (o w first past v : ℕ) → first ≡ o / 8 → past ≡ (o + w + 7) / 8
    → v ≡ field bs (8 * first) (8 * (past - first)) → v / 2 ^ (8 * past - (o + w)) % 2 ^ w ≡ field bs o w
field_from_bytes bs o w first past v f p e =
    let lead : ℕ = o - 8 * first in
    let tail : ℕ = 8 * past - (o + w) in
    let bits : 8 * (past - first) ≡ (lead + w) + tail = omega arith in
    let start : 8 * first + lead ≡ o = omega arith in
    ap (λ k. k / 2 ^ tail % 2 ^ w) (e ∙ ap (field bs (8 * first)) bits) ∙ field_cut bs (8 * first) lead w tail ∙ ap (λ k. field bs k w) start

-- a field cut out of five bytes
pub field_from_five : (bs : List ℕ) (o w v : ℕ) → w ≤ 32 → v ≡ field bs (8 * (o / 8)) 40 → v / 2 ^ (40 - (o % 8 + w)) % 2 ^ w ≡ field bs o w
field_from_five bs o w v h e =
    let tail : ℕ = 40 - (o % 8 + w) in
    let bits : 40 ≡ (o % 8 + w) + tail = omega arith in
    let start : 8 * (o / 8) + o % 8 ≡ o = omega arith in
    ap (λ k. k / 2 ^ tail % 2 ^ w) (e ∙ ap (field bs (8 * (o / 8))) bits) ∙ field_cut bs (8 * (o / 8)) (o % 8) w tail ∙ ap (λ k. field bs k w) start

-- the first n of five bytes
pub field_of_five : (bs : List ℕ) (o n v : ℕ) → n ≤ 5 → v ≡ field bs o 40 → v / 2 ^ (40 - 8 * n) ≡ field bs o (8 * n)
field_of_five bs o n v h e =
    let tail : ℕ = 40 - 8 * n in
    let bits : 40 ≡ 8 * n + tail = omega arith in
    let digit : ℕ → ℕ = λ i. bit_at bs (o + i) in
    ap (λ k. k / 2 ^ tail) (e ∙ ap (field bs o) bits ∙ value_split digit (8 * n) tail)
    ∙ shr_high (field bs o (8 * n)) tail _ (value_below (λ i. digit (8 * n + i)) tail (λ i. bit_below bs (o + (8 * n + i))))
