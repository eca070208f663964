-- A word as a set: how shifts, `|`, `^` and the counts of binary digits tell of its members and change them. Assumes nothing.
use Rattle.std.proofs.Common.{◌≡◌, ℕ, zero, suc, ◌+◌, ◌-◌, ◌*◌, ◌/◌, ◌%◌, ◌^◌, ◌<◌, ◌≤◌, min, Bool, true, false, not, eqb, ltb, ◌∷◌, length, set, Some, None, sym, refl, ap, ◌∙◌, ap₂, pow-suc, div-one, one-add, arith, pow_pos, inl, inr, le-ltb, lt-ltb}
use lib.Arith.{lt-one}
use lib.Pow.{ones_lt, ones_split, high}
use lib.Bits.{bit_and, bit_or, bit_xor, and_mask, or_lt, or_zero_r, or_mod, or_shr, xor_lt, xor_zero_r, xor_mod, xor_shr}
use lib.Count.{ones, ones_step, ones-ones, count_trailing_zeros, under}
use Rattle.std.specs.Bool.{then_some}
use Rattle.std.proofs.lemmas.Bool.{cases_lt}
use Rattle.std.proofs.lemmas.List.{get_or_past}
use Rattle.std.proofs.lemmas.Nat.{shr-shr, one_shl, pow_below}
use Rattle.sets.specs.Sets.{empty, full, member, smallest, further, size}
use Rattle.sets.specs.Digits.{digits}
use Rattle.sets.proofs.Members.{member-within}

pub length_digits : (n word : ℕ) → length (digits n word) ≡ n
unfolding digits
length_digits zero word = refl
length_digits (suc n) word = ap suc (length_digits n (word / 2))

pub within-digits : (n word k : ℕ) → member (digits n word) k ≡ true → k < n
within-digits n word k e = omega (arith, member-within (digits n word) k e, length_digits n word)

-- a binary digit is 0 or 1
below_two : (d : ℕ) → d < 2 → (P : ℕ → Type 0) → P 0 → P 1 → P d
below_two zero h P p q = p
below_two (suc zero) h P p q = q
below_two (suc (suc d)) h P p q = let no_more : ⊥ = omega arith in absurd no_more

-- digit k is the lowest after a shift by k
pub member-digits : (n word k : ℕ) → k < n → member (digits n word) k ≡ eqb (word / 2 ^ k % 2) 1
unfolding digits
member-digits zero word k h = let none_below : ⊥ = omega arith in absurd none_below
member-digits (suc n) word zero h = rw div-one
member-digits (suc n) word (suc k) h =
    member-digits n (word / 2) k (omega arith) ∙ ap (λ w. eqb (w % 2) 1) (shr-shr word 1 k ∙ ap (λ j. word / 2 ^ j) (one-add k))

-- the test of digit k by a shift and a mask
pub test_digit : (n word k : ℕ) → k < n → eqb (bit_and (word / 2 ^ k) 1) 1 ≡ member (digits n word) k
test_digit n word k h = ap (λ d. eqb d 1) (and_mask (word / 2 ^ k) 1) ∙ sym (member-digits n word k h)

-- a test that fails, since there are only n digits, is right too
pub test_past : (n word k : ℕ) → n ≤ k → ltb k n ≡ member (digits n word) k
test_past n word k h = le-ltb k n h ∙ sym (get_or_past (digits n word) k false (omega (arith, length_digits n word)))

-- An operation on the digits place by place, which leaves a digit beside a 0 and turns one beside a 1.
-- With 2 ^ k it turns digit k and leaves the others.
module _ (op : ℕ → ℕ → ℕ) (turn : Bool → Bool)
    (low-digits : (a b k : ℕ) → op a b % 2 ^ k ≡ op (a % 2 ^ k) (b % 2 ^ k))
    (high-digits : (a b k : ℕ) → op a b / 2 ^ k ≡ op (a / 2 ^ k) (b / 2 ^ k))
    (beside-zero : (a : ℕ) → op a 0 ≡ a) (beside-one : (d : ℕ) → d < 2 → eqb (op d 1) 1 ≡ turn (eqb d 1)) where
  digits-turn : (n word k : ℕ) → digits n (op word (2 ^ k)) ≡ set (digits n word) k (turn (member (digits n word) k))
  unfolding digits
  digits-turn zero word k = refl
  digits-turn (suc n) word zero = ap₂ (λ d w. d ∷ digits n w) low rest
    where
      low : eqb (op word 1 % 2) 1 ≡ turn (eqb (word % 2) 1)
      low = ap (λ d. eqb d 1) (low-digits word 1 1) ∙ beside-one (word % 2) (omega arith)

      rest : op word 1 / 2 ≡ word / 2
      rest = high-digits word 1 1 ∙ beside-zero (word / 2)
  digits-turn (suc n) word (suc k) = ap₂ (λ d xs. eqb d 1 ∷ xs) low (ap (digits n) rest ∙ digits-turn n (word / 2) k)
    where
      low : op word (2 ^ suc k) % 2 ≡ word % 2
      low = low-digits word (2 ^ suc k) 1 ∙ ap (op (word % 2)) (omega (arith, pow-suc 2 k)) ∙ beside-zero (word % 2)

      rest : op word (2 ^ suc k) / 2 ≡ op (word / 2) (2 ^ k)
      rest = high-digits word (2 ^ suc k) 1 ∙ ap (op (word / 2)) (omega (arith, pow-suc 2 k))

-- `|` with a shifted 1, in a word of w digits, puts k into the set
pub digits_on : (w n word k : ℕ) → k < w → digits n (bit_or word (1 * 2 ^ k % 2 ^ w)) ≡ set (digits n word) k true
digits_on w n word k h =
    ap (λ m. digits n (bit_or word m)) (one_shl k w h)
    ∙ digits-turn bit_or (λ _. true) or_mod or_shr or_zero_r (λ d l. below_two d l (λ d. eqb (bit_or d 1) 1 ≡ true) refl refl) n word k

-- `^` with a shifted 1 takes k, which is a member, out of the set
pub digits-off : (w n word k : ℕ) → k < w → member (digits n word) k ≡ true → digits n (bit_xor word (1 * 2 ^ k % 2 ^ w)) ≡ set (digits n word) k false
digits-off w n word k h present =
    ap (λ m. digits n (bit_xor word m)) (one_shl k w h)
    ∙ digits-turn bit_xor not xor_mod xor_shr xor_zero_r (λ d l. below_two d l (λ d. eqb (bit_xor d 1) 1 ≡ not (eqb d 1)) refl refl) n word k
    ∙ ap (λ b. set (digits n word) k (not b)) present

-- neither touches the digits from n on, where k is below n
pub on_below : (w n word k : ℕ) → k < n → n ≤ w → word < 2 ^ n → bit_or word (1 * 2 ^ k % 2 ^ w) < 2 ^ n
on_below w n word k h l fits = rw (one_shl k w (omega arith)) (or_lt n word (2 ^ k) fits (pow_below k n h))

pub off_below : (w n word k : ℕ) → k < n → n ≤ w → word < 2 ^ n → bit_xor word (1 * 2 ^ k % 2 ^ w) < 2 ^ n
off_below w n word k h l fits = rw (one_shl k w (omega arith)) (xor_lt n word (2 ^ k) fits (pow_below k n h))

pub digits-empty : (n : ℕ) → digits n 0 ≡ empty n
unfolding digits empty
digits-empty zero = refl
digits-empty (suc n) = ap (λ xs. false ∷ xs) (digits-empty n)

pub digits-full : (n : ℕ) → digits n (2 ^ n - 1) ≡ full n
unfolding digits full
digits-full zero = refl
digits-full (suc n) = ap₂ (λ d w. eqb d 1 ∷ digits n w) low rest ∙ ap (λ xs. true ∷ xs) (digits-full n)
  where
    low : (2 ^ suc n - 1) % 2 ≡ 1
    low = omega (arith, pow-suc 2 n, pow_pos n)

    rest : (2 ^ suc n - 1) / 2 ≡ 2 ^ n - 1
    rest = omega (arith, pow-suc 2 n, pow_pos n)

-- the n lowest digits of a word of w digits, all 1, are left by a shift
pub ones_shifted : (w n : ℕ) → n ≤ w → (2 ^ w - 1) / 2 ^ (w - n) ≡ 2 ^ n - 1
ones_shifted w n l =
    let whole : w ≡ n + (w - n) = omega arith in
    ap (λ k. (2 ^ k - 1) / 2 ^ (w - n)) whole ∙ ap (λ m. m / 2 ^ (w - n)) (ones_split n (w - n)) ∙ high (2 ^ n - 1) (w - n) (ones_lt (w - n))

-- the count of the members is that of the digits that are 1
pub size-digits : (n word : ℕ) → word < 2 ^ n → size (digits n word) ≡ ones word
unfolding digits
size-digits zero word h = sym (ap ones (lt-one h) ∙ ones-ones 0)
size-digits (suc n) word h = step (word % 2) (omega arith) (size-digits n (word / 2) (omega (arith, pow-suc 2 n))) ∙ sym (ones_step word)
  where
    step : (d : ℕ) → d < 2 → size (digits n (word / 2)) ≡ ones (word / 2) → size (eqb d 1 ∷ digits n (word / 2)) ≡ d + ones (word / 2)
    step d h rest =
        below_two d h (λ d. size (eqb d 1 ∷ digits n (word / 2)) ≡ d + ones (word / 2)) (omega arith) (omega arith)

-- of fewer digits, the zeros below the lowest 1 are as many, up to their number
fewer_trailing : (n m word : ℕ) → n ≤ m → count_trailing_zeros n word ≡ min n (count_trailing_zeros m word)
unfolding count_trailing_zeros
fewer_trailing zero m word h = omega arith
fewer_trailing (suc n) zero word h = let no_more : ⊥ = omega arith in absurd no_more
fewer_trailing (suc n) (suc m) word h = step (word % 2) (fewer_trailing n m (word / 2) (omega arith))
  where
    t : ℕ → ℕ
    t k = count_trailing_zeros k (word / 2)

    step : (d : ℕ) → t n ≡ min n (t m) → under d (t n) ≡ min (suc n) (under d (t m))
    step zero e = omega arith
    step (suc d) e = omega arith

found : (n word : ℕ) → count_trailing_zeros n word < n → smallest (digits n word) ≡ Some (count_trailing_zeros n word)
unfolding digits count_trailing_zeros
found zero word h = let none_below : ⊥ = omega arith in absurd none_below
found (suc n) word h = step (word % 2) (omega arith) h (found n (word / 2))
  where
    t : ℕ
    t = count_trailing_zeros n (word / 2)

    step : (d : ℕ) → d < 2 → under d t < suc n → (t < n → smallest (digits n (word / 2)) ≡ Some t) → smallest (eqb d 1 ∷ digits n (word / 2)) ≡ Some (under d t)
    step zero s h rest = ap further (rest (omega arith))
    step (suc zero) s h rest = refl
    step (suc (suc d)) s h rest = let no_more : ⊥ = omega arith in absurd no_more

none : (n word : ℕ) → n ≤ count_trailing_zeros n word → smallest (digits n word) ≡ None
unfolding digits count_trailing_zeros
none zero word h = refl
none (suc n) word h = step (word % 2) (omega arith) h (none n (word / 2))
  where
    t : ℕ
    t = count_trailing_zeros n (word / 2)

    step : (d : ℕ) → d < 2 → suc n ≤ under d t → (n ≤ t → smallest (digits n (word / 2)) ≡ None) → smallest (eqb d 1 ∷ digits n (word / 2)) ≡ None
    step zero s h rest = ap further (rest (omega arith))
    step (suc d) s h rest = let no_more : ⊥ = omega arith in absurd no_more

-- the smallest of the n lowest digits that are 1 is found by the zeros below the lowest 1 of a word of m digits
pub smallest-digits : (n m word : ℕ) → n ≤ m → count_trailing_zeros m word < n → smallest (digits n word) ≡ Some (count_trailing_zeros m word)
smallest-digits n m word l h =
    let same : count_trailing_zeros n word ≡ count_trailing_zeros m word = omega (arith, fewer_trailing n m word l) in
    found n word (omega arith) ∙ ap Some same

-- and there is none where the zeros are n or more
pub none_digits : (n m word : ℕ) → n ≤ m → n ≤ count_trailing_zeros m word → smallest (digits n word) ≡ None
none_digits n m word l h = none n word (omega (arith, fewer_trailing n m word l))

-- and so the test for one that is smaller than n finds the smallest of the n lowest
pub first_digit : (n m word : ℕ) → n ≤ m → then_some (ltb (count_trailing_zeros m word) n) (count_trailing_zeros m word) ≡ smallest (digits n word)
first_digit n m word l =
    let zeros = count_trailing_zeros m word in
    elim (cases_lt zeros n) [
      | inl h ↦ ap (λ b. then_some b zeros) (lt-ltb zeros n h) ∙ sym (smallest-digits n m word l h)
      | inr h ↦ ap (λ b. then_some b zeros) (le-ltb zeros n h) ∙ sym (none_digits n m word l h)
    ]
