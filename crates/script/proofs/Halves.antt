-- Lemmas on hexadecimal digits.
use Rattle.std.proofs.Common.{◌≡◌, ℕ, ◌+◌, ◌*◌, ◌/◌, ◌%◌, ◌<◌, ◌≤◌, true, false, cond, List, [], ◌∷◌, ◌++◌, length, get_or, take, drop, Some, None, Option, sym, refl, ap, ◌∙◌, subst, append-nil, arith}
use borrow.Author.Tests.{clash}
use lib.Arith.{digits_div, digits_mod}
use Rattle.std.proofs.lemmas.List.{append_assoc, length-append, take_more, take-append-drop}
use Rattle.script.specs.declared.hex.HexFault.{HexFault}
use Rattle.script.specs.declared.hex.HexFault.TheVariants.{NoDigit, OddDigits, TooLong, NoMemory}
use Rattle.script.specs.Hex.{digits_of, halves, is_white, hex_value, spelt, Undecoded, NotPut}

digits_append : (xs ys : List ℕ) → digits_of (xs ++ ys) ≡ digits_of xs ++ digits_of ys
digits_append [] ys = refl
digits_append (c ∷ cs) ys =
    elim (is_white c) as (λ b. cond b (digits_of (cs ++ ys)) (hex_value c ∷ digits_of (cs ++ ys)) ≡ cond b (digits_of cs) (hex_value c ∷ digits_of cs) ++ digits_of ys) [
      | true ↦ digits_append cs ys
      | false ↦ ap (λ ds. hex_value c ∷ ds) (digits_append cs ys)
    ]

halves-append : (xs ys : List ℕ) → halves (xs ++ ys) ≡ halves xs ++ halves ys
halves-append [] ys = refl
halves-append (b ∷ bs) ys = ap (λ hs. b / 16 ∷ b % 16 ∷ hs) (halves-append bs ys)

length-halves : (bs : List ℕ) → length (halves bs) ≡ length bs * 2
length-halves [] = refl
length-halves (b ∷ bs) = omega (arith, length-halves bs)

-- a byte has the two digits that it is made of
pub spelt_pair : (bytes : List ℕ) (h l : ℕ) → l < 16 → spelt (bytes ++ (h * 16 + l) ∷ []) None ≡ spelt bytes (Some h) ++ l ∷ []
spelt_pair bytes h l small =
    halves-append bytes ((h * 16 + l) ∷ [])
    ∙ ap (λ z. halves bytes ++ z ∷ (h * 16 + l) % 16 ∷ []) (digits_div h small)
    ∙ ap (λ z. halves bytes ++ h ∷ z ∷ []) (digits_mod h small)
    ∙ sym (append_assoc (halves bytes) (h ∷ []) (l ∷ []))

digits_more : (text : List ℕ) (i : ℕ) → i < length text → digits_of (take (i + 1) text) ≡ digits_of (take i text) ++ digits_of (get_or text i 0 ∷ [])
digits_more text i h = ap digits_of (take_more text i 0 h) ∙ digits_append (take i text) (get_or text i 0 ∷ [])

white_more : (text : List ℕ) (i : ℕ) → i < length text → is_white (get_or text i 0) ≡ true → digits_of (take (i + 1) text) ≡ digits_of (take i text)
white_more text i h e =
    digits_more text i h ∙ ap (λ b. digits_of (take i text) ++ cond b [] (hex_value (get_or text i 0) ∷ [])) e ∙ append-nil (digits_of (take i text))

digit_more : (text : List ℕ) (i : ℕ) → i < length text → is_white (get_or text i 0) ≡ false
    → digits_of (take (i + 1) text) ≡ digits_of (take i text) ++ hex_value (get_or text i 0) ∷ []
digit_more text i h e = digits_more text i h ∙ ap (λ b. digits_of (take i text) ++ cond b [] (hex_value (get_or text i 0) ∷ [])) e

-- bytes and a half have an odd number of digits
pub odd : (bytes : List ℕ) (h : ℕ) → length (spelt bytes (Some h)) % 2 ≡ 1
odd bytes h =
    ap (λ n. n % 2) (length-append (halves bytes) (h ∷ []) ∙ ap (λ n. n + 1) (length-halves bytes)) ∙ digits_mod (length bytes) (omega arith)

digits-within : (text : List ℕ) (i : ℕ) → length (digits_of (take i text)) ≤ length (digits_of text)
digits-within text i =
    omega (arith, ap (λ t. length (digits_of t)) (take-append-drop i text), ap length (digits_append (take i text) (drop i text)), length-append (digits_of (take i text)) (digits_of (drop i text)))

-- a digit that finds no place is one of a text that spells no bytes
not_put : (text : List ℕ) (i : ℕ) (bytes : List ℕ) (high : Option ℕ) (f : HexFault) → i < length text → is_white (get_or text i 0) ≡ false
    → digits_of (take i text) ≡ spelt bytes high → NotPut bytes high f → Undecoded text f
not_put text i bytes high (NoDigit at) h w e r = absurd r
not_put text i bytes high OddDigits h w e r = absurd r
not_put text i bytes high NoMemory h w e r = tt
not_put text i bytes None TooLong h w e r = absurd (clash r.1)
not_put text i bytes (Some first) TooLong h w e r =
    omega (
      arith,
      r.0,
      digits-within text (i + 1),
      ap length (digit_more text i h w),
      length-append (digits_of (take i text)) (hex_value (get_or text i 0) ∷ []),
      ap length e,
      length-append (halves bytes) (first ∷ []),
      length-halves bytes,
    )

-- The loop goes over the bytes bs of the text. One byte more, and its digit if it has one:
module _ (bs text : List ℕ) (same : bs ≡ text) (i : ℕ) (h : i < length bs) where
  pub white_step : (ds : List ℕ) → true ≡ is_white (get_or bs i 0) → digits_of (take i text) ≡ ds → digits_of (take (i + 1) text) ≡ ds
  white_step ds w e = ap (λ t. digits_of (take (i + 1) t)) (sym same) ∙ white_more bs i h (sym w) ∙ ap (λ t. digits_of (take i t)) same ∙ e

  pub digit_step : (ds : List ℕ) (v : ℕ) → false ≡ is_white (get_or bs i 0) → v ≡ hex_value (get_or bs i 0) → digits_of (take i text) ≡ ds → digits_of (take (i + 1) text) ≡ ds ++ v ∷ []
  digit_step ds v w is e =
      ap (λ t. digits_of (take (i + 1) t)) (sym same) ∙ digit_more bs i h (sym w)
      ∙ ap (λ t. digits_of (take i t) ++ hex_value (get_or bs i 0) ∷ []) same ∙ ap (λ z. z ++ hex_value (get_or bs i 0) ∷ []) e ∙ ap (λ z. ds ++ z ∷ []) (sym is)

  pub put_step : (bytes : List ℕ) (high : Option ℕ) (f : HexFault) → false ≡ is_white (get_or bs i 0) → digits_of (take i text) ≡ spelt bytes high → NotPut bytes high f → Undecoded text f
  put_step bytes high f w e r =
      subst (λ t. Undecoded t f) same (not_put bs i bytes high f h (sym w) (ap (λ t. digits_of (take i t)) same ∙ e) r)
