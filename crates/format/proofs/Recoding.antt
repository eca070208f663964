-- Encoding what was decoded. Assumes nothing.
use Rattle.std.proofs.Common.{◌≡◌, ℕ, zero, suc, ◌+◌, ◌-◌, ◌<◌, ◌≤◌, Bool, true, false, cond, List, [], ◌∷◌, ◌++◌, length, get_or, drop, Some, None, Ok, Err, Option, Result, sym, refl, ap, ◌∙◌, subst, ap₂, arith}
use Rattle.std.proofs.lemmas.List.{drop-drop, drop_all, get_or-drop, length-drop, take-append-drop}
use Rattle.row.specs.declared.faults.Refusal.{Refusal}
use Rattle.format.specs.Decoding.{map_ok, followed, decode_from, decode}
use Rattle.format.specs.Encoding.{encode_from, encode}
use Rattle.format.specs.Reading.{start, record_in, read_at, fault_at, behind, size_of}
use Rattle.format.specs.declared.places.Place.{Place}
use Rattle.format.specs.Records.{Item}
use Rattle.format.specs.Standing.{Stands, Follows}
use Rattle.format.specs.declared.records.ReadFault.{ReadFault}
use Rattle.format.proofs.Lengths.{size_pos}
use Rattle.format.proofs.Taken.{Taken, taken}

-- what a read says: behind the end record nothing is left, and else the record is there
pub read_none : (input : List ℕ) (p : Place) → read_at input p ≡ Ok None → p.ended ≡ true
read_none input p e = by p.ended (record_in (drop p.at input) p.at p.rows p.after_row) refl e
  where
    by : (b : Bool) (r : Result Item Refusal) → p.ended ≡ b → cond b (Ok None) (fault_at p.at r) ≡ Ok None → p.ended ≡ true
    by true r f h = f
    by false (Ok i) f h = absurd cc
    by false (Err x) f h = absurd cc

-- a place within the input, at its end once the end record has been read
pub record Inside (input : List ℕ) (p : Place) : Type 0 where
  pub within : p.at ≤ length input
  pub whole : p.ended ≡ true → p.at ≡ length input

module _ (input : List ℕ) (small : (k : ℕ) → get_or input k 0 < 256) where
  small_left : (n k : ℕ) → get_or (drop n input) k 0 < 256
  small_left n k = omega (arith, get_or-drop n input k 0, small (n + k))

  pub read_taken : (p : Place) (i : Item) → read_at input p ≡ Ok (Some i) → (p.ended ≡ false) × Taken (drop p.at input) p i
  read_taken p i e = by p.ended (record_in (drop p.at input) p.at p.rows p.after_row) refl refl e
    where
      by : (b : Bool) (r : Result Item Refusal) → p.ended ≡ b → record_in (drop p.at input) p.at p.rows p.after_row ≡ r
          → cond b (Ok None) (fault_at p.at r) ≡ Ok (Some i) → (p.ended ≡ false) × Taken (drop p.at input) p i
      by true r f g h = absurd cc
      by false (Err x) f g h = absurd cc
      by false (Ok j) f g h =
          let same : j ≡ i = cc in
          (f, taken (drop p.at input) p i (small_left p.at) (g ∙ ap Ok same))

  pub read_stands : (p : Place) (i : Item) → read_at input p ≡ Ok (Some i) → Stands p i
  read_stands p i e =
      let t = read_taken p i e in
      record { unended = t.0; placed = t.1.placed; kept = t.1.kept; offset = t.1.offset }

  pub read_inside : (p : Place) (i : Item) → Inside input p → read_at input p ≡ Ok (Some i) → Inside input (behind p i)
  read_inside p i h e =
      let t = (read_taken p i e).1 in
      let left = length-drop p.at input in
      record {
        within = omega (arith, h.within, t.within, size_pos i);
        whole = λ l. let one = t.alone l in omega (arith, h.within, t.within, size_pos i);
      }

-- the records from a place on: their bytes are what is left of the input, and they follow one another to an end
pub record Recoded (input : List ℕ) (p : Place) (items : List Item) : Type 0 where
  pub bytes : encode_from p.rows items ≡ drop p.at input
  pub last : Place
  pub follows : Follows p items last
  pub ended : last.ended ≡ true

recoded_none : (input : List ℕ) (p : Place) → Inside input p → read_at input p ≡ Ok None → Recoded input p []
unfolding Follows
recoded_none input p h e =
    let over = read_none input p e in
    record { bytes = sym (drop_all p.at input (omega (arith, h.whole over))); last = p; follows = refl; ended = over }

recoded_more : (input : List ℕ) (p : Place) (i : Item) (is : List Item) → ((k : ℕ) → get_or input k 0 < 256) → read_at input p ≡ Ok (Some i)
    → Recoded input (behind p i) is → Recoded input p (i ∷ is)
unfolding Follows
recoded_more input p i is small e r =
    let t = (read_taken input small p i e).1 in
    record {
      bytes =
          ap₂ ◌++◌ (sym t.bytes) (r.bytes ∙ sym (drop-drop (size_of i) p.at input))
          ∙ take-append-drop (size_of i) (drop p.at input);
      last = r.last;
      follows = (read_stands input small p i e, r.follows);
      ended = r.ended;
    }

-- by what the read at the place gives; `more` decodes what is behind it
recode_step : (input : List ℕ) (p : Place) (items : List Item) (more : Place → Result (List Item) ReadFault) → ((k : ℕ) → get_or input k 0 < 256) → Inside input p
    → ((i : Item) (is : List Item) → Inside input (behind p i) → more (behind p i) ≡ Ok is → Recoded input (behind p i) is)
    → followed p (read_at input p) more ≡ Ok items → Recoded input p items
recode_step input p items more small within later e = by (read_at input p) refl e
  where
    front : (i : Item) (r : Result (List Item) ReadFault) → read_at input p ≡ Ok (Some i) → more (behind p i) ≡ r → map_ok (λ is. i ∷ is) r ≡ Ok items → Recoded input p items
    front i (Err x) g d k = absurd cc
    front i (Ok is) g d k =
        let all : i ∷ is ≡ items = cc in
        subst (Recoded input p) all (recoded_more input p i is small g (later i is (read_inside input small p i within g) d))

    by : (a : Result (Option Item) ReadFault) → read_at input p ≡ a → followed p a more ≡ Ok items → Recoded input p items
    by (Err x) g k = absurd cc
    by (Ok None) g k = let none : [] ≡ items = cc in subst (Recoded input p) none (recoded_none input p within g)
    by (Ok (Some i)) g k = front i (more (behind p i)) g refl k

pub recode_from : (reads : ℕ) (input : List ℕ) (p : Place) (items : List Item) → ((k : ℕ) → get_or input k 0 < 256) → length input - p.at < reads → Inside input p
    → decode_from reads input p ≡ Ok items → Recoded input p items
unfolding decode_from
recode_from zero input p items small h within e = absurd (omega arith)
recode_from (suc n) input p items small h within e =
    recode_step input p items (decode_from n input) small within
    (λ i is next d. recode_from n input (behind p i) is small (omega (arith, size_pos i, next.within)) next d) e

pub inside-start : (input : List ℕ) → Inside input start
inside-start input = record { within = omega arith; whole = λ l. cc }

-- a line-up that was decoded encodes to the same bytes
pub encode-decode : (input : List ℕ) (items : List Item) → ((k : ℕ) → get_or input k 0 < 256) → decode input ≡ Ok items → encode items ≡ input
encode-decode input items small e =
    (recode_from (length input + 1) input start items small (omega arith) (inside-start input) e).bytes
