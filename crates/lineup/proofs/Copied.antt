-- A line-up copied record by record. Assumes nothing.
use Rattle.std.proofs.Common.{◌≡◌, ℕ, zero, suc, ◌+◌, ◌-◌, ◌<◌, ◌≤◌, true, false, cond, ltb, List, ◌∷◌, ◌++◌, length, get_or, take, drop, is_ok, Some, None, Ok, Err, Result, sym, refl, ap, ◌∙◌, ap₂, append_assoc, arith, take-add}
use Rattle.std.proofs.lemmas.List.{drop-drop, drop_at, take_at, take_all, length-append, length-take, length-drop, length-take-le}
use Rattle.std.proofs.lemmas.Bool.{le-ltb}
use Rattle.format.specs.Decoding.{map_ok, followed, decode_from, decode}
use Rattle.format.specs.Encoding.{record_bytes, overwritten}
use Rattle.format.specs.Reading.{start, read_at, behind, size_of}
use Rattle.format.specs.declared.places.Place.{Place}
use Rattle.format.specs.Records.{Item}
use Rattle.format.specs.Standing.{OffsetKept}
use Rattle.format.specs.Writing.{RowKept, write_at}
use Rattle.format.specs.declared.records.ReadFault.{ReadFault}
use Rattle.format.proofs.Lengths.{size_pos, record_long}
use Rattle.format.proofs.Recoding.{Inside, inside-start, read_none, read_taken, read_inside}
use Rattle.format.proofs.Taken.{Taken}
use Rattle.lineup.specs.Copying.{no_room, copy_answer, copied_over}

-- the input before the place is copied, the output behind it is as it was, and what is left of the input reads
pub record Copied (input old buffer : List ℕ) (p : Place) : Type 0 where
  pub fits : length input ≤ length old
  pub inside : Inside input p
  pub small : (k : ℕ) → get_or input k 0 < 256
  pub front : buffer ≡ take p.at input ++ drop p.at old
  pub reads : ℕ
  pub enough : length input - p.at < reads
  pub left : is_ok (decode_from reads input p) ≡ true

pub copied_none : (input old : List ℕ) → length input ≤ length old → ((k : ℕ) → get_or input k 0 < 256) → is_ok (decode input) ≡ true → Copied input old old start
copied_none input old fits small e =
    record { fits = fits; inside = inside-start input; small = small; front = refl; reads = length input + 1; enough = omega arith; left = e }

-- one read, with which the records from place p on begin
step : (input : List ℕ) (p : Place) (reads : ℕ) → length input - p.at < reads → is_ok (decode_from reads input p) ≡ true
    → (n : ℕ) × (length input - p.at ≤ n) × (is_ok (followed p (read_at input p) (decode_from n input)) ≡ true)
unfolding decode_from
step input p zero h l = absurd (omega arith)
step input p (suc n) h l = (n, omega arith, l)

ok_mapped : {X Y E : Type 0} (f : X → Y) (r : Result X E) → is_ok (map_ok f r) ≡ is_ok r
ok_mapped f (Ok x) = refl
ok_mapped f (Err e) = refl

module _ (input old buffer : List ℕ) (p : Place) (c : Copied input old buffer p) where
  -- no read is refused
  pub no_fault : (e : ReadFault) → Err e ≡ read_at input p → ⊥
  no_fault e h =
      let s = step input p c.reads c.enough c.left in
      let false-true : false ≡ true = ap (λ r. is_ok (followed p r (decode_from s.0 input))) h ∙ s.2 in
      cc

  -- behind the last record the whole input is copied
  pub copied_all : Ok None ≡ read_at input p → buffer ≡ copied_over input old
  copied_all e =
      let whole : p.at ≡ length input = c.inside.whole (read_none input p (sym e)) in
      c.front ∙ ap (λ n. take n input ++ drop n old) whole ∙ ap (λ bs. bs ++ drop (length input) old) (take_all (length input) input (omega arith))

  module _ (i : Item) (e : Ok (Some i) ≡ read_at input p) where
    here : Taken (drop p.at input) p i
    here = (read_taken input c.small p i (sym e)).1

    next : Inside input (behind p i)
    next = read_inside input c.small p i c.inside (sym e)

    long : length buffer ≡ length old
    long = ap length c.front ∙ simp (length-append, length-take, length-drop) (omega (arith, c.inside.within, c.fits))

    pub kept_row : RowKept i
    kept_row = here.kept

    pub kept-offset : OffsetKept p i
    kept-offset = here.offset

    pub within_more : p.at + size_of i ≤ length input
    within_more = next.within

    -- the writer takes the record
    pub takes : Ok tt ≡ write_at (length buffer) p i
    takes =
        let room : ltb (length buffer) (p.at + size_of i) ≡ false = le-ltb (length buffer) (p.at + size_of i) (omega (arith, long, c.fits, next.within)) in
        simp ((read_taken input c.small p i (sym e)).0, here.placed, room)

    fronts : overwritten buffer p.at (record_bytes p.rows i) ≡ take (p.at + size_of i) input ++ drop (p.at + size_of i) old
    fronts =
        let at : ℕ = p.at in
        let size : ℕ = size_of i in
        let piece : List ℕ = record_bytes p.rows i in
        let count : length (take at input) ≡ at = length-take-le at input c.inside.within in
        let before : take at buffer ≡ take at input = ap (take at) c.front ∙ take_at (take at input) (drop at old) at count in
        let left : drop at buffer ≡ drop at old = ap (drop at) c.front ∙ drop_at (take at input) (drop at old) at count in
        let rest : drop (at + length piece) buffer ≡ drop (at + size) old =
        ap (λ n. drop (at + n) buffer) (record_long p.rows i) ∙ sym (drop-drop size at buffer) ∙ ap (drop size) left ∙ drop-drop size at old in
        let head : take at buffer ++ piece ≡ take (at + size) input =
        ap₂ ◌++◌ before (sym here.bytes) ∙ sym (take-add at size input) in
        sym (append_assoc (take at buffer) piece (drop (at + length piece) buffer)) ∙ ap₂ ◌++◌ head rest

    pub copied_more : (after : List ℕ) → after ≡ overwritten buffer p.at (record_bytes p.rows i) → Copied input old after (behind p i)
    copied_more after a =
        let s = step input p c.reads c.enough c.left in
        record {
          fits = c.fits;
          inside = next;
          small = c.small;
          front = a ∙ fronts;
          reads = s.0;
          enough = omega (arith, size_pos i, s.1, next.within);
          left = sym (ok_mapped (λ is. i ∷ is) (decode_from s.0 input (behind p i))) ∙ ap (λ r. is_ok (followed p r (decode_from s.0 input))) e ∙ s.2;
        }

-- the answer for a line-up that reads, as its rows were read
pub reads_answer : {Y : Type 0} (f : List Item → Y) (y : Y) (r : Result (List Item) ReadFault) (size space : ℕ) → Ok y ≡ map_ok f r
    → cond (ltb space size) (Err (no_room space)) (Ok size) ≡ copy_answer r size space
reads_answer f y (Ok items) size space e = refl
reads_answer f y (Err x) size space e = absurd cc
