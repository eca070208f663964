-- A writer that holds records, and one more. Assumes nothing.
use Rattle.std.proofs.Common.{◌≡◌, ℕ, ◌+◌, ◌≤◌, Bool, true, false, cond, ltb, List, [], ◌∷◌, ◌++◌, length, take, drop, Ok, Err, Result, sym, refl, ap, ◌∙◌, subst, append_assoc, append-nil, arith}
use Rattle.std.proofs.lemmas.List.{take_at, length-append, length-take-le, length-take, length-drop}
use Rattle.std.proofs.lemmas.Bool.{ltb-false}
use Rattle.row.specs.Rows.{keeps, numbers_of}
use Rattle.row.specs.declared.rows.Row.{Row}
use Rattle.row.specs.declared.rows.Row.TheVariants.{Track, Helper}
use Rattle.format.specs.Decoding.{decode, map_ok}
use Rattle.format.specs.Encoding.{record_bytes, encode_from, overwritten}
use Rattle.format.specs.Reading.{start, behind, size_of, rows_in}
use Rattle.format.specs.declared.places.Place.{Place}
use Rattle.format.specs.Records.{Item, end}
use Rattle.format.specs.Standing.{Stands, Follows, OffsetKept}
use Rattle.format.specs.Writing.{RowKept, may_stand, write_at}
use Rattle.format.specs.declared.records.WriteFault.{WriteFault}
use Rattle.format.proofs.Reread.{limits_to}
use Rattle.format.proofs.Rereading.{decode-encode}
use Rattle.format.proofs.Lengths.{record_long}
use Rattle.writer.specs.Holding.{Holds, HoldsMore, ReadsBack}
use Rattle.writer.specs.Writers.{place_of, buffer_of, Wrote, Finished}
use Rattle.writer.specs.declared.writer.Writer.{Writer}

-- one record more
pub follows_more : (p q : Place) (items : List Item) (i : Item) → Follows p items q → Stands q i → Follows p (items ++ i ∷ []) (behind q i)
unfolding Follows
follows_more p q [] i f s = (subst (λ r. Stands r i) (sym f) s, ap (λ r. behind r i) f)
follows_more p q (j ∷ items) i f s = (f.0, follows_more (behind p j) q items i f.1 s)

pub encode_more : (p q : Place) (items : List Item) (i : Item) → Follows p items q
    → encode_from p.rows (items ++ i ∷ []) ≡ encode_from p.rows items ++ record_bytes q.rows i
unfolding Follows
encode_more p q [] i f = append-nil (record_bytes p.rows i) ∙ ap (λ r. record_bytes r.rows i) f
encode_more p q (j ∷ items) i f =
    ap (λ bs. record_bytes p.rows j ++ bs) (encode_more (behind p j) q items i f.1)
    ∙ sym (append_assoc (record_bytes p.rows j) (encode_from (p.rows + rows_in j) items) (record_bytes q.rows i))

-- a write that was accepted: the record may stand there, and the buffer has room for it
accepted : (space : ℕ) (p : Place) (i : Item) (u : Unit {0}) → Ok u ≡ write_at space p i
    → (p.ended ≡ false) × (may_stand p i ≡ true) × (p.at + size_of i ≤ space)
accepted space p i u e = by p.ended (may_stand p i) (ltb space (p.at + size_of i)) _ _ _ refl refl refl e
  where
    by : (a b d : Bool) (x y z : WriteFault) → p.ended ≡ a → may_stand p i ≡ b → ltb space (p.at + size_of i) ≡ d
        → Ok u ≡ cond a (Err x) (cond b (cond d (Err y) (Ok tt)) (Err z)) → (p.ended ≡ false) × (may_stand p i ≡ true) × (p.at + size_of i ≤ space)
    by true b d x y z f g k h = absurd cc
    by false false d x y z f g k h = absurd cc
    by false true true x y z f g k h = absurd cc
    by false true false x y z f g k h = (f, g, ltb-false space (p.at + size_of i) k)

-- the front of a buffer with a piece written behind it
pub front_more : (buffer piece : List ℕ) (at size : ℕ) → length piece ≡ size → at + size ≤ length buffer
    → take (at + size) (overwritten buffer at piece) ≡ take at buffer ++ piece
front_more buffer piece at size long h =
    ap (take (at + size)) (sym (append_assoc (take at buffer) piece (drop (at + length piece) buffer)))
    ∙ take_at (take at buffer ++ piece) (drop (at + length piece) buffer) (at + size)
    (length-append (take at buffer) piece ∙ omega (arith, length-take-le at buffer (omega arith)))

-- and the buffer is as long as it was
pub long_same : (buffer piece : List ℕ) (at size : ℕ) → length piece ≡ size → at + size ≤ length buffer → length (overwritten buffer at piece) ≡ length buffer
long_same buffer piece at size long h = simp (length-append, length-take, length-drop) (omega arith)

-- a write of a record that keeps the limits
module _ (before after : Writer) (i : Item) (items : List Item) (kept : RowKept i) (offset : OffsetKept (place_of before) i) (h : Holds before items) where
  pub holds_more : (r : Result (Unit {0}) WriteFault) → Wrote before after i r → HoldsMore r after items i
  holds_more (Err e) w =
      let at : after.place.at ≡ before.place.at = ap (λ p. p.at) w.place in
      record {
        bytes = ap (λ n. take n (buffer_of after)) at ∙ ap (take before.place.at) w.buffer ∙ h.bytes;
        follows = subst (Follows start items) (sym w.place) h.follows;
        within = omega (arith, ap length w.buffer, h.within);
      }
  holds_more (Ok u) w =
      let p : Place = place_of before in
      let ok = accepted (length (buffer_of before)) p i u w.answer in
      let at : after.place.at ≡ before.place.at + size_of i = ap (λ q. q.at) w.place in
      let piece : List ℕ = record_bytes before.place.rows i in
      let long : length piece ≡ size_of i = record_long before.place.rows i in
      let front : take (before.place.at + size_of i) (buffer_of after) ≡ take before.place.at (buffer_of before) ++ piece =
      ap (take (before.place.at + size_of i)) w.buffer ∙ front_more (buffer_of before) piece before.place.at (size_of i) long ok.2 in
      record {
        bytes =
            ap (λ n. take n (buffer_of after)) at ∙ front ∙ ap (λ bs. bs ++ piece) h.bytes
            ∙ sym (encode_more start p items i h.follows);
        follows = subst (Follows start (items ++ i ∷ [])) (sym w.place)
            (follows_more start p items i h.follows (record { unended = ok.0; placed = ok.1; kept = kept; offset = offset }));
        within = omega (arith, ap length w.buffer, long_same (buffer_of before) piece before.place.at (size_of i) long ok.2);
      }

-- finishing: the writer holds the end record too, and the line-up decodes to what was put
module _ (before after : Writer) (items : List Item) (h : Holds before items) (r : Result ℕ WriteFault) (f : Finished before after r) where
  finish_both : (HoldsMore r after items end) × ReadsBack r after items
  finish_both = by (write_at (length (buffer_of before)) (place_of before) end) r f.answer f.wrote
    where
      by : (a : Result (Unit {0}) WriteFault) (r : Result ℕ WriteFault) → r ≡ map_ok (λ u. before.place.at + 1) a → Wrote before after end a
          → (HoldsMore r after items end) × ReadsBack r after items
      by (Ok u) (Ok n) e w =
          let all : Holds after (items ++ end ∷ []) = holds_more before after end items tt tt h (Ok u) w in
          let long : n ≡ after.place.at = let x : n ≡ before.place.at + 1 = cc in omega (arith, ap (λ p. p.at) w.place) in
          (all, ap (λ k. decode (take k (buffer_of after))) long ∙ ap decode all.bytes ∙ decode-encode (items ++ end ∷ []) (place_of after) all.follows (ap (λ p. p.ended) w.place))
      by (Err x) (Err y) e w = (holds_more before after end items tt tt h (Err x) w, tt)
      by (Ok u) (Err y) e w = absurd cc
      by (Err x) (Ok n) e w = absurd cc

  pub finish-holds : HoldsMore r after items end
  finish-holds = finish_both.0

  pub finish_back : ReadsBack r after items
  finish_back = finish_both.1

-- a new writer holds nothing
pub holds_none : (w : Writer) → place_of w ≡ start → Holds w []
unfolding Follows
holds_none w e =
    let at : w.place.at ≡ 0 = ap (λ p. p.at) e in
    record { bytes = ap (λ n. take n (buffer_of w)) at; follows = sym e; within = omega arith }

-- a row's type says that it keeps the limits
pub row_kept : (r : Row) → keeps (numbers_of r) ≡ true
row_kept (Track t) = limits_to t.period t.deadline t.short t.long t.limits
row_kept (Helper t) = limits_to t.period t.deadline t.short t.short t.limits
