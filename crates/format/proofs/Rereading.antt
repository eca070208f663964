-- Decoding what was encoded. Assumes nothing.
use Rattle.std.proofs.Common.{◌≡◌, ℕ, zero, suc, ◌+◌, ◌<◌, ◌≤◌, true, List, [], ◌∷◌, ◌++◌, length, drop, Some, Ok, sym, refl, ap, ◌∙◌, append_assoc, arith}
use Rattle.std.proofs.lemmas.List.{drop_at, length-append}
use Rattle.std.proofs.lemmas.Bool.{both_ways, ltb-true}
use Rattle.format.specs.Decoding.{map_ok, followed, decode_from, decode}
use Rattle.format.specs.Encoding.{record_bytes, encode_from, encode}
use Rattle.format.specs.Reading.{start, read_at, fault_at, behind, size_of, is_end, rows_in}
use Rattle.format.specs.declared.places.Place.{Place}
use Rattle.format.specs.Records.{Item, row, label, end}
use Rattle.format.specs.Standing.{Stands, Follows}
use Rattle.format.proofs.Reread.{reread}
use Rattle.format.proofs.Lengths.{size_pos, record_long}

-- behind a record that may stand there are at most 32 rows
pub few-behind : (p : Place) (i : Item) → Stands p i → p.rows ≤ 32 → (behind p i).rows ≤ 32
few-behind p (row n) s few = let h : p.rows < 32 = ltb-true p.rows 32 s.placed in omega arith
few-behind p (label offset bytes) s few = omega arith
few-behind p end s few = omega arith

-- nothing stands behind an end record
none_behind : (p q : Place) (is : List Item) → p.ended ≡ true → Follows p is q → is ≡ []
unfolding Follows
none_behind p q [] e f = refl
none_behind p q (i ∷ is) e f = absurd (both_ways p.ended f.0.unended e)

-- a read at the place where a record was encoded
read_record : (front more : List ℕ) (p : Place) (i : Item) → Stands p i → p.rows ≤ 32 → length front ≡ p.at → (is_end i ≡ true → more ≡ [])
    → read_at (front ++ (record_bytes p.rows i ++ more)) p ≡ Ok (Some i)
read_record front more p i s few at last =
    let left : drop p.at (front ++ (record_bytes p.rows i ++ more)) ≡ record_bytes p.rows i ++ more = drop_at front _ p.at at in
    simp (s.unended, left) (ap (fault_at p.at) (reread p i more s few last))

-- the records from a place on, behind what was encoded before it
pub reread_from : (reads : ℕ) (front : List ℕ) (p q : Place) (items : List Item) → Follows p items q → q.ended ≡ true → p.rows ≤ 32 → length front ≡ p.at
    → length items < reads → decode_from reads (front ++ encode_from p.rows items) p ≡ Ok items
unfolding decode_from Follows
reread_from zero front p q items f e few at h = absurd (omega arith)
reread_from (suc n) front p q [] f e few at h =
    let ended : p.ended ≡ true = ap (λ r. r.ended) f ∙ e in
    simp ended
reread_from (suc n) front p q (i ∷ is) f e few at h =
    let piece : List ℕ = record_bytes p.rows i in
    let more : List ℕ = encode_from (p.rows + rows_in i) is in
    let last : is_end i ≡ true → more ≡ [] = λ b. ap (encode_from (p.rows + rows_in i)) (none_behind (behind p i) q is b f.1) in
    let long : length (front ++ piece) ≡ p.at + size_of i = length-append front piece ∙ omega (arith, record_long p.rows i) in
    let later : decode_from n (front ++ (piece ++ more)) (behind p i) ≡ Ok is =
    ap (λ bs. decode_from n bs (behind p i)) (sym (append_assoc front piece more))
    ∙ reread_from n (front ++ piece) (behind p i) q is f.1 e (few-behind p i f.0 few) long (omega arith) in
    ap (λ r. followed p r (decode_from n (front ++ (piece ++ more)))) (read_record front more p i f.0 few at last)
    ∙ ap (map_ok (λ l. i ∷ l)) later

-- every record takes a byte
pub encoded_long : (rows : ℕ) (items : List Item) → length items ≤ length (encode_from rows items)
encoded_long rows [] = omega arith
encoded_long rows (i ∷ is) =
    let rest = encoded_long (rows + rows_in i) is in
    simp length-append (omega (arith, record_long rows i, size_pos i))

-- a line-up that was encoded decodes to the same records
pub decode-encode : (items : List Item) (q : Place) → Follows start items q → q.ended ≡ true → decode (encode items) ≡ Ok items
decode-encode items q f e = reread_from (length (encode items) + 1) [] start q items f e (omega arith) refl (omega (arith, encoded_long 0 items))
