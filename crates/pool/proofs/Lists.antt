-- A free-list pool, and what becomes of it where a block is given or taken. Assumes nothing.
use Rattle.std.proofs.Common.{◌≡◌, ℕ, zero, suc, ◌+◌, ◌-◌, ◌<◌, ◌≤◌, Bool, true, false, not, eqb, ltb, List, [], ◌∷◌, ◌++◌, length, get_or, take, set, replicate, sym, refl, ap, ◌∙◌, subst, ap₂, add-one, arith}
use Rattle.std.proofs.lemmas.List.{length-set, length-take-le, get_or-take, get_or-append_right, set-append_right, append-nil, append_assoc, take-replicate, replicate_more}
use Rattle.std.proofs.lemmas.Bool.{and_parts}
use Rattle.sets.specs.Sets.{empty, full, member, size, IsEmpty}
use Rattle.sets.specs.Chains.{off, on_chain}
use Rattle.sets.proofs.Members.{length-full, member-empty, size-within, size_join, size_leave, none_empty}
use Rattle.sets.proofs.Chains.{length_chain, length_chain_first, member_chain, test_past, chain_empty, chain_on, chain_off}
use Rattle.pool.specs.Visits.{end, free_in, visits}
use Rattle.pool.specs.declared.free_list.FreeListPool.{FreeListPool}
use Rattle.pool.proofs.Visits.{starts_within, visits_none, visits-some, visits-take, visits_give}

take-set : {X : Type 0} (n : ℕ) (xs : List X) (k : ℕ) (x : X) → take n (set xs k x) ≡ set (take n xs) k x
take-set zero xs k x = refl
take-set (suc n) [] k x = refl
take-set (suc n) (y ∷ xs) zero x = refl
take-set (suc n) (y ∷ xs) (suc k) x = ap (λ ys. y ∷ ys) (take-set n xs k x)

-- a list with no block at all
pub free_none : (blocks : ℕ) → blocks ≤ 64 → free_in blocks (replicate 64 off) ≡ empty blocks
free_none blocks h = ap on_chain (take-replicate blocks 64 off h) ∙ chain_empty blocks

-- the first i of n blocks, which are given in turn
pub first_of : ℕ → ℕ → List Bool
first_of n i = full i ++ empty (n - i)

pub first_none : (n : ℕ) → first_of n 0 ≡ empty n
unfolding first_of full
first_none n = let all : n - 0 ≡ n = omega arith in ap empty all

pub first_all : (n : ℕ) → first_of n n ≡ full n
unfolding first_of empty
first_all n = let none : n - n ≡ 0 = omega arith in ap (λ m. full n ++ empty m) none ∙ append-nil (full n)

pub first_absent : (n i : ℕ) → member (first_of n i) i ≡ false
unfolding first_of
first_absent n i = get_or-append_right (full i) (empty (n - i)) i i false (length-full i) (omega arith) ∙ member-empty (n - i) (i - i)

pub first_more : (n i : ℕ) → i < n → set (first_of n i) i true ≡ first_of n (i + 1)
unfolding first_of full empty
first_more n i h =
    let one : n - i ≡ suc (n - (i + 1)) = omega arith in
    let here : i - i ≡ 0 = omega arith in
    set-append_right (full i) (empty (n - i)) i i true (length-full i) (omega arith)
    ∙ ap₂ (λ m k. full i ++ set (empty m) k true) one here
    ∙ sym (append_assoc (full i) (true ∷ []) (empty (n - (i + 1))))
    ∙ ap (λ xs. xs ++ empty (n - (i + 1))) (replicate_more i true)

-- a free list from `head` on, of `count` blocks, which are the blocks `free` of the first `blocks`
pub record FreeList (blocks count head : ℕ) (links : List ℕ) (free : List Bool) : Type 0 where
  pub many : length links ≡ 64
  pub counted : count ≡ size (free_in blocks links)
  pub visited : visits links count head (free_in blocks links) ≡ true
  pub free_are : free_in blocks links ≡ free

listed : (blocks count head : ℕ) (links : List ℕ) (free : List Bool) → length links ≡ 64 → free_in blocks links ≡ free
    → count ≡ size free → visits links count head free ≡ true → FreeList blocks count head links free
listed blocks count head links free m e s v = record {
  many = m;
  counted = s ∙ ap size (sym e);
  visited = ap (visits links count head) e ∙ v;
  free_are = e;
}

module _ (pool : FreeListPool) where
  abbrev free : List Bool
  free = free_in pool.blocks pool.links

  pub length-free : length free ≡ pool.blocks
  length-free = length_chain_first pool.links pool.blocks 64 pool.number.1 pool.many

  pub count-within : pool.count ≤ pool.blocks
  count-within = omega (arith, size-within free, length-free, pool.counted)

  -- whether a block is free is told by its link; none is at or past the number of blocks
  pub is_free_lem : (b : ℕ) → b < pool.blocks → not (eqb (get_or pool.links b 0) off) ≡ member free b
  is_free_lem b h =
      let few = pool.number.1 in
      let many = pool.many in
      let first = take pool.blocks pool.links in
      let within : b < length first = omega (arith, length-take-le pool.blocks pool.links (omega arith)) in
      sym (member_chain first b within ∙ ap (λ link. not (eqb link off)) (get_or-take pool.blocks pool.links b 0 h))

  pub is_past : (b : ℕ) → pool.blocks ≤ b → ltb b pool.blocks ≡ member free b
  is_past b h = test_past (take pool.blocks pool.links) pool.blocks b (sym (length_chain (take pool.blocks pool.links)) ∙ length-free) h

  few : length free ≤ end
  few = omega (arith, length-free, pool.number.1)

  pub head_within : pool.head ≤ end
  head_within = starts_within pool.links pool.count pool.head free few pool.visited

  pub given : (b : ℕ) → b < pool.blocks → member free b ≡ false
      → FreeList pool.blocks (pool.count + 1) b (set pool.links b pool.head) (set free b true)
  given b h out =
      let links = pool.links in
      let low = head_within in
      let wide : length links ≡ 64 = pool.many in
      let few = pool.number.1 in
      let within : b < length free = omega (arith, length-free) in
      listed pool.blocks (pool.count + 1) b _ (set free b true) (length-set links b pool.head ∙ wide)
      (ap on_chain (take-set pool.blocks links b pool.head) ∙ chain_on (take pool.blocks links) b pool.head (omega arith))
      (ap (λ n. n + 1) pool.counted ∙ sym (size_join free b within out))
      (rw add-one (visits_give links pool.count pool.head b free (omega arith) within out pool.visited))

  -- a list that begins at the end has no block
  pub end_empty : pool.head ≡ end → IsEmpty free
  end_empty e = none_empty free (sym pool.counted ∙ visits_none pool.links pool.count pool.head free few pool.visited e)

  -- a list that begins elsewhere begins with a free block
  pub begun : ¬ (pool.head ≡ end) → 1 ≤ pool.count
  begun ne = visits-some pool.links pool.count pool.head free pool.visited ne

  visited_more : ¬ (pool.head ≡ end) → visits pool.links (suc (pool.count - 1)) pool.head free ≡ true
  visited_more ne =
      let one_more : pool.count ≡ suc (pool.count - 1) = omega (arith, begun ne) in
      subst (λ n. visits pool.links n pool.head free ≡ true) one_more pool.visited

  pub head_free : ¬ (pool.head ≡ end) → member free pool.head ≡ true
  head_free ne = (and_parts (member free pool.head) _ (visited_more ne)).0

  pub taken : ¬ (pool.head ≡ end)
      → FreeList pool.blocks (pool.count - 1) (get_or pool.links pool.head 0) (set pool.links pool.head off) (set free pool.head false)
  taken ne =
      let links = pool.links in
      let head = pool.head in
      listed pool.blocks (pool.count - 1) _ _ (set free head false) (length-set links head off ∙ pool.many)
      (ap on_chain (take-set pool.blocks links head off) ∙ chain_off (take pool.blocks links) head)
      (omega (arith, pool.counted, size_leave free head (head_free ne)))
      (visits-take links (pool.count - 1) head off free (visited_more ne))
