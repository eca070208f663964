-- How the numbers on a chain change with a link. Assumes nothing.
use Rattle.std.proofs.Common.{◌≡◌, ℕ, zero, suc, ◌<◌, ◌≤◌, true, false, not, eqb, ltb, List, ◌∷◌, length, get_or, take, set, replicate, sym, refl, ap, ◌∙◌, arith, le-ltb, ne_eqb}
use Rattle.std.proofs.lemmas.List.{length-map, length-take-le, map-set, get_or-map, get_or_past, set-get_or}
use Rattle.sets.specs.Sets.{empty, member}
use Rattle.sets.specs.Chains.{off, on_chain}

pub length_chain : (links : List ℕ) → length (on_chain links) ≡ length links
length_chain links = length-map links (λ link. not (eqb link off))

-- the same of the first n links
pub length_chain_first : (links : List ℕ) (n many : ℕ) → n ≤ many → length links ≡ many → length (on_chain (take n links)) ≡ n
length_chain_first links n many h e = length_chain (take n links) ∙ length-take-le n links (omega (arith, e))

-- where every link is `off`, no number is on the chain
pub chain_empty : (n : ℕ) → on_chain (replicate n off) ≡ empty n
unfolding empty
chain_empty zero = refl
chain_empty (suc n) = ap (λ xs. false ∷ xs) (chain_empty n)

-- a number is on the chain where its link is not `off`
pub member_chain : (links : List ℕ) (k : ℕ) → k < length links → member (on_chain links) k ≡ not (eqb (get_or links k 0) off)
member_chain links k h = get_or-map (λ link. not (eqb link off)) links k 0 false h

-- a test that fails, since there are only n links, is right too
pub test_past : (links : List ℕ) (n k : ℕ) → length links ≡ n → n ≤ k → ltb k n ≡ member (on_chain links) k
test_past links n k many h = le-ltb k n h ∙ sym (get_or_past (on_chain links) k false (omega (arith, length_chain links)))

-- a number whose link is set is on the chain
pub chain_on : (links : List ℕ) (k link : ℕ) → link < off → on_chain (set links k link) ≡ set (on_chain links) k true
chain_on links k link h = map-set (λ link. not (eqb link off)) links k link ∙ ap (λ b. set (on_chain links) k (not b)) (ne_eqb link off (omega arith))

-- one that was there before changes nothing
pub chain_same : (links : List ℕ) (k link : ℕ) → link < off → member (on_chain links) k ≡ true → on_chain (set links k link) ≡ on_chain links
chain_same links k link h e = chain_on links k link h ∙ ap (set (on_chain links) k) (sym e) ∙ set-get_or (on_chain links) k false

-- a number whose link is `off` is not on the chain
pub chain_off : (links : List ℕ) (k : ℕ) → on_chain (set links k off) ≡ set (on_chain links) k false
chain_off links k = map-set (λ link. not (eqb link off)) links k off
