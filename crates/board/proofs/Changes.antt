-- A chain board, and what becomes of it where a row is linked in or unlinked. Assumes nothing.
use Rattle.std.proofs.Common.{◌≡◌, ℕ, suc, ◌<◌, ◌≤◌, Bool, true, false, List, length, get_or, set, sym, refl, ap, ◌∙◌, subst, inl, inr, arith}
use borrow.Author.Tests.{both_ways}
use Rattle.std.proofs.lemmas.List.{length-set, get_or-set_other}
use Rattle.std.proofs.lemmas.Bool.{cases_eq}
use Rattle.sets.specs.Sets.{member}
use Rattle.sets.specs.Chains.{off, on_chain}
use Rattle.sets.proofs.Members.{member-within}
use Rattle.sets.proofs.Chains.{length_chain, chain_on, chain_same, chain_off}
use Rattle.board.specs.Order.{Begins, GoesOn, LastBelow}
use Rattle.board.specs.declared.chain.ChainBoard.{ChainBoard}
use Rattle.board.proofs.Order.{not_before}
use Rattle.board.proofs.Links.{Ordered, ordered, in_order, link_first, link_after, unlink_first, unlink_after}

-- a chain that begins at `head`, is in order, and has the rows `rows` on it
pub record Chain (links : List ℕ) (head : ℕ) (rows : List Bool) : Type 0 where
  pub many : length links ≡ 32
  pub begins : Begins head links
  pub on : GoesOn links
  pub rows_are : on_chain links ≡ rows

module _ (board : ChainBoard) where
  abbrev rows : List Bool
  rows = on_chain board.links

  pub length-rows : length rows ≡ 32
  length-rows = length_chain board.links ∙ board.many

  pub row_within : (row : ℕ) → member rows row ≡ true → row < 32
  row_within row e = omega (arith, member-within rows row e, length-rows)

  pub in_chain : Ordered board.links rows board.head
  in_chain = ordered board.links board.head board.begins board.on

  pub head_within : board.head ≤ 32
  head_within = omega (arith, in_chain.first.within, length-rows)

  pub head_on : board.head < 32 → member rows board.head ≡ true
  head_on h = in_chain.first.found (omega (arith, length-rows))

  -- no row on the board is below the first, and the first is no absent row
  pub head_least : (row : ℕ) → member rows row ≡ true → board.head ≤ row
  head_least row e = not_before rows 0 board.head row in_chain.first (omega arith) e

  pub head_below : (row : ℕ) → member rows row ≡ false → row < 32 → board.head ≤ row → board.head < row
  head_below row absent h l =
      elim (cases_eq board.head row) [
        | inl same ↦ absurd (both_ways _ absent (subst (λ k. member rows k ≡ true) same (head_on (omega arith))))
        | inr ne ↦ omega arith
      ]

  -- the link of a row leads on, to a larger row or to the end
  pub link_larger : (row : ℕ) → member rows row ≡ true → row < get_or board.links row 0
  link_larger row e = (in_chain.next row e).behind

  pub link_within : (row : ℕ) → member rows row ≡ true → get_or board.links row 0 ≤ 32
  link_within row e = omega (arith, (in_chain.next row e).within, length-rows)

  pub link_on : (row : ℕ) → member rows row ≡ true → get_or board.links row 0 < 32 → member rows (get_or board.links row 0) ≡ true
  link_on row e h = (in_chain.next row e).found (omega (arith, length-rows))

  chained : (links : List ℕ) (head : ℕ) (xs : List Bool) → length links ≡ 32 → on_chain links ≡ xs → Ordered links xs head → Chain links head xs
  chained links head xs m e o = let h = in_order links xs head e o in record { many = m; begins = h.0; on = h.1; rows_are = e }

  same_length : length board.links ≡ length rows
  same_length = sym (length_chain board.links)

  pub linked_first : (r : ℕ) → r < board.head → Chain (set board.links r board.head) r (set rows r true)
  linked_first r h =
      let low = head_within in
      chained _ r (set rows r true) (length-set board.links r _ ∙ board.many) (chain_on board.links r board.head (omega arith))
      (link_first board.links rows board.head r same_length in_chain h)

  pub unlinked_first : board.head < 32 → Chain (set board.links board.head off) (get_or board.links board.head 0) (set rows board.head false)
  unlinked_first h =
      chained _ _ (set rows board.head false) (length-set board.links board.head off ∙ board.many) (chain_off board.links board.head)
      (unlink_first board.links rows board.head board.head same_length in_chain refl (omega (arith, length-rows)))

  -- what stands behind the last row below r is not r, which is absent
  past_absent : (p r : ℕ) → LastBelow board.links r p → member rows r ≡ false → r < 32 → r < get_or board.links p 0
  past_absent p r (on-p, below, behind) absent h =
      elim (cases_eq (get_or board.links p 0) r) [
        | inl same ↦ absurd (both_ways _ absent (subst (λ k. member rows k ≡ true) same (link_on p on-p (omega arith))))
        | inr ne ↦ omega arith
      ]

  pub linked_after : (p r : ℕ) → LastBelow board.links r p → member rows r ≡ false → r < 32
      → Chain (set (set board.links r (get_or board.links p 0)) p r) board.head (set rows r true)
  linked_after p r last absent h =
      let links = board.links in
      let q = get_or links p 0 in
      let low = link_within p last.0 in
      let below : p < r = last.1 in
      let on : on_chain (set links r q) ≡ set rows r true = chain_on links r q (omega arith) in
      let still : member (on_chain (set links r q)) p ≡ true = ap (λ xs. member xs p) on ∙ get_or-set_other rows r p true false (omega arith) ∙ last.0 in
      chained _ _ (set rows r true) (length-set (set links r q) p r ∙ length-set links r q ∙ board.many)
      (chain_same (set links r q) p r (omega arith) still ∙ on)
      (link_after links rows board.head r same_length in_chain p last.0 below q refl (past_absent p r last absent h))

  -- what stands behind the last row below r is r, which is present
  at_present : (p r : ℕ) → LastBelow board.links r p → member rows r ≡ true → get_or board.links p 0 ≡ r
  at_present p r (on-p, below, behind) present =
      let low = not_before rows (suc p) _ r (in_chain.next p on-p) below present in
      omega arith

  pub unlinked_after : (p r : ℕ) → LastBelow board.links r p → member rows r ≡ true
      → Chain (set (set board.links p (get_or board.links r 0)) r off) board.head (set rows r false)
  unlinked_after p r last present =
      let links = board.links in
      let q = get_or links r 0 in
      let low = link_within r present in
      chained _ _ (set rows r false) (length-set (set links p q) r off ∙ length-set links p q ∙ board.many)
      (chain_off (set links p q) r ∙ ap (λ xs. set xs r false) (chain_same links p q (omega arith) last.0))
      (unlink_after links rows board.head r same_length in_chain p last.0 last.1 q (at_present p r last present) (member-within rows r present) refl)
