-- How a chain in order stays in order where a row is linked in or unlinked. Assumes nothing.
use Rattle.std.proofs.Common.{◌≡◌, ℕ, suc, ◌<◌, ◌≤◌, Bool, true, false, ◌⊎◌, List, length, get_or, set, sym, ap, ◌∙◌, subst, inl, inr, arith}
use borrow.Author.Tests.{both_ways}
use Rattle.std.proofs.lemmas.List.{get_or-set_same, get_or-set_other, length-set}
use Rattle.std.proofs.lemmas.Bool.{cases_eq, cases_lt}
use Rattle.sets.specs.Sets.{member}
use Rattle.sets.specs.Chains.{off, on_chain}
use Rattle.sets.proofs.Members.{member-within}
use Rattle.board.specs.Order.{Begins, GoesOn}
use Rattle.board.proofs.Order.{Follows, next_follows, follows_one, not_before, keep, join_before, join_behind, leave_between}

-- the chain from `head` on, through the rows xs in order
pub record Ordered (links : List ℕ) (xs : List Bool) (head : ℕ) : Type 0 where
  pub first : Follows xs 0 head
  pub next : (k : ℕ) → member xs k ≡ true → Follows xs (suc k) (get_or links k 0)

pub ordered : (links : List ℕ) (head : ℕ) → Begins head links → GoesOn links → Ordered links (on_chain links) head
ordered links head b g = record {
  first = subst (Follows (on_chain links) 0) (sym b) (next_follows (on_chain links) 0 (omega arith));
  next = λ k e. subst (Follows (on_chain links) (suc k)) (sym (g k e)) (next_follows (on_chain links) (suc k) (member-within (on_chain links) k e));
}

pub in_order : (links : List ℕ) (xs : List Bool) (head : ℕ) → on_chain links ≡ xs → Ordered links xs head → Begins head links × GoesOn links
in_order links xs head e o =
    let same : Ordered links (on_chain links) head = subst (λ ys. Ordered links ys head) (sym e) o in (
      follows_one (on_chain links) 0 head _ same.first (next_follows (on_chain links) 0 (omega arith)),
      λ k m. follows_one (on_chain links) (suc k) _ _ (same.next k m) (next_follows (on_chain links) (suc k) (member-within (on_chain links) k m)),
    )

-- what follows row k, where k is m and its link is j
at : (ys : List Bool) (links : List ℕ) (k m j : ℕ) → k ≡ m → get_or links m 0 ≡ j → Follows ys (suc m) j → Follows ys (suc k) (get_or links k 0)
at ys links k m j e f p = subst (λ i. Follows ys (suc i) (get_or links i 0)) (sym e) (subst (Follows ys (suc m)) (sym f) p)

module _ (links : List ℕ) (xs : List Bool) (head r : ℕ) (many : length links ≡ length xs) (o : Ordered links xs head) where
  -- a row other than r is on the chain only if it was
  was : (b : Bool) (k : ℕ) → ¬ (k ≡ r) → member (set xs r b) k ≡ true → member xs k ≡ true
  was b k ne e = sym (get_or-set_other xs r k b false ne) ∙ e

  -- r joins before the first row
  pub link_first : r < head → Ordered (set links r head) (set xs r true) r
  link_first h = record { first = join_before xs 0 head r o.first (omega arith) h; next = next }
    where
      within : r < length links
      within = let w = o.first.within in omega arith

      next : (k : ℕ) → member (set xs r true) k ≡ true → Follows (set xs r true) (suc k) (get_or (set links r head) k 0)
      next k e =
          elim (cases_eq k r) [
            | inl same ↦ at _ _ k r head same (get_or-set_same links r head 0 within) (join_behind xs 0 head r o.first (omega arith) h)
            | inr ne ↦
                let on = was true k ne e in
                let past = not_before xs 0 head k o.first (omega arith) on in
                subst (Follows (set xs r true) (suc k)) (sym (get_or-set_other links r k head 0 ne)) (keep xs (suc k) _ r true (o.next k on) (inl (omega arith)))
          ]

  -- the first row r leaves
  pub unlink_first : head ≡ r → r < length xs → Ordered (set links r off) (set xs r false) (get_or links r 0)
  unlink_first same h = record { first = leave_between xs 0 r _ start h (o.next r (start.found h)); next = next }
    where
      start : Follows xs 0 r
      start = subst (Follows xs 0) same o.first

      next : (k : ℕ) → member (set xs r false) k ≡ true → Follows (set xs r false) (suc k) (get_or (set links r off) k 0)
      next k e =
          elim (cases_eq k r) [
            | inl same ↦ absurd (both_ways _ (ap (member (set xs r false)) same ∙ get_or-set_same xs r false false h) e)
            | inr ne ↦
                let on = was false k ne e in
                let past = not_before xs 0 r k start (omega arith) on in
                subst (Follows (set xs r false) (suc k)) (sym (get_or-set_other links r k off 0 ne)) (keep xs (suc k) _ r false (o.next k on) (inl (omega arith)))
          ]

  module _ (p : ℕ) (on-p : member xs p ≡ true) (below : p < r) where
    -- what follows a row k other than p and r lies on the same side of r
    beside : (k q : ℕ) → get_or links p 0 ≡ q → r ≤ q → ¬ (k ≡ p) → ¬ (k ≡ r) → member xs k ≡ true → (r < suc k) ⊎ (get_or links k 0 < r)
    beside k q f h ne nr on =
        elim (cases_lt k p) [
          | inl l ↦ inr (let j = not_before xs (suc k) _ p (o.next k on) l on-p in omega arith)
          | inr l ↦ inl (let j = not_before xs (suc p) _ k (o.next p on-p) (omega arith) on in omega arith)
        ]

    -- r joins behind p, the last row below it
    pub link_after : (q : ℕ) → get_or links p 0 ≡ q → r < q → Ordered (set (set links r q) p r) (set xs r true) head
    link_after q f h = record { first = keep xs 0 head r true o.first (inr (omega (arith, not_before xs 0 head p o.first (omega arith) on-p))); next = next }
      where
        behind : Follows xs (suc p) q
        behind = subst (Follows xs (suc p)) f (o.next p on-p)

        within : r < length links
        within = let w = behind.within in omega arith

        next : (k : ℕ) → member (set xs r true) k ≡ true → Follows (set xs r true) (suc k) (get_or (set (set links r q) p r) k 0)
        next k e =
            elim (cases_eq k p) [
              | inl same ↦ at _ _ k p r same (get_or-set_same (set links r q) p r 0 (omega (arith, within, length-set links r q))) (join_before xs (suc p) q r behind below h)
              | inr ne ↦
                  elim (cases_eq k r) [
                    | inl same ↦
                        at _ _ k r q same (get_or-set_other (set links r q) p r r 0 (omega arith) ∙ get_or-set_same links r q 0 within)
                        (join_behind xs (suc p) q r behind below h)
                    | inr nr ↦
                        let on = was true k nr e in
                        let link = get_or-set_other (set links r q) p k r 0 ne ∙ get_or-set_other links r k q 0 nr in
                        subst (Follows (set xs r true) (suc k)) (sym link) (keep xs (suc k) _ r true (o.next k on) (beside k q f (omega arith) ne nr on))
                  ]
            ]

    -- r, which stands behind p, leaves
    pub unlink_after : (q : ℕ) → get_or links p 0 ≡ r → r < length xs → get_or links r 0 ≡ q → Ordered (set (set links p q) r off) (set xs r false) head
    unlink_after q f h g = record { first = keep xs 0 head r false o.first (inr (omega (arith, not_before xs 0 head p o.first (omega arith) on-p))); next = next }
      where
        behind : Follows xs (suc p) r
        behind = subst (Follows xs (suc p)) f (o.next p on-p)

        further : Follows xs (suc r) q
        further = subst (Follows xs (suc r)) g (o.next r (behind.found h))

        next : (k : ℕ) → member (set xs r false) k ≡ true → Follows (set xs r false) (suc k) (get_or (set (set links p q) r off) k 0)
        next k e =
            elim (cases_eq k r) [
              | inl same ↦ absurd (both_ways _ (ap (member (set xs r false)) same ∙ get_or-set_same xs r false false h) e)
              | inr nr ↦
                  elim (cases_eq k p) [
                    | inl same ↦
                        at _ _ k p q same (get_or-set_other (set links p q) r p off 0 (omega arith) ∙ get_or-set_same links p q 0 (omega arith))
                        (leave_between xs (suc p) r q behind h further)
                    | inr ne ↦
                        let on = was false k nr e in
                        let link = get_or-set_other (set links p q) r k off 0 nr ∙ get_or-set_other links p k q 0 ne in
                        subst (Follows (set xs r false) (suc k)) (sym link) (keep xs (suc k) _ r false (o.next k on) (beside k r f (omega arith) ne nr on))
                  ]
            ]
