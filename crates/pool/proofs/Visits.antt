-- What holds of a free list, and how it changes where a block is given or taken. Assumes nothing.
use Rattle.std.proofs.Common.{◌≡◌, ℕ, zero, suc, ◌<◌, ◌≤◌, Bool, true, false, List, length, get_or, set, sym, refl, ap, ◌∙◌, subst, arith, eqb-true}
use borrow.Author.Tests.{both_ways}
use Rattle.std.proofs.lemmas.List.{get_or-set_same, get_or-set_other, set-set, set-get_or}
use Rattle.std.proofs.lemmas.Bool.{and_parts, and_from}
use Rattle.sets.specs.Sets.{member}
use Rattle.sets.proofs.Members.{member-within}
use Rattle.pool.specs.Visits.{end, visits}

-- a free list begins with a member or at the end
pub starts_within : (links : List ℕ) (n at : ℕ) (xs : List Bool) → length xs ≤ end → visits links n at xs ≡ true → at ≤ end
starts_within links zero at xs l v = omega (arith, eqb-true at end v)
starts_within links (suc n) at xs l v = omega (arith, member-within xs at (and_parts (member xs at) _ v).0)

-- it visits no block where it begins at the end, and some block elsewhere
pub visits_none : (links : List ℕ) (n at : ℕ) (xs : List Bool) → length xs ≤ end → visits links n at xs ≡ true → at ≡ end → n ≡ 0
visits_none links zero at xs l v e = refl
visits_none links (suc n) at xs l v e = omega (arith, member-within xs at (and_parts (member xs at) _ v).0)

pub visits-some : (links : List ℕ) (n at : ℕ) (xs : List Bool) → visits links n at xs ≡ true → ¬ (at ≡ end) → 1 ≤ n
visits-some links zero at xs v ne = absurd (ne (eqb-true at end v))
visits-some links (suc n) at xs v ne = omega arith

-- the link of a block that is no member is not read
pub visits-apart : (links : List ℕ) (n at : ℕ) (xs : List Bool) (b link : ℕ) → member xs b ≡ false → visits links n at xs ≡ true → visits (set links b link) n at xs ≡ true
visits-apart links zero at xs b link out v = v
visits-apart links (suc n) at xs b link out v =
    let parts = and_parts (member xs at) (visits links n (get_or links at 0) (set xs at false)) v in
    let apart : ¬ (at ≡ b) = λ same. both_ways (member xs b) out (subst (λ k. member xs k ≡ true) same parts.0) in
    let still-out : member (set xs at false) b ≡ false = get_or-set_other xs at b false false (λ same. apart (sym same)) ∙ out in
    let rest = visits-apart links n (get_or links at 0) (set xs at false) b link still-out parts.1 in
    and_from _ _ parts.0 (subst (λ k. visits (set links b link) n k (set xs at false) ≡ true) (sym (get_or-set_other links b at link 0 apart)) rest)

-- the first block leaves
pub visits-take : (links : List ℕ) (n at link : ℕ) (xs : List Bool) → visits links (suc n) at xs ≡ true → visits (set links at link) n (get_or links at 0) (set xs at false) ≡ true
visits-take links n at link xs v =
    let parts = and_parts (member xs at) (visits links n (get_or links at 0) (set xs at false)) v in
    visits-apart links n (get_or links at 0) (set xs at false) at link (get_or-set_same xs at false false (member-within xs at parts.0)) parts.1

-- a block that is no member joins before the first
pub visits_give : (links : List ℕ) (n at b : ℕ) (xs : List Bool) → b < length links → b < length xs → member xs b ≡ false
    → visits links n at xs ≡ true → visits (set links b at) (suc n) b (set xs b true) ≡ true
visits_give links n at b xs h l out v =
    let same : set (set xs b true) b false ≡ xs = set-set xs b true false ∙ ap (set xs b) (sym out) ∙ set-get_or xs b false in
    and_from _ _ (get_or-set_same xs b true false l)
    (subst (λ k. visits (set links b at) n k (set (set xs b true) b false) ≡ true) (sym (get_or-set_same links b at 0 h))
    (subst (λ ys. visits (set links b at) n at ys ≡ true) (sym same) (visits-apart links n at xs b at out v)))
