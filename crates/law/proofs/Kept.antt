-- Blocks that rows take and give back are never shared or lost. Assumes nothing.
use Rattle.std.proofs.Common.{◌≡◌, ℕ, ◌+◌, ◌<◌, Bool, true, false, cond, ◌⊎◌, List, length, get_or, set, Some, None, Option, sym, ap, ◌∙◌, subst, inl, inr, arith, length-set}
use lib.ListN.{get_or-eq_default}
use Rattle.std.proofs.lemmas.List.{get_or-set_same, get_or-set_other}
use Rattle.std.proofs.lemmas.List.Sums.{sum_by-set}
use Rattle.std.proofs.lemmas.Bool.{cases_eq, cases_lt, both_ways}
use Rattle.law.specs.Checks.{count}
use Rattle.law.proofs.Basics.{some_is_none}
use Rattle.law.proofs.Sums.{sum_to, sum_same, sum_raised}

-- a member of a set of blocks is one of its blocks
member_in : (blocks : List Bool) (b : ℕ) → get_or blocks b false ≡ true → b < length blocks
member_in blocks b e = elim (cases_lt b (length blocks)) [ inl l ↦ l | inr l ↦ absurd (both_ways (get_or blocks b false) (get_or-eq_default blocks false l) e) ]

abbrev pub one_if : Option ℕ → ℕ
one_if (Some b) = 1
one_if None = 0

-- The first n rows hold blocks: `hold r` is the block of row r, if it has one. `free₀` was the free set at first, `free` is the one now.
pub record Kept (n : ℕ) (free₀ free : List Bool) (hold : ℕ → Option ℕ) : Type 0 where
  -- a block that is held is not free
  pub out : (r b : ℕ) → hold r ≡ Some b → (b < length free) × (get_or free b false ≡ false)
  -- no two rows hold one block
  pub apart : (q r b : ℕ) → hold q ≡ Some b → hold r ≡ Some b → q ≡ r
  -- a block that is free or held was free at first
  pub was_free : (b : ℕ) → get_or free b false ≡ true → get_or free₀ b false ≡ true
  pub was_taken : (r b : ℕ) → hold r ≡ Some b → get_or free₀ b false ≡ true
  -- a block that was free at first is free or held
  pub kept : (b : ℕ) → get_or free₀ b false ≡ true → (get_or free b false ≡ true) ⊎ ((r : ℕ) × (hold r ≡ Some b))
  -- and the number of blocks free or held is what it was
  pub total : count free + sum_to n (λ r. one_if (hold r)) ≡ count free₀

module _ {n : ℕ} {free₀ free : List Bool} {hold hold' : ℕ → Option ℕ} (w : Kept n free₀ free hold) where
  -- row q, which has none, takes the free block b
  pub kept_takes : (q b : ℕ) → q < n → hold q ≡ None → get_or free b false ≡ true → hold' q ≡ Some b → ((r : ℕ) → (q ≡ r → ⊥) → hold' r ≡ hold r)
      → Kept n free₀ (set free b false) hold'
  kept_takes q b in_plan none is_free new others = record {
    out = λ r x e. elim (who r x e) [
      | inl p ↦ subst Out p.1 (rw length-set inside, get_or-set_same free b false false inside)
      | inr p ↦ let o = w.out r x p in (rw length-set o.0, get_or-set_other free b x false false (not_held r x p) ∙ o.1)
    ];
    apart = λ p r x e f. elim (who p x e) [
      | inl s ↦ elim (who r x f) [ inl t ↦ sym s.0 ∙ t.0 | inr t ↦ absurd (not_held r x t (sym s.1)) ]
      | inr s ↦ elim (who r x f) [ inl t ↦ absurd (not_held p x s (sym t.1)) | inr t ↦ w.apart p r x s t ]
    ];
    was_free = λ x e. elim (cases_eq b x) [
      | inl s ↦ subst (λ z. get_or free₀ z false ≡ true) s (w.was_free b is_free)
      | inr d ↦ w.was_free x (sym (get_or-set_other free b x false false (λ s. d (sym s))) ∙ e)
    ];
    was_taken = λ r x e. elim (who r x e) [
      | inl p ↦ subst (λ z. get_or free₀ z false ≡ true) p.1 (w.was_free b is_free)
      | inr p ↦ w.was_taken r x p
    ];
    kept = λ x e. elim (w.kept x e) [
      | inl f ↦ elim (cases_eq b x) [ inl s ↦ inr (q, new ∙ ap Some s) | inr d ↦ inl (get_or-set_other free b x false false (λ s. d (sym s)) ∙ f) ]
      | inr p ↦ inr (p.0, others p.0 (λ s. some_is_none (hold q) x (ap hold s ∙ p.1) none) ∙ p.1)
    ];
    total = omega (
      arith,
      w.total,
      sum_by-set (λ x. cond x 1 0) free b false false inside,
      ap (λ x. cond {A = ℕ} x 1 0) is_free,
      sum_raised n (λ r. one_if (hold r)) (λ r. one_if (hold' r)) q in_plan (omega (arith, ap one_if new, ap one_if none)) (λ r d. ap one_if (others r d)),
    );
  }
    where
      inside : b < length free
      inside = member_in free b is_free

      Out : ℕ → Type 0
      Out x = (x < length (set free b false)) × (get_or (set free b false) x false ≡ false)

      who : (r x : ℕ) → hold' r ≡ Some x → ((q ≡ r) × (b ≡ x)) ⊎ (hold r ≡ Some x)
      who r x e = elim (cases_eq q r) [ inl p ↦ inl (p, cc (p, e, new)) | inr d ↦ inr (sym (others r d) ∙ e) ]

      not_held : (r x : ℕ) → hold r ≡ Some x → x ≡ b → ⊥
      not_held r x e s = both_ways (get_or free b false) (subst (λ z. get_or free z false ≡ false) s (w.out r x e).1) is_free

  -- row q gives back the block b that it holds
  pub kept_gives : (q b : ℕ) → q < n → hold q ≡ Some b → hold' q ≡ None → ((r : ℕ) → (q ≡ r → ⊥) → hold' r ≡ hold r)
      → Kept n free₀ (set free b true) hold'
  kept_gives q b in_plan held none others = record {
    out = λ r x e. let o = w.out r x (still r x e).1 in
        (rw length-set o.0, get_or-set_other free b x true false (λ s. (still r x e).0 (w.apart q r x (held ∙ ap Some (sym s)) (still r x e).1)) ∙ o.1);
    apart = λ p r x e f. w.apart p r x (still p x e).1 (still r x f).1;
    was_free = λ x e. elim (cases_eq b x) [
      | inl s ↦ subst (λ z. get_or free₀ z false ≡ true) s (w.was_taken q b held)
      | inr d ↦ w.was_free x (sym (get_or-set_other free b x true false (λ s. d (sym s))) ∙ e)
    ];
    was_taken = λ r x e. w.was_taken r x (still r x e).1;
    kept = λ x e. elim (cases_eq b x) [
      | inl s ↦ inl (subst (λ z. get_or (set free b true) z false ≡ true) s (get_or-set_same free b true false (w.out q b held).0))
      | inr d ↦ elim (w.kept x e) [
        | inl f ↦ inl (get_or-set_other free b x true false (λ s. d (sym s)) ∙ f)
        | inr p ↦ inr (p.0, others p.0 (λ s. d (cc (s, held, p.1))) ∙ p.1)
      ]
    ];
    total = omega (
      arith,
      w.total,
      sum_by-set (λ x. cond x 1 0) free b true false (w.out q b held).0,
      ap (λ x. cond {A = ℕ} x 1 0) (w.out q b held).1,
      sum_raised n (λ r. one_if (hold' r)) (λ r. one_if (hold r)) q in_plan (omega (arith, ap one_if held, ap one_if none)) (λ r d. sym (ap one_if (others r d))),
    );
  }
    where
      still : (r x : ℕ) → hold' r ≡ Some x → (q ≡ r → ⊥) × (hold r ≡ Some x)
      still r x e = elim (cases_eq q r) [ inl p ↦ absurd (some_is_none (hold' q) x (ap hold' p ∙ e) none) | inr d ↦ (d, sym (others r d) ∙ e) ]

  -- nothing is taken or given
  pub kept_same : ((r : ℕ) → hold' r ≡ hold r) → Kept n free₀ free hold'
  kept_same same = record {
    out = λ r b e. w.out r b (sym (same r) ∙ e);
    apart = λ q r b e f. w.apart q r b (sym (same q) ∙ e) (sym (same r) ∙ f);
    was_free = w.was_free;
    was_taken = λ r b e. w.was_taken r b (sym (same r) ∙ e);
    kept = λ b e. elim (w.kept b e) [ inl f ↦ inl f | inr p ↦ inr (p.0, same p.0 ∙ p.1) ];
    total = omega (arith, w.total, sum_same n (λ r. one_if (hold r)) (λ r. one_if (hold' r)) (λ r _. ap one_if (same r)));
  }
