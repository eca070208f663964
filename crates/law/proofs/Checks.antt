-- Lists of checks by their numbers: which apply and which do not, where no fault comes or a certain one. Assumes nothing.
use Rattle.std.proofs.Common.{◌≡◌, ℕ, ◌<◌, ◌≤◌, Bool, true, false, cond, eqb, List, [], ◌∷◌, Some, None, refl, ap, arith}
use Rattle.std.proofs.lemmas.Bool.{cond_both, eq-eqb, ne_eqb}
use Rattle.row.specs.Faults.{number_of}
use Rattle.row.specs.declared.faults.Fault.{Fault}
use Rattle.law.specs.Checks.{Check, fault_of, first_fault}
use Rattle.law.proofs.Basics.{some_is_none}

-- whether the check with number n applies
abbrev pub applies_at : ℕ → List Check → Bool
applies_at n [] = false
applies_at n (c ∷ cs) = cond (eqb (number_of c.refusal) n) c.applies (applies_at n cs)

-- the numbers rise from above `low` on
abbrev pub Rising : ℕ → List Check → Type 0
Rising low [] = Unit {0}
Rising low (c ∷ cs) = (low < number_of c.refusal) × Rising (number_of c.refusal) cs

-- where no fault comes, no check applies
pub none_applies : (cs : List Check) → first_fault cs ≡ None → (n : ℕ) → applies_at n cs ≡ false
none_applies [] e n = refl
none_applies (c ∷ cs) e n = by c.applies (none_applies cs) e
  where
    by : (b : Bool) → (first_fault cs ≡ None → (n : ℕ) → applies_at n cs ≡ false)
        → cond b (Some (fault_of c)) (first_fault cs) ≡ None → cond (eqb (number_of c.refusal) n) b (applies_at n cs) ≡ false
    by true more e = absurd (some_is_none _ (fault_of c) refl e)
    by false more e = cond_both (eqb (number_of c.refusal) n) false (applies_at n cs) (λ b. b ≡ false) (λ _. refl) (λ _. more e n)

-- no check has a number that is not above `low`
low_not : (low : ℕ) (cs : List Check) (n : ℕ) → Rising low cs → n ≤ low → applies_at n cs ≡ false
low_not low [] n up l = refl
low_not low (c ∷ cs) n up l =
    rw (ne_eqb (number_of c.refusal) n (λ e. omega (arith, up.0))) (low_not (number_of c.refusal) cs n up.1 (omega (arith, up.0)))

-- where a fault comes, its check applies, and none with a smaller number does
pub record First (low : ℕ) (cs : List Check) (f : Fault) : Type 0 where
  pub high : low < number_of f.refusal
  pub this : applies_at (number_of f.refusal) cs ≡ true
  pub before : (n : ℕ) → n < number_of f.refusal → applies_at n cs ≡ false

pub first-applies : (low : ℕ) (cs : List Check) (f : Fault) → Rising low cs → first_fault cs ≡ Some f → First low cs f
first-applies low [] f up e = absurd (some_is_none _ _ e refl)
first-applies low (c ∷ cs) f up e = by c.applies refl (first-applies (number_of c.refusal) cs f up.1) e
  where
    m : ℕ
    m = number_of c.refusal

    by : (b : Bool) → c.applies ≡ b → (first_fault cs ≡ Some f → First m cs f) → cond b (Some (fault_of c)) (first_fault cs) ≡ Some f → First low (c ∷ cs) f
    by true a more e =
        let same : fault_of c ≡ f = cc in
        let number : m ≡ number_of f.refusal = ap (λ g. number_of g.refusal) same in
        record {
          high = omega (arith, up.0, number);
          this = rw (eq-eqb m (number_of f.refusal) number) a;
          before = λ n l. rw (ne_eqb m n (λ z. omega (arith, number))) (low_not m cs n up.1 (omega (arith, number)));
        }
    by false a more e =
        let first = more e in
        record {
          high = omega (arith, up.0, first.high);
          this = rw (ne_eqb m (number_of f.refusal) (λ z. omega (arith, first.high))) first.this;
          before = λ n l. rw a (cond_both (eqb m n) false (applies_at n cs) (λ b. b ≡ false) (λ _. refl) (λ _. first.before n l));
        }
