-- What the output holds after the call. Assumes nothing.
use Rattle.std.proofs.Common.{◌≡◌, ℕ, ◌<◌, ◌≤◌, List, ◌++◌, length, drop, MatchBool, sym, subst}
use Rattle.std.proofs.lemmas.Bool.{le-leb, lt-leb}
use Rattle.lineup_check.specs.Listing.{Written}

pub written_fits : (text before after : List ℕ) (n : ℕ) → length text ≤ length before
    → n ≡ length text → after ≡ text ++ drop (length text) before → Written text before after n
written_fits text before after n h e a =
    subst (λ b. MatchBool b ((n ≡ length text) × (after ≡ text ++ drop (length text) before)) ((n ≡ 0) × (after ≡ before)))
    (sym (le-leb (length text) (length before) h)) (e, a)

pub written_not : (text before after : List ℕ) (n : ℕ) → length before < length text → n ≡ 0 → after ≡ before → Written text before after n
written_not text before after n h e a =
    subst (λ b. MatchBool b ((n ≡ length text) × (after ≡ text ++ drop (length text) before)) ((n ≡ 0) × (after ≡ before)))
    (sym (lt-leb (length text) (length before) h)) (e, a)
