-- Demands by whatever share: how they rise with the window. Assumes nothing.
use Rattle.std.proofs.Common.{ℕ, ◌-◌, ◌<◌, ◌≤◌, List, inl, inr, arith}
use Rattle.std.proofs.lemmas.Bool.{cases_lt}
use Rattle.std.proofs.lemmas.List.Sums.{sum_by-le-sum_by}
use Rattle.row.specs.declared.rows.Row.{Row}
use Rattle.judge.specs.Demand.{demand_by, normal_demand, normal_share, start_share}
use Rattle.judge.specs.Bounds.{HasRoom}
use Rattle.judge.specs.Shares.{start-normal}

-- each share rises with the window
abbrev pub Rises : (ℕ → Row → ℕ) → Type 0
Rises share = (r : Row) (t u : ℕ) → t ≤ u → share t r ≤ share u r

-- where no window below t has room and t has none either, no window below the demand of t has room
pub none_below_demand : (share : ℕ → Row → ℕ) → Rises share → (above : List Row) (own t : ℕ) →
    ((u : ℕ) → u < t → HasRoom share above own u → ⊥) → (u : ℕ) → u < demand_by share above own t → HasRoom share above own u → ⊥
none_below_demand share rises above own t none u h room =
    elim (cases_lt u t) [
      | inl below ↦ none u below room
      | inr past ↦ let more = sum_by-le-sum_by (share t) (share u) above (λ r. rises r t u past) in omega arith
    ]

-- a job that ends by R with budget C may start by R - C
pub start_room : (above : List Row) (C R : ℕ) → 1 ≤ C → normal_demand above C R ≤ R → HasRoom start_share above 0 (R - C)
start_room above C R pos room =
    let less = sum_by-le-sum_by (start_share (R - C)) (normal_share R) above (λ r. start-normal r (R - C) R (omega arith)) in
    omega arith
