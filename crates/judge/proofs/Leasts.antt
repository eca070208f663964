-- Least numbers: when they are at least one, and that there is at most one. Assumes nothing.
use Rattle.std.proofs.Common.{◌≡◌, ℕ, ◌≤◌, List, Some, None, Option, Err, arith}
use Rattle.std.specs.Option.{ok_or}
use Rattle.row.specs.declared.rows.Row.{Row}
use Rattle.judge.specs.Demand.{start_share}
use Rattle.judge.specs.declared.bounds.JudgeFault.{JudgeFault}
use Rattle.judge.specs.Bounds.{Least, NoneUpTo, FoundUpTo, LeastUpTo, HasRoom, LatestStart}

-- The least window with room, found or missed up to n. With a first budget of at least one, a window with room is at least one.
pub found : (share : ℕ → Row → ℕ) (above : List Row) (own n : ℕ) → 1 ≤ own → (o : Option ℕ) →
    LeastUpTo n (HasRoom share above own) o → FoundUpTo n (Least (λ u. (1 ≤ u) × HasRoom share above own u)) o
found share above own n pos None none = λ t h least. none t h least.holds.1
found share above own n pos (Some t) p =
    let room = p.0.holds in
    (record { holds = (omega arith, room); first = λ u below q. p.0.first u below q.1 }, p.1)

-- a start has no budget of its own
pub start-found : (above : List Row) (t : ℕ) → Least (HasRoom start_share above 0) t → LatestStart above t
start-found above t least = record {
  holds = let room = least.holds in omega arith;
  first = λ u below room. least.first u below (omega arith);
}

-- a bound that is missed where a fault was to be answered in its place
pub missed : {D : ℕ} {P : ℕ → Type 0} (o : Option ℕ) (f e : JudgeFault) → FoundUpTo D P o → ok_or o f ≡ Err e → NoneUpTo D P × (e ≡ f)
missed None f e none was = (none, cc)
missed (Some t) f e found was = absurd (cc)
