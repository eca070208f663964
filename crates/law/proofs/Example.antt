-- The example is one. Assumes nothing.
use Rattle.std.proofs.Common.{◌≡◌, ℕ, zero, suc, ◌-◌, ◌<◌, ◌≤◌, [], get_or, take, Some, refl, arith, lit<, lit≤}
use Rattle.row.specs.declared.rows.Row.{Row}
use Rattle.judge.specs.Accepted.{Accepted, Passes}
use Rattle.judge.specs.Bounds.{NormalBound, MixedBound, LongBound, LateFinish}
use Rattle.judge.specs.declared.bounds.Bounds.{Bounds}
use Rattle.law.specs.declared.calls.Job.{Job}
use Rattle.law.specs.Example.{plan, plan_bounds, turn_at, Example}
use Rattle.law.specs.Rules.{Opens}
use Rattle.law.specs.State.{State}

-- the first row's late finish at budget B is B
finish : (B s : ℕ) → 1 ≤ B → LateFinish [] B s B
finish B s pos = record { holds = (pos, omega arith); first = λ u l p. omega arith }

first-normal : NormalBound [] 1 1
first-normal = record { holds = (lit≤ tt, lit≤ tt); first = λ u l p. omega arith }

first-mixed : MixedBound [] 1 1
first-mixed = record {
  normal = 1;
  is_normal = first-normal;
  late = 1;
  is_late = record { each = λ s l. (1, finish 1 s (lit≤ tt), lit≤ tt); some = (0, lit< tt, finish 1 0 (lit≤ tt)) };
  greater = refl;
}

first-long : LongBound [] 2 2
first-long = record {
  start = 0;
  is_start = record { holds = lit≤ tt; first = λ u l p. omega arith };
  greatest = record { each = λ s l. (2 - s, (2, finish 2 s (lit≤ tt), refl), omega arith); some = (0, lit< tt, (2, finish 2 0 (lit≤ tt), refl)) };
}

accepted : Accepted plan plan_bounds
accepted = record { many = refl; each = each }
  where
    each : (i : ℕ) → i < 2 → (r : Row) (b : Bounds) → Passes (take i plan) (get_or plan i r) (get_or plan_bounds i b)
    each zero l r b = record { normal = first-normal; in_time = lit≤ tt; late = (first-mixed, lit≤ tt, first-long, lit≤ tt) }
    each (suc zero) l r b = record { normal = record { holds = (lit≤ tt, lit≤ tt); first = λ u l p. omega arith }; in_time = lit≤ tt; late = tt }
    each (suc (suc i)) l r b = absurd (omega arith)

-- row 0 is due whenever it has a job
opens : (s : State) (j : Job) → s.job 0 ≡ Some j → 2 ≡ j.block → Opens 7 s (turn_at s.clock)
opens s j e b = record { of_session = refl; at_clock = refl; for_work = record { mine = j; unended = e; block = b; smallest = λ q l. absurd (omega arith) } }

pub example : Example
example = record {
  accepted = accepted;
  lawful = ((((((tt, (2, refl, refl)), refl), (turn_at 0, refl, opens _ _ refl refl)), refl), (turn_at 1, refl, opens _ _ refl refl)), refl);
  ticks = refl;
  normal_again = refl;
  all_back = refl;
}
