-- What a plan holds: its rows and their bounds. Assumes nothing.
use Rattle.std.specs.Prelude.{◌≡◌, ◌≤◌, List, map, length}
use Rattle.row.specs.Rows.{numbers_of}
use Rattle.row.specs.declared.rows.Row.{Row}
use Rattle.row.specs.declared.rows.RowNumbers.{RowNumbers}
use Rattle.judge.specs.Accepted.{Accepted}
use Rattle.judge.specs.declared.bounds.Bounds.{Bounds}
use Rattle.judge.specs.declared.plan.Plan.{Plan}

abbrev pub rows_of : Plan → List Row
rows_of p = p.rows.items

abbrev pub bounds_of : Plan → List Bounds
bounds_of p = p.bounds.items

-- the plan has the rows of the numbers given, 1 to 32 of them, and every row passes with the plan's bounds
pub record Filled (given : List RowNumbers) (p : Plan) : Type 0 where
  pub made : map numbers_of (rows_of p) ≡ given
  pub some : 1 ≤ length given
  pub few : length given ≤ 32
  pub accepted : Accepted (rows_of p) (bounds_of p)
