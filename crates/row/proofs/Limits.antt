-- What a row's type says of its numbers. Assumes nothing.
use Rattle.row.specs.Limits.{Limits}
use Rattle.row.specs.Rows.{period_of, deadline_of, short_of, long_of}
use Rattle.row.specs.declared.rows.Row.{Row}
use Rattle.row.specs.declared.rows.Row.TheVariants.{Track, Helper}

pub limits : (r : Row) → Limits (period_of r) (deadline_of r) (short_of r) (long_of r)
limits (Track t) = t.limits
limits (Helper h) = h.limits
