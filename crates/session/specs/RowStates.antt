-- What a session keeps of a row. Assumes nothing.
use Rattle.std.specs.Prelude.{None}
use Rattle.session.specs.declared.row_state.RowState.{RowState}

-- of a row that has not arrived
abbrev pub new_row : RowState
new_row = record { job = None; ready = 0 }
