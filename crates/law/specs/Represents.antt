-- What ties a running session to its history. Assumes nothing.
use Rattle.std.specs.Prelude.{◌≡◌, ℕ, Bool, List}
use Rattle.row.specs.declared.rows.Row.{Row}
use Rattle.law.specs.History.{History, state_at}
use Rattle.law.specs.Rules.{Lawful}
use Rattle.law.specs.State.{State}

-- the history of a session is lawful, and the session's state is the one that the history tells
pub record Represents (rows : List Row) (number : ℕ) (free₀ : List Bool) (h : History) (s : State) : Type 0 where
  pub lawful : Lawful rows number free₀ h
  pub told : s ≡ state_at rows free₀ h
