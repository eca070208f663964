-- What any board with these rows answers to a call, and its rows after the call. Assumes nothing.
use Rattle.std.specs.Prelude.{◌≡◌, Bool, List}
use Rattle.sets.specs.Sets.{empty, member, joins, joined, left, without, smallest}
use Rattle.boards_and_pools.specs.declared.answers.Answer.{Answer}
use Rattle.boards_and_pools.specs.declared.answers.Answer.TheVariants.{Done, Said, Found}
use Rattle.boards_and_pools.specs.declared.boards.BoardCall.{BoardCall}
use Rattle.boards_and_pools.specs.declared.boards.BoardCall.TheVariants.{Add, Remove, First, PopFirst, Clear}

abbrev pub board_says : List Bool → BoardCall → Answer
board_says rows (Add row) = Said (joins rows row)
board_says rows (Remove row) = Said (member rows row)
board_says rows First = Found (smallest rows)
board_says rows PopFirst = Found (smallest rows)
board_says rows Clear = Done

abbrev pub board_after : List Bool → BoardCall → List Bool
board_after rows (Add row) = joined rows row
board_after rows (Remove row) = left rows row
board_after rows First = rows
board_after rows PopFirst = without rows (smallest rows)
board_after rows Clear = empty 32

-- a board with these rows answers so to a call, and has those rows after it
pub record BoardAnswers (rows : List Bool) (call : BoardCall) (said : Answer) (rows' : List Bool) : Type 0 where
  pub answer : said ≡ board_says rows call
  pub after : rows' ≡ board_after rows call
