-- What the words of a script spell. Assumes nothing.
use Rattle.std.specs.Prelude.{◌≡◌, ℕ, ◌^◌, ◌<◌, Bool, true, false, List, codes, Result, MatchResult}
use Rattle.std.specs.Str.Parse.{IsNumeral, digits_value}
use Rattle.script.specs.declared.commands.BoardName.{BoardName}
use Rattle.script.specs.declared.commands.BoardName.TheVariants.{Word, Chain}
use Rattle.script.specs.declared.commands.PoolName.{PoolName}
use Rattle.script.specs.declared.commands.PoolName.TheVariants.{Bitmap, FreeList}

abbrev pub board_word : BoardName → List ℕ
board_word Word = codes "word"
board_word Chain = codes "chain"

abbrev pub pool_word : PoolName → List ℕ
pool_word Bitmap = codes "bitmap"
pool_word FreeList = codes "freelist"

abbrev pub finished_word : Bool → List ℕ
finished_word true = codes "finished"
finished_word false = codes "unfinished"

-- the word is a number below 2 ^ 32 in decimal digits
abbrev pub Spells : List ℕ → ℕ → Type 0
Spells w n = IsNumeral 10 w × (digits_value 10 w ≡ n) × (n < 2 ^ 32)

-- r is what the word says by P, and else an error
abbrev pub Read : {X E : Type 0} → (X → Type 0) → Result X E → Type 0
Read P r = MatchResult r P (λ _. (x : _) → P x → ⊥)
