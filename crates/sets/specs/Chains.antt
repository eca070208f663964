-- A chain through a table of links: what stands at k says where the chain goes on behind k. Assumes nothing.
use Rattle.std.specs.Prelude.{ℕ, Bool, not, List, map, ◌==◌}

-- the link of a number that is not on the chain
abbrev pub off : ℕ
off = 4294967295

-- the numbers on the chain
abbrev pub on_chain : List ℕ → List Bool
on_chain links = map (λ link. not (link == off)) links
