-- A free list in a table of links. Assumes nothing.
use Rattle.std.specs.Prelude.{ℕ, zero, suc, Bool, false, ◌&&◌, List, take, ◌==◌, slice_index, slice_set}
use Rattle.sets.specs.Sets.{member}
use Rattle.sets.specs.Chains.{on_chain}

-- where a free list ends
abbrev pub end : ℕ
end = 64

-- the free ones of the first `blocks` blocks: those on the chain
abbrev pub free_in : ℕ → List ℕ → List Bool
free_in blocks links = on_chain (take blocks links)

-- whether the chain from `at` on visits n members of xs, each once since it is crossed off, and then ends
abbrev pub visits : List ℕ → ℕ → ℕ → List Bool → Bool
visits links zero at xs = at == end
visits links (suc n) at xs = member xs at && visits links n (slice_index links at) (slice_set xs at false)
