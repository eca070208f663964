-- What the words for sets come to. Assumes nothing.
use Rattle.std.specs.Prelude.{◌≡◌, ℕ, ◌<◌, Bool, true, false, List, length, Some, Option, ◌≢◌}
use Rattle.sets.specs.Sets.{member, joins, joined, left, without, smallest, IsSmallest}

pub record Laws : Type 0 where
  -- a number below n that is absent can join, and is then a member
  pub can_join : (xs : List Bool) (k : ℕ) → k < length xs → member xs k ≡ false → (joins xs k ≡ true) × (member (joined xs k) k ≡ true)
  -- a no changes nothing
  pub join_no : (xs : List Bool) (k : ℕ) → joins xs k ≡ false → joined xs k ≡ xs
  pub leave_no : (xs : List Bool) (k : ℕ) → member xs k ≡ false → left xs k ≡ xs
  -- what has left is absent
  pub gone : (xs : List Bool) (k : ℕ) → member (left xs k) k ≡ false
  pub taken : (xs : List Bool) (k : ℕ) → member (without xs (Some k)) k ≡ false
  -- no other number joins or leaves
  pub joined_others : (xs : List Bool) (k j : ℕ) → (j ≢ k) → member (joined xs k) j ≡ member xs j
  pub left_others : (xs : List Bool) (k j : ℕ) → (j ≢ k) → member (left xs k) j ≡ member xs j
  pub taken_others : (xs : List Bool) (k j : ℕ) → (j ≢ k) → member (without xs (Some k)) j ≡ member xs j
  -- the range stays
  pub joined_range : (xs : List Bool) (k : ℕ) → length (joined xs k) ≡ length xs
  pub left_range : (xs : List Bool) (k : ℕ) → length (left xs k) ≡ length xs
  pub without_range : (xs : List Bool) (found : Option ℕ) → length (without xs found) ≡ length xs
  -- the smallest member is a member, and no smaller number is; or there is none
  pub smallest_is : (xs : List Bool) → IsSmallest xs (smallest xs)
