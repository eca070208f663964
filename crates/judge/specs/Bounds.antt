-- The three bounds of a row, as relations: what it is to be the bound. `above` lists the rows above the row, from row 0.
-- Assumes nothing.
use Rattle.std.specs.Prelude.{◌≡◌, ℕ, ◌-◌, ◌<◌, ◌≤◌, max, List, Some, None, Option, MatchOption}
use Rattle.row.specs.declared.rows.Row.{Row}
use Rattle.judge.specs.Demand.{demand_by, normal_demand, late_demand, start_demand}

-- t is the least number with P
pub record Least (P : ℕ → Type 0) (t : ℕ) : Type 0 where
  pub holds : P t
  pub first : (u : ℕ) → u < t → P u → ⊥

-- no number up to n has P
abbrev pub NoneUpTo : ℕ → (ℕ → Type 0) → Type 0
NoneUpTo n P = (t : ℕ) → t ≤ n → P t → ⊥

-- what a search up to n answers: the number with P, if it is at most n, or none
abbrev pub FoundUpTo : ℕ → (ℕ → Type 0) → Option ℕ → Type 0
FoundUpTo n P o = MatchOption o (NoneUpTo n P) (λ t. P t × (t ≤ n))

-- what a search for the least number with P up to n answers
abbrev pub LeastUpTo : ℕ → (ℕ → Type 0) → Option ℕ → Type 0
LeastUpTo n P o = MatchOption o (NoneUpTo n P) (λ t. Least P t × (t ≤ n))

-- each s below n has a value, and m is the greatest of them
pub record Greatest (n : ℕ) (Value : ℕ → ℕ → Type 0) (m : ℕ) : Type 0 where
  pub each : (s : ℕ) → s < n → (v : ℕ) × Value s v × (v ≤ m)
  pub some : (s : ℕ) × (s < n) × Value s m

-- what is answered for the instants below n, by the answer at each: none where one of them is none, and else the greatest of them
pub record GreatestAnswer (n : ℕ) (Answer : ℕ → Option ℕ → Type 0) (o : Option ℕ) : Type 0 where
  pub is : MatchOption o ((s : ℕ) × (s < n) × Answer s None) (Greatest n (λ s v. Answer s (Some v)))

-- a window of length t has room for its own demand
abbrev pub HasRoom : (ℕ → Row → ℕ) → List Row → ℕ → ℕ → Type 0
HasRoom share above own t = demand_by share above own t ≤ t

-- R is the normal bound of a row with short budget C: the least t ≥ 1 whose normal demand is at most t
abbrev pub NormalBound : List Row → ℕ → ℕ → Type 0
NormalBound above C R = Least (λ t. (1 ≤ t) × (normal_demand above C t ≤ t)) R

-- F is the late finish at first budget B and instant s: the least t ≥ 1 whose late demand is at most t
abbrev pub LateFinish : List Row → ℕ → ℕ → ℕ → Type 0
LateFinish above B s F = Least (λ t. (1 ≤ t) × (late_demand above B s t ≤ t)) F

-- S is the latest start: the least t ≥ 0 whose start demand is at most t
abbrev pub LatestStart : List Row → ℕ → Type 0
LatestStart above S = Least (λ t. start_demand above t ≤ t) S

-- m is the mixed bound of a track with short budget C: the greatest of R and of all F(C, s) with 0 ≤ s < R
pub record MixedBound (above : List Row) (C m : ℕ) : Type 0 where
  pub normal : ℕ
  pub is_normal : NormalBound above C normal
  pub late : ℕ
  pub is_late : Greatest normal (LateFinish above C) late
  pub greater : m ≡ max normal late

-- m is the long bound of a track with long budget L: the greatest F(L, s) - s for s = 0 and every s with 0 < s < S
pub record LongBound (above : List Row) (L m : ℕ) : Type 0 where
  pub start : ℕ
  pub is_start : LatestStart above start
  pub greatest : Greatest (max 1 start) (λ s v. (F : ℕ) × LateFinish above L s F × (v ≡ F - s)) m
