-- The middle one of three readings (mid-value selection).
use Rattle.std.specs.Prelude.{ℕ, ◌<◌, ◌⊎◌, ℤ, ◌≤ℤ◌}
use Rattle.std.specs.Int.{int_min, int_max}
use Rattle.linear.specs.Vectors.{Vector, Matrix}

-- two of the three hold
abbrev pub TwoOf : Type 0 → Type 0 → Type 0 → Type 0
TwoOf P Q R = (P × Q) ⊎ ((P × R) ⊎ (Q × R))

-- P of two of the three sensors
abbrev pub Two : (ℕ → Type 0) → Type 0
Two P = TwoOf (P 0) (P 1) (P 2)

-- two of the three are not above y, and two are not below it
pub record Between (a b c y : ℤ) : Type 0 where
  pub low : TwoOf (a ≤ℤ y) (b ≤ℤ y) (c ≤ℤ y)
  pub high : TwoOf (y ≤ℤ a) (y ≤ℤ b) (y ≤ℤ c)

-- y is, in each of the first n numbers, a middle one of what the three sensors sent
abbrev pub Middle : ℕ → Matrix → Vector → Type 0
Middle n ys y = (i : ℕ) → i < n → Between (ys 0 i) (ys 1 i) (ys 2 i) (y i)

-- which one that is
abbrev pub mid : ℤ → ℤ → ℤ → ℤ
mid a b c = int_max (int_min a b) (int_min (int_max a b) c)
