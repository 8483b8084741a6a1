-- The law's answer to readings, and what it means to round to the nearest whole number.
use Rattle.std.specs.Prelude.{◌≡◌, ℕ, ◌*◌, ◌%◌, ◌≤◌, ℤ, pos, ◌+ℤ◌, ◌*ℤ◌, unsigned_abs}
use Rattle.linear.specs.Vectors.{Vector, dot}

-- what is left between den u and -s: 0 where u is exactly -s / den
abbrev pub rest : (den : ℕ) (s u : ℤ) → ℤ
rest den s u = pos den *ℤ u +ℤ s

-- den u is -s but for at most half a step
abbrev pub OffByHalf : (step den : ℕ) (s u : ℤ) → Type 0
OffByHalf step den s u = 2 * unsigned_abs (rest den s u) ≤ step

-- the law's answer u to readings y: over_law u is -k y but for at most half of over_law
abbrev pub Answer : (n over_law : ℕ) (k y : Vector) (u : ℤ) → Type 0
Answer n over_law k y u = OffByHalf over_law over_law (dot n k y) u

-- a number that is half a step off, so that the next one is as near, is even
abbrev pub EvenAtHalf : (den : ℕ) (s u : ℤ) → Type 0
EvenAtHalf den s u = 2 * unsigned_abs (rest den s u) ≡ den → unsigned_abs u % 2 ≡ 0

-- u is the whole number nearest to -s / den, of two equally near the even one
pub record Rounded (den : ℕ) (s u : ℤ) : Type 0 where
  pub half : OffByHalf den den s u
  pub nearest : (v : ℤ) → unsigned_abs (rest den s u) ≤ unsigned_abs (rest den s v)
  pub even : EvenAtHalf den s u
  pub only : (v : ℤ) → OffByHalf den den s v → EvenAtHalf den s v → v ≡ u
