-- Which sensors differ from the middle at a beat.
use Rattle.std.specs.Prelude.{ℕ, ◌*◌, Bool, ◌||◌, ℤ, ◌-ℤ◌, nat_lt, unsigned_abs}
use Rattle.std.specs.List.{list_any, range_with_len}
use Rattle.linear.specs.Vectors.{Vector}
use Rattle.voter.specs.Ranges.{outside}

-- a reading y is outside, or more than two noises from the middle m
abbrev pub strays : ℤ → ℤ → ℕ → Bool
strays y m noise = outside y || nat_lt (2 * noise) (unsigned_abs (y -ℤ m))

-- one of the first n readings ys of a sensor strays from the middle m
abbrev pub differs : ℕ → (ℕ → ℕ) → Vector → Vector → Bool
differs n noise m ys = list_any (λ i. strays (ys i) (m i) (noise i)) (range_with_len 0 n)
