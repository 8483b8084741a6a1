-- True readings, and a faulty sensor among three.
use Rattle.std.specs.Prelude.{ℕ, ◌<◌, ◌≤◌, ◌-ℤ◌, ◌≢◌, unsigned_abs}
use Rattle.linear.specs.Vectors.{Vector, Matrix}
use Rattle.voter.specs.Ranges.{Room}
use Rattle.voter.specs.Sizes.{sensors}

-- y is off from the state x by at most the bound, in each of the first n numbers. Of a sensor's readings, with the noise
-- for the bound: they are true
abbrev pub Near : ℕ → (ℕ → ℕ) → Vector → Vector → Type 0
Near n bound x y = (i : ℕ) → i < n → unsigned_abs (y i -ℤ x i) ≤ bound i

-- all sensors but the faulty one send true readings of the state that they read, read c for sensor c. The faulty one, if
-- there is one (it is 3 or more if there is none), sends what it likes, in as many numbers as it likes
pub record Readings (n : ℕ) (noise : ℕ → ℕ) (read : ℕ → Vector) (faulty : ℕ) (ys : Matrix) : Type 0 where
  pub true_ones : (c : ℕ) → c < sensors → (c ≢ faulty) → Near n noise (read c) (ys c)

-- at most one sensor is faulty at the state x, which is so far inside that no true reading of it is outside
pub record Sound (n : ℕ) (noise : ℕ → ℕ) (x : Vector) (ys : Matrix) : Type 0 where
  pub faulty : ℕ
  pub readings : Readings n noise (λ _. x) faulty ys
  pub room : Room n noise x
