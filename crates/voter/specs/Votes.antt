-- What the middle of a whole beat promises.
use Rattle.std.specs.Prelude.{◌≡◌, ℕ, unsigned_abs}
use Rattle.linear.specs.Tables.{at}
use Rattle.linear.specs.Vectors.{Vector, Matrix, filled}
use Rattle.voter.specs.Faults.{Near, Readings}
use Rattle.voter.specs.Middles.{Middle, mid}
use Rattle.voter.specs.Ranges.{TwoInRange, taken}
use Rattle.voter.specs.declared.sensors.Sensors.{Sensors}

-- how far a true reading of each number may be off
abbrev pub noise_of : Sensors → ℕ → ℕ
noise_of s i = unsigned_abs (at s.noise.cells i)

-- the middle one of each number
abbrev pub mids : Matrix → Vector
mids ys i = mid (ys 0 i) (ys 1 i) (ys 2 i)

-- y is the middle of a beat at which the sensors sent ys
pub record Voted (s : Sensors) (ys : Matrix) (y : Vector) : Type 0 where
  pub inside : TwoInRange s.n ys
  pub value : (i : ℕ) → y i ≡ filled s.n (mids ys) i
  -- a middle of the readings as they were sent, and of the readings as they are taken
  pub of_sent : Middle s.n ys y
  pub of_taken : Middle s.n (λ c i. taken (ys c i)) y
  -- with at most one faulty sensor it is off from the state by at most the noise
  pub close : (x : Vector) (faulty : ℕ) → Readings s.n (noise_of s) (λ _. x) faulty ys → Near s.n (noise_of s) x y
