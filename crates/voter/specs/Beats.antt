-- The alarms from beat to beat.
use Rattle.std.specs.Prelude.{◌≡◌, ℕ, ◌*◌, ◌<◌, ◌⊎◌, List, [], ◌∷◌, ◌-ℤ◌, unsigned_abs}
use Rattle.linear.specs.Vectors.{Vector, Matrix}
use Rattle.voter.specs.Counts.{Each, noted, seen_of}
use Rattle.voter.specs.Differences.{differs}
use Rattle.voter.specs.Faults.{Near, Sound}
use Rattle.voter.specs.Middles.{Middle}
use Rattle.voter.specs.Ranges.{TwoInRange, TwoOutside}
use Rattle.voter.specs.Votes.{noise_of}
use Rattle.voter.specs.declared.sensors.Sensors.{Sensors}
use Rattle.voter.specs.declared.watch.Alarms.{Alarms}

-- alarms b note of each sensor whether it differs from the middle y of the readings ys
abbrev pub Notes : Sensors → Matrix → Vector → Alarms → Alarms → Type 0
Notes s ys y a b = Each (λ c. seen_of b c ≡ noted (differs s.n (noise_of s) y (ys c)) (seen_of a c))

-- the alarms a before and b after a beat at which the sensors sent ys, where it is taken
pub record Counted (s : Sensors) (ys : Matrix) (a b : Alarms) : Type 0 where
  pub inside : TwoInRange s.n ys
  pub y : Vector
  pub middle : Middle s.n ys y
  pub notes : Notes s ys y a b

-- and where it is refused, since two sensors have a reading outside
pub record Refused (s : Sensors) (ys : Matrix) (a b : Alarms) : Type 0 where
  pub sensor : ℕ
  pub number : ℕ
  pub outside : TwoOutside s.n ys sensor number
  pub same : b ≡ a

-- the state at a beat, and what the sensors sent of it
pub record Sample : Type 0 where
  pub x : Vector
  pub ys : Matrix

-- the alarms over beats, the first first
abbrev pub Steps : Sensors → Alarms → List Sample → Alarms → Type 0
Steps s a [] b = b ≡ a
Steps s a (e ∷ es) b = (m : Alarms) × (Counted s e.ys a m ⊎ Refused s e.ys a m) × Steps s m es b

-- at most one sensor is faulty, and no true reading is outside
abbrev pub SoundAt : Sensors → Sample → Type 0
SoundAt s e = Sound s.n (noise_of s) e.x e.ys

-- sensor c is true
abbrev pub True : Sensors → ℕ → Sample → Type 0
True s c e = Near s.n (noise_of s) e.x (e.ys c)

-- sensor c is off from the state by more than k noises, in some number
abbrev pub Far : ℕ → Sensors → ℕ → Sample → Type 0
Far k s c e = (i : ℕ) × (i < s.n) × (k * noise_of s i < unsigned_abs (e.ys c i -ℤ e.x i))
