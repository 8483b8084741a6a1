-- What the voter promises over any number of beats.
use Rattle.std.specs.Prelude.{◌≡◌, ℕ, ◌*◌, ◌<◌, ◌≤◌, true, List, length, ◌-ℤ◌, unsigned_abs}
use Rattle.std.specs.List.{AllByRecursion}
use Rattle.linear.specs.Vectors.{Vector, Matrix}
use Rattle.voter.specs.Beats.{Sample, Far, Notes, SoundAt, Steps, True}
use Rattle.voter.specs.Counts.{seen_of}
use Rattle.voter.specs.Middles.{Middle}
use Rattle.voter.specs.Ranges.{TwoInRange, TwoOutside}
use Rattle.voter.specs.Sizes.{persistence, sensors}
use Rattle.voter.specs.Votes.{noise_of}
use Rattle.voter.specs.declared.sensors.Sensors.{Sensors}
use Rattle.voter.specs.declared.watch.Alarms.{Alarms}

pub record Alarming : Type 0 where
  -- a sensor that is true at every beat is called bad at the end only if it was at the start, whatever the others do
  pub spared : (s : Sensors) (a b : Alarms) (es : List Sample) (c : ℕ) → c < sensors → AllByRecursion (SoundAt s) es → AllByRecursion (True s c) es → Steps s a es b → (seen_of b c).bad ≡ (seen_of a c).bad
  -- one that is off by more than three noises at each of 40 beats is called bad at the end, whatever was before
  pub caught : (s : Sensors) (a b : Alarms) (es : List Sample) (c : ℕ) → c < sensors → persistence ≤ length es → AllByRecursion (SoundAt s) es → AllByRecursion (Far 3 s c) es → Steps s a es b → (seen_of b c).bad ≡ true
  -- more than four noises from what a true sensor could read, or from the state itself, are more than three from the state
  pub far : (s : Sensors) (c : ℕ) (e : Sample) (t : Vector) (i : ℕ) → i < s.n → unsigned_abs (t i -ℤ e.x i) ≤ noise_of s i → 4 * noise_of s i < unsigned_abs (e.ys c i -ℤ t i) → Far 3 s c e
  -- one that was called bad stays so
  pub kept : (s : Sensors) (a b : Alarms) (es : List Sample) (c : ℕ) → c < sensors → Steps s a es b → (seen_of a c).bad ≡ true → (seen_of b c).bad ≡ true

-- readings have one middle, one way at most to be refused, and one way to be noted
pub record VotingIsExact : Type 0 where
  pub one_middle : (n : ℕ) (ys : Matrix) (y z : Vector) → Middle n ys y → Middle n ys z → (i : ℕ) → i < n → y i ≡ z i
  pub one_outside : (n : ℕ) (ys : Matrix) (s i t j : ℕ) → TwoOutside n ys s i → TwoOutside n ys t j → (s ≡ t) × (i ≡ j)
  pub not_both : (n : ℕ) (ys : Matrix) (s i : ℕ) → TwoInRange n ys → TwoOutside n ys s i → ⊥
  pub one_note : (s : Sensors) (ys : Matrix) (y z : Vector) (a b c : Alarms) → Middle s.n ys y → Middle s.n ys z → Notes s ys y a b → Notes s ys z a c → b ≡ c
