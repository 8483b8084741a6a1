-- The range of readings: what is inside, and what becomes of a reading outside.
use Rattle.std.specs.Prelude.{ℕ, ◌+◌, ◌<◌, ◌≤◌, Bool, ℤ, pos, neg_ℤ, nat_lt, unsigned_abs}
use Rattle.std.specs.Int.{int_min, int_max}
use Rattle.linear.specs.Rows.{range}
use Rattle.linear.specs.Vectors.{Vector, Matrix}
use Rattle.voter.specs.Middles.{Two}
use Rattle.voter.specs.Sizes.{sensors}

-- a reading is outside
abbrev pub outside : ℤ → Bool
outside y = nat_lt range (unsigned_abs y)

-- the first n readings of a sensor are inside
abbrev pub InRange : ℕ → Vector → Type 0
InRange n y = (i : ℕ) → i < n → unsigned_abs (y i) ≤ range

-- two sensors have no reading outside, so that the beat can be taken
abbrev pub TwoInRange : ℕ → Matrix → Type 0
TwoInRange n ys = Two (λ c. InRange n (ys c))

-- a reading as it is taken: where it is outside, the nearer end of the range
abbrev pub taken : ℤ → ℤ
taken y = int_max (neg_ℤ (pos range)) (int_min y (pos range))

-- reading i is the first of n that is outside
pub record First (n : ℕ) (y : Vector) (i : ℕ) : Type 0 where
  pub here : i < n
  pub outside : range < unsigned_abs (y i)
  pub before : InRange i y

-- the first reading outside, sensor after sensor, where a later sensor has one too
pub record TwoOutside (n : ℕ) (ys : Matrix) (sensor number : ℕ) : Type 0 where
  pub first : First n (ys sensor) number
  pub earlier : (c : ℕ) → c < sensor → InRange n (ys c)
  pub later : ℕ
  pub later_is : (sensor < later) × (later < sensors)
  pub other : (i : ℕ) × First n (ys later) i

-- every reading of the state x that is off by at most the noise is inside
abbrev pub Room : ℕ → (ℕ → ℕ) → Vector → Type 0
Room n noise x = (i : ℕ) → i < n → unsigned_abs (x i) + noise i ≤ range
