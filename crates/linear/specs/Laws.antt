-- The laws of sums over the first n entries.
use Rattle.std.specs.Prelude.{◌≡◌, ℕ, ◌<◌, ◌≤◌, ℤ, ◌+ℤ◌, ◌*ℤ◌, ◌≤ℤ◌, unsigned_abs}
use Rattle.linear.specs.Vectors.{Vector, Matrix, sum, sizes}

-- a sum of sums is the sum of the terms' sums
abbrev pub Plus : Type 0
Plus = (n : ℕ) (f g : Vector) → sum n (λ i. f i +ℤ g i) ≡ sum n f +ℤ sum n g

-- a factor of every term is a factor of the sum
abbrev pub Factor : Type 0
Factor = (n : ℕ) (c : ℤ) (f : Vector) → sum n (λ i. c *ℤ f i) ≡ c *ℤ sum n f

-- a matrix adds up to the same by rows and by columns
abbrev pub Swapped : Type 0
Swapped = (n m : ℕ) (f : Matrix) → sum n (λ i. sum m (λ j. f i j)) ≡ sum m (λ j. sum n (λ i. f i j))

-- where no term is above the other's, the sum is not
abbrev pub Order : Type 0
Order = (n : ℕ) (f g : Vector) → ((i : ℕ) → i < n → f i ≤ℤ g i) → sum n f ≤ℤ sum n g

-- the size of a sum is at most the sum of what the terms' sizes are at most
abbrev pub Size : Type 0
Size = (n : ℕ) (f : Vector) (r : ℕ → ℕ) → ((i : ℕ) → i < n → unsigned_abs (f i) ≤ r i) → unsigned_abs (sum n f) ≤ sizes n r
