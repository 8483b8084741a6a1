-- Vectors and matrices of whole numbers, as functions of the index, and sums over their first n entries.
use Rattle.std.specs.Prelude.{ℕ, zero, suc, ◌+◌, ◌*◌, cond, ℤ, pos, ◌+ℤ◌, ◌*ℤ◌, nat_lt, unsigned_abs}

abbrev pub Vector : Type 0
Vector = ℕ → ℤ

abbrev pub Matrix : Type 0
Matrix = ℕ → ℕ → ℤ

-- f below n, and 0 from there on
abbrev pub filled : ℕ → Vector → Vector
filled n f i = cond (nat_lt i n) (f i) (pos 0)

-- f 0 + f 1 + .. + f (n - 1)
unfoldable pub sum : ℕ → Vector → ℤ
sum zero f = pos 0
sum (suc n) f = sum n f +ℤ f n

-- the same of sizes
unfoldable pub sizes : ℕ → (ℕ → ℕ) → ℕ
sizes zero f = 0
sizes (suc n) f = sizes n f + f n

-- the dot product of the first n entries
abbrev pub dot : ℕ → Vector → Vector → ℤ
dot n x y = sum n (λ i. x i *ℤ y i)

-- the most that a dot product with x can be where each entry of the other vector is at most r in size
abbrev pub spread : ℕ → Vector → (ℕ → ℕ) → ℕ
spread n x r = sizes n (λ i. unsigned_abs (x i) * r i)
