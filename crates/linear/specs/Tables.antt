-- What the cells of a table stand for.
use Rattle.std.specs.Prelude.{ℕ, ◌+◌, ◌*◌, ◌<◌, ◌≤◌, List, length, ℤ, pos, slice_index_or, unsigned_abs}
use Rattle.linear.specs.Vectors.{Vector, Matrix}

-- the entries, and 0 past the last one, so that what is said of entries holds at every index
abbrev pub at : List ℤ → Vector
at xs i = slice_index_or xs i (pos 0)

-- the cells as a matrix whose rows are stride apart
abbrev pub grid : ℕ → List ℤ → Matrix
grid stride xs i j = at xs (stride * i + j)

-- column j of such a matrix
abbrev pub column : ℕ → List ℤ → ℕ → Vector
column stride xs j i = grid stride xs i j

-- each entry is at most b in size
abbrev pub Within : ℕ → List ℤ → Type 0
Within b xs = (i : ℕ) → unsigned_abs (at xs i) ≤ b

-- entry e is the first that is more than b in size
pub record FirstOutside (b : ℕ) (xs : List ℤ) (e : ℕ) : Type 0 where
  pub here : e < length xs
  pub more : b < unsigned_abs (at xs e)
  pub before : (i : ℕ) → i < e → unsigned_abs (at xs i) ≤ b
