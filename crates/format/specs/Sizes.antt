-- How many numbers each document has, and where its parts begin, for a state of n numbers and a set of c faces.
use Rattle.std.specs.Prelude.{ℕ, ◌+◌, ◌*◌}
pub use Rattle.linear.specs.Rows.{most_numbers}

-- the most faces of a set, which is also how far apart the rows of a table over the faces are
abbrev pub most_faces : ℕ
most_faces = 24

-- a design: n, the limit, over, a row by row, b, off, over_law, k, noise
abbrev pub b_at : ℕ → ℕ
b_at n = 3 + n * n

abbrev pub off_at : ℕ → ℕ
off_at n = b_at n + n

abbrev pub over_law_at : ℕ → ℕ
over_law_at n = off_at n + n

abbrev pub k_at : ℕ → ℕ
k_at n = over_law_at n + 1

abbrev pub noise_at : ℕ → ℕ
noise_at n = k_at n + n

abbrev pub design_count : ℕ → ℕ
design_count n = noise_at n + n

-- a set: the count of faces, then for each its row and its top
abbrev pub set_count : ℕ → ℕ → ℕ
set_count n c = 1 + c * (n + 1)

-- a sheet: the scale, m row by row, w for + and -, v for each number + and -
abbrev pub w_at : ℕ → ℕ
w_at c = 1 + c * c

abbrev pub v_at : ℕ → ℕ
v_at c = w_at c + 2 * c

abbrev pub sheet_count : ℕ → ℕ → ℕ
sheet_count n c = v_at c + 2 * n * c
