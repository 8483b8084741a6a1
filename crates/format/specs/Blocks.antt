-- A block of a document: rows of numbers, and the table that they are kept in.
use Rattle.std.specs.Prelude.{◌≡◌, ℕ, ◌/◌, ◌%◌, Bool, false, ◌&&◌, List, ℤ, pos, nat_lt}
use Rattle.linear.specs.Tables.{at}

-- cell s of a table whose rows are stride apart is one of the first rows and columns
abbrev pub used : ℕ → ℕ → ℕ → ℕ → Bool
used stride rows columns s = nat_lt (s / stride) rows && nat_lt (s % stride) columns

-- the other cells are 0, so that tables with equal numbers are equal
abbrev pub Blank : ℕ → ℕ → ℕ → List ℤ → Type 0
Blank stride rows columns xs = (s : ℕ) → used stride rows columns s ≡ false → at xs s ≡ pos 0
