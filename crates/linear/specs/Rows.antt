-- Rows over the numbers of a state.
use Rattle.std.specs.Prelude.{ℕ}

-- the most numbers of a state, which is also how far apart the rows of a table over the state are
abbrev pub most_numbers : ℕ
most_numbers = 6

-- the largest size of a number of the state
abbrev pub range : ℕ
range = 30000
