-- What the sensors sent at a beat, as a matrix: a row for each sensor, an entry for each number of the state.
use Rattle.std.specs.Prelude.{List, [], get_or, pos, slice_index_or}
use Rattle.linear.specs.Vectors.{Vector, Matrix}
use Rattle.voter.specs.declared.reading.Reading.{Reading}

-- the readings of one sensor, and 0 past the last one
abbrev pub sent_row : List Reading → Vector
sent_row row i = (get_or row i (record { 0 = pos 0 })).0

abbrev pub sent : List (List Reading) → Matrix
sent rows c = sent_row (slice_index_or rows c [])
