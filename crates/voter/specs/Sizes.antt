-- How many sensors there are, and how long one may differ.
use Rattle.std.specs.Prelude.{ℕ}

abbrev pub sensors : ℕ
sensors = 3

-- at how many beats in a row at which it differs a sensor is called bad
abbrev pub persistence : ℕ
persistence = 40
