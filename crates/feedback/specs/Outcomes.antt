-- What a beat is refused for, and its line of text.
use Rattle.std.specs.Prelude.{ℕ, ◌+◌, ◌*◌, Bool, true, false, cond, ◌||◌, List, [], ◌++◌, Some, None, codes, Option, slice_index_or}
use Rattle.std.specs.Fmt.{signed_decimal}
use Rattle.format.specs.Refusals.{places, refusal_line}
use Rattle.feedback.specs.declared.outcome.Outcome.{Outcome}
use Rattle.feedback.specs.declared.outcome.Outcome.TheVariants.{Answered, Outside}

-- the number of the refusal of a beat at which two sensors have a reading outside
abbrev pub outside_number : ℕ
outside_number = 9

-- a refusal's number and its place
abbrev pub report : Outcome → Option (ℕ × ℕ)
report (Answered command bad) = None
report (Outside sensor number) = Some (outside_number, sensor * places + number)

-- the beat is answered, and not refused
abbrev pub answered : Outcome → Bool
answered (Answered command bad) = true
answered (Outside sensor number) = false

-- the sensors that are called bad, if any is: first, second and third say which
abbrev pub called_bad : Bool → Bool → Bool → List ℕ
called_bad first second third =
    cond (first || second || third)
    (codes " bad" ++ (cond first (codes " 0") [] ++ (cond second (codes " 1") [] ++ cond third (codes " 2") [])))
    []

-- a beat's line
abbrev pub line : Outcome → List ℕ
line (Answered command bad) = signed_decimal command.0 ++ called_bad (slice_index_or bad 0 false) (slice_index_or bad 1 false) (slice_index_or bad 2 false)
line (Outside sensor number) = refusal_line outside_number (sensor * places + number)
