-- What is known of a sensor from beat to beat, and how it changes (a persistence count with a latch).
use Rattle.std.specs.Prelude.{ℕ, ◌+◌, min, Bool, false, cond, ◌||◌, List, [], ◌∷◌, ◌==◌, slice_index_or}
use Rattle.std.proofs.Common.{zero-le}
use Rattle.voter.specs.Sizes.{persistence}
use Rattle.voter.specs.declared.watch.Alarms.{Alarms}
use Rattle.voter.specs.declared.watch.Watch.{Watch}

-- for how many beats in a row a sensor has differed, at most so many, and whether it was called bad
pub record Seen : Type 0 where
  pub count : ℕ
  pub bad : Bool

abbrev pub unseen : Seen
unseen = record { count = 0; bad = false }

-- one beat more, at which it differs or does not
abbrev pub noted : Bool → Seen → Seen
noted differs s =
    let n : ℕ = cond differs (min persistence (s.count + 1)) 0 in
    record { count = n; bad = s.bad || (n == persistence) }

abbrev pub seen : Watch → Seen
seen w = record { count = w.count; bad = w.bad }

-- what the alarms know of sensor c
abbrev pub seen_of : Alarms → ℕ → Seen
seen_of a c = seen (slice_index_or a.watches c (record { count = 0; bad = false; within = zero-le }))

-- which sensors are called bad
abbrev pub bad_of : Alarms → List Bool
bad_of a = (seen_of a 0).bad ∷ (seen_of a 1).bad ∷ (seen_of a 2).bad ∷ []

-- P of each sensor
abbrev pub Each : (ℕ → Type 0) → Type 0
Each P = P 0 × P 1 × P 2
