-- A recording that is run beat by beat.
use Rattle.std.specs.Prelude.{◌≡◌, ℕ, ◌+◌, ◌*◌, min, List, [], ◌∷◌, length, take, drop, Ok, Err, Result}
use Rattle.linear.specs.Vectors.{Matrix}
use Rattle.voter.specs.Counts.{Each, seen_of, unseen}
use Rattle.voter.specs.declared.watch.Alarms.{Alarms}
use Rattle.format.specs.Recordings.{Recorded, frame, heard, recording_check}
use Rattle.format.specs.declared.design.Design.{Design}
use Rattle.format.specs.declared.recorded.Recording.{Recording}
use Rattle.format.specs.declared.fault.Fault.{Fault}
use Rattle.feedback.specs.Beats.{Comes}
use Rattle.feedback.specs.declared.outcome.Outcome.{Outcome}

-- what the sensors sent at beat b of a recording
abbrev pub heard_at : ℕ → List ℕ → ℕ → Matrix
heard_at n readings b = heard n (drop (frame n * b) readings)

-- the beats from beat b on, from alarms a: what they come to, one after another, and the alarms z after them
abbrev pub Goes : Design → List ℕ → ℕ → Alarms → List Outcome → Alarms → Type 0
Goes d readings b a [] z = z ≡ a
Goes d readings b a (o ∷ os) z = (m : Alarms) × Comes d a (heard_at d.n readings b) o m × Goes d readings (b + 1) m os z

-- a lent slice before and after so many beats of a recording, from alarms that know nothing yet
pub record Ran (d : Design) (readings : List ℕ) (count : ℕ) (before after : List Outcome) : Type 0 where
  pub start : Alarms
  pub fresh : Each (λ c. seen_of start c ≡ unseen)
  pub end : Alarms
  pub goes : Goes d readings 0 start (take count after) end
  pub rest : drop count after ≡ drop count before
  pub long : length after ≡ length before

-- the documents pass, and as many beats are run as there are readings for and room for
pub record Taken (design set readings : List ℕ) (before after : List Outcome) (count : ℕ) : Type 0 where
  pub passes : (recording_check design set readings).passes
  pub recording : Recording
  pub recorded : Recorded design set readings recording
  pub counted : count ≡ min recording.beats (length before)
  pub ran : Ran recording.design readings count before after

-- what running a recording answers, and what the lent slice then holds
abbrev pub Runs : List ℕ → List ℕ → List ℕ → List Outcome → List Outcome → Result ℕ Fault → Type 0
Runs design set readings before after (Ok count) = Taken design set readings before after count
Runs design set readings before after (Err e) = (recording_check design set readings).fails e × (after ≡ before)
