-- What is so of beats and runs besides.
use Rattle.std.specs.Prelude.{◌≡◌, ℕ, ◌+◌, ◌⊎◌, List, [], ◌∷◌, Result}
use Rattle.linear.specs.Vectors.{Vector, Matrix}
use Rattle.voter.specs.Beats.{Counted, Refused, Sample, Steps}
use Rattle.voter.specs.declared.watch.Alarms.{Alarms}
use Rattle.format.specs.declared.design.Design.{Design}
use Rattle.format.specs.declared.fault.Fault.{Fault}
use Rattle.feedback.specs.Beats.{Comes, sensors_of}
use Rattle.feedback.specs.Runs.{Goes, Runs, heard_at}
use Rattle.feedback.specs.declared.outcome.Outcome.{Outcome}

-- a beat comes to one thing only
abbrev pub OneOutcome : Type 0
OneOutcome = (d : Design) (a : Alarms) (ys : Matrix) (o p : Outcome) (b c : Alarms) → Comes d a ys o b → Comes d a ys p c → (o ≡ p) × (b ≡ c)

-- a beat takes the alarms one step on, as the voter means it
abbrev pub AlarmsStep : Type 0
AlarmsStep = (d : Design) (a : Alarms) (ys : Matrix) (o : Outcome) (b : Alarms) → Comes d a ys o b → Counted (sensors_of d) ys a b ⊎ Refused (sensors_of d) ys a b

-- the samples of beats from beat b on, where the state at each is that of xs
abbrev pub samples : (n : ℕ) (readings : List ℕ) (xs : ℕ → Vector) (b : ℕ) → List Outcome → List Sample
samples n readings xs b [] = []
samples n readings xs b (o ∷ os) = record { x = xs b; ys = heard_at n readings b } ∷ samples n readings xs (b + 1) os

-- a run takes the alarms over its samples, whatever the states were: so what the voter promises of them holds of the run
abbrev pub AlarmsRun : Type 0
AlarmsRun =
    (d : Design) (readings : List ℕ) (xs : ℕ → Vector) (b : ℕ) (os : List Outcome) (a z : Alarms) → Goes d readings b a os z →
    Steps (sensors_of d) a (samples d.n readings xs b os) z

-- running a recording has one answer, and leaves one thing in the lent slice
abbrev pub OneRun : Type 0
OneRun =
    (design set readings : List ℕ) (before after after' : List Outcome) (q r : Result ℕ Fault) → Runs design set readings before after q →
    Runs design set readings before after' r → (q ≡ r) × (after ≡ after')
