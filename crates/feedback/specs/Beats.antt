-- A beat of the loop.
use Rattle.std.specs.Prelude.{◌≡◌, Bool, List, ℤ}
use Rattle.linear.specs.Tables.{at}
use Rattle.linear.specs.Vectors.{Vector, Matrix, dot}
use Rattle.law.specs.Answers.{Answer, Rounded}
use Rattle.voter.specs.Beats.{Notes}
use Rattle.voter.specs.Counts.{bad_of}
use Rattle.voter.specs.Ranges.{TwoOutside}
use Rattle.voter.specs.Votes.{Voted}
use Rattle.voter.specs.declared.sensors.Sensors.{Sensors}
use Rattle.voter.specs.declared.watch.Alarms.{Alarms}
use Rattle.format.specs.declared.design.Design.{Design}
use Rattle.feedback.specs.declared.outcome.Outcome.{Outcome}
use Rattle.feedback.specs.declared.outcome.Outcome.TheVariants.{Answered, Outside}

-- the sensors of a design
abbrev pub sensors_of : Design → Sensors
sensors_of d = record { n = d.n; noise = d.noise; sized = d.sized.1; quiet = d.quiet }

-- the gains of a design
abbrev pub gains : Design → Vector
gains d = at d.law.k.cells

-- a beat that is taken: the sensors sent ys, the law answers u to their middle y, and the alarms go from a to b
pub record Went (d : Design) (a : Alarms) (ys : Matrix) (u : ℤ) (bad : List Bool) (b : Alarms) : Type 0 where
  pub y : Vector
  pub voted : Voted (sensors_of d) ys y
  pub answer : Answer d.n d.law.over_law (gains d) y u
  pub rounded : Rounded d.law.over_law (dot d.n (gains d) y) u
  pub notes : Notes (sensors_of d) ys y a b
  pub shown : bad ≡ bad_of b

-- what a beat comes to from alarms a where the sensors sent ys: an outcome, and the alarms after
abbrev pub Comes : Design → Alarms → Matrix → Outcome → Alarms → Type 0
Comes d a ys (Answered command bad) b = Went d a ys command.0 bad b
Comes d a ys (Outside sensor number) b = TwoOutside d.n ys sensor number × (b ≡ a)
