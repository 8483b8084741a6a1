use Rattle.std.proofs.Common.{◌≡◌, ◌*◌, take, drop}
use Rattle.format.specs.Recordings.{frame}
use Rattle.feedback.specs.Runs.{Goes}
use Rattle.feedback.proofs.run.run_beats.Given as goal

abbrev pub invariant-loop-slot : goal.invariant-loop-slot
invariant-loop-slot l =
    Goes l.design l.readings 0 l.initial.alarms (take l.slot-index l.out) l.alarms × (l.rest ≡ drop (frame l.design.n * l.slot-index) l.readings)
