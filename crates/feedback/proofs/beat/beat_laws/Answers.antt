use Rattle.feedback.proofs.Exact.{alarms_step, one_outcome}
use Rattle.feedback.proofs.beat.beat_laws.Goals as goal

pub returns : goal.returns
returns c = record { one_outcome = one_outcome; alarms_step = alarms_step }
