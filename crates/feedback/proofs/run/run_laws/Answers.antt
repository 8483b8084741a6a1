use Rattle.feedback.proofs.Going.{alarms_run}
use Rattle.feedback.proofs.OneRun.{one_run}
use Rattle.feedback.proofs.run.run_laws.Goals as goal

pub returns : goal.returns
returns c = record { one_run = one_run; alarms_run = alarms_run }
