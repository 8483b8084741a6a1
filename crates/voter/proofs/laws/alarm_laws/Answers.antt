use Rattle.voter.proofs.Alarming.{alarming}
use Rattle.voter.proofs.laws.alarm_laws.Goals as goal

pub returns : goal.returns
returns c = alarming
