use Rattle.format.proofs.Answers.{one_answer, places}
use Rattle.format.proofs.Exact.{same, never}
use Rattle.format.proofs.read.reading_is_exact.Goals as goal

pub returns : goal.returns
returns c = record { exact = (same, never); one_answer = one_answer; places = places }
