use Rattle.std.proofs.Common.{arith}
use Rattle.feedback.proofs.Going.{ran_part}
use Rattle.feedback.proofs.run.run.Goals as goal

pub returns : goal.returns
returns c = record {
  passes = c.in_ok-recording.ensures.0;
  recording = c.in_ok-recording.recording;
  recorded = c.in_ok-recording.ensures.1;
  counted = omega arith;
  ran = ran_part c.in_ok-recording.recording.design c.args.readings.now c.min-count.result c.args.out.now c.run_beats.new.out (omega arith) c.run_beats.ensures;
}
