use Rattle.format.proofs.OneRecording.{recording_exact, one_recording}
use Rattle.format.proofs.recording.recording_is_exact.Goals as goal

pub returns : goal.returns
returns c = record { one_fault = recording_exact; one_answer = one_recording }
