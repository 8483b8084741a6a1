use Rattle.std.proofs.Common.{◌≡◌, ℕ, length, ◌∙◌, subst, arith}
use Rattle.std.proofs.lemmas.Grind.{common_steps}
use Rattle.linear.specs.Vectors.{Matrix}
use Rattle.voter.specs.Sent.{sent}
use Rattle.feedback.specs.Beats.{Comes}
use Rattle.feedback.specs.Runs.{heard_at}
use Rattle.feedback.proofs.Frames.{drop_beat, heard_of_frame}
use Rattle.feedback.proofs.Going.{goes_on}
use Rattle.feedback.proofs.run.run_beats.Goals as goal

pub loop-slot-preserved : goal.loop-slot-preserved
loop-slot-preserved c =
    let d = c.args.design.now in
    let bytes = c.args.readings.now in
    let b = c.loop-slot.slot-index in
    let after = c.beat.result in
    let same : (s i : ℕ) → sent c.readings_of.result s i ≡ heard_at d.n bytes b s i =
    λ s i. c.readings_of.ensures s i ∙ rw (c.split_at.ensures.front, c.loop-slot.invariant.1) (heard_of_frame d.n _ s i) in
    let comes = subst (λ (ys : Matrix). Comes d c.loop-slot.alarms ys after.0 after.1) (λ k s i. same s i k) c.beat.ensures.comes in (
      goes_on d bytes c.loop-slot.out b c.new-alarms.result c.loop-slot.alarms after.1 after.0 (omega arith) c.loop-slot.invariant.0 comes,
      rw (c.split_at.ensures.back, c.loop-slot.invariant.1) (drop_beat d.n bytes b),
    )

pub returns : goal.returns
returns c =
    let all : c.loop-slot.slot-index ≡ length c.args.out.now = omega arith in
    record {
      start = c.new-alarms.result;
      fresh = c.new-alarms.ensures;
      end = c.loop-slot.alarms;
      goes = rw (← all) c.loop-slot.invariant.0;
      rest = grind (arith, common_steps);
      long = c.loop-slot.auto.out;
    }
