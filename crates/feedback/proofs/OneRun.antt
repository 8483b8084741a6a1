-- Running a recording has one answer.
use Rattle.std.proofs.Common.{◌≡◌, ℕ, ◌+◌, ◌≤◌, List, [], ◌∷◌, length, take, Ok, Err, Result, sym, refl, ap, ◌∙◌, ap₂, arith}
use Rattle.std.proofs.lemmas.List.{length-take-le, take-append-drop}
use Rattle.voter.proofs.Same.{same_alarms}
use Rattle.voter.specs.declared.watch.Alarms.{Alarms}
use Rattle.format.proofs.OneRecording.{one_recorded, recording_exact}
use Rattle.format.specs.declared.design.Design.{Design}
use Rattle.format.specs.declared.fault.Fault.{Fault}
use Rattle.feedback.specs.Runs.{Goes, Ran, Runs, Taken, heard_at}
use Rattle.feedback.specs.declared.outcome.Outcome.{Outcome}
use Rattle.feedback.proofs.Exact.{one_outcome}

-- as many beats from the same alarms come to the same
one_way : (d : Design) (readings : List ℕ) (os ps : List Outcome) (b : ℕ) (a y z : Alarms) → length os ≡ length ps → Goes d readings b a os y → Goes d readings b a ps z → os ≡ ps
one_way d readings [] [] b a y z l g h = refl
one_way d readings [] (p ∷ ps) b a y z l g h = absurd (omega arith)
one_way d readings (o ∷ os) [] b a y z l g h = absurd (omega arith)
one_way d readings (o ∷ os) (p ∷ ps) b a y z l g h =
    let same = one_outcome d a (heard_at d.n readings b) o p g.0 h.0 g.1 h.1 in
    ap₂ ◌∷◌ same.0 (one_way d readings os ps (b + 1) g.0 y z (omega arith) g.2 (rw (← same.1) at h.2))

one_ran : (d : Design) (readings : List ℕ) (count : ℕ) (before after after' : List Outcome) → count ≤ length before → Ran d readings count before after → Ran d readings count before after' → after ≡ after'
one_ran d readings count before after after' room p q =
    let start : p.start ≡ q.start = same_alarms p.start q.start (cc, cc, cc) in
    let long : length (take count after) ≡ length (take count after') =
    omega (arith, p.long, q.long, length-take-le count after (omega arith), length-take-le count after' (omega arith)) in
    let taken : take count after ≡ take count after' =
    one_way d readings (take count after) (take count after') 0 p.start p.end q.end long p.goes (rw (← start) at q.goes) in
    cc (p.rest, q.rest, take-append-drop count after, take-append-drop count after')

module _ (design set readings : List ℕ) (before after after' : List Outcome) where
  one_taken : (m n : ℕ) → Taken design set readings before after m → Taken design set readings before after' n → (m ≡ n) × (after ≡ after')
  one_taken m n p q =
      let same : p.recording ≡ q.recording = one_recorded design set readings p.recording q.recording p.recorded q.recorded in
      let counts : m ≡ n = cc (p.counted, q.counted) in
      (counts, one_ran p.recording.design readings m before after after' (omega (arith, p.counted)) p.ran (rw (← same, ← counts) at q.ran))

  pub one_run : (q r : Result ℕ Fault) → Runs design set readings before after q → Runs design set readings before after' r → (q ≡ r) × (after ≡ after')
  one_run (Ok m) (Ok n) p q = let same = one_taken m n p q in (ap Ok same.0, same.1)
  one_run (Ok m) (Err e) p q = absurd ((recording_exact design set readings).never e p.passes q.0)
  one_run (Err e) (Ok n) p q = absurd ((recording_exact design set readings).never e q.passes p.0)
  one_run (Err e) (Err f) p q = (ap Err ((recording_exact design set readings).same e f p.0 q.0), p.1 ∙ sym q.1)
