-- Beats one after another, and the alarms over them.
use Rattle.std.proofs.Common.{◌≡◌, ℕ, ◌+◌, ◌<◌, ◌≤◌, List, [], ◌∷◌, ◌++◌, length, take, drop, set, refl, arith, length-append, length-drop}
use Rattle.std.proofs.lemmas.List.{length-take-le, take-append-le, take_more_set}
use Rattle.std.proofs.lemmas.Slice.{drop-append-drop}
use Rattle.voter.specs.declared.watch.Alarms.{Alarms}
use Rattle.format.specs.declared.design.Design.{Design}
use Rattle.feedback.specs.Beats.{Comes}
use Rattle.feedback.specs.Promises.{AlarmsRun}
use Rattle.feedback.specs.Runs.{Goes, Ran, heard_at}
use Rattle.feedback.specs.declared.outcome.Outcome.{Outcome}
use Rattle.feedback.proofs.Exact.{alarms_step}

module _ (d : Design) (readings : List ℕ) where
  -- one beat more, which is beat k
  goes_more : (os : List Outcome) (b k : ℕ) (a m z : Alarms) (o : Outcome) → k ≡ b + length os → Goes d readings b a os m →
      Comes d m (heard_at d.n readings k) o z → Goes d readings b a (os ++ (o ∷ [])) z
  goes_more [] b k a m z o at g c =
      let here : k ≡ b = omega arith in
      (z, rw (← here, ← g) c, refl)
  goes_more (p ∷ os) b k a m z o at g c = (g.0, g.1, goes_more os (b + 1) k g.0 m z o (omega arith) g.2 c)

  -- the same, written behind the b beats that a slice begins with
  pub goes_on : (out : List Outcome) (b : ℕ) (a m z : Alarms) (o : Outcome) → b < length out → Goes d readings 0 a (take b out) m →
      Comes d m (heard_at d.n readings b) o z → Goes d readings 0 a (take (b + 1) (set out b o)) z
  goes_on out b a m z o l g c =
      rw take_more_set (goes_more (take b out) 0 b a m z o (omega (arith, length-take-le b out (omega arith))) g c)

  -- beats that fill the first part of a slice
  pub ran_part : (count : ℕ) (before part : List Outcome) → count ≤ length before →
      Ran d readings (length (take count before)) (take count before) part → Ran d readings count before (part ++ drop count before)
  ran_part count before part room r =
      let long : length part ≡ count = omega (arith, length-take-le count before room) in
      let within : count ≤ length part = omega arith in
      record {
        start = r.start;
        fresh = r.fresh;
        end = r.end;
        goes = rw take-append-le (rw (← r.long, long) at r.goes);
        rest = drop-append-drop count before part count (omega arith) long;
        long = omega (arith, length-append part (drop count before), length-drop count before);
      }

pub alarms_run : AlarmsRun
alarms_run d readings xs b [] a z g = g
alarms_run d readings xs b (o ∷ os) a z g =
    (g.0, alarms_step d a (heard_at d.n readings b) o g.0 g.1, alarms_run d readings xs (b + 1) os g.0 z g.2)
