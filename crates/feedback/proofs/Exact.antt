-- A beat comes to one thing only, and takes the alarms one step on.
use Rattle.std.proofs.Common.{◌≡◌, Bool, ◌⊎◌, List, ℤ, ◌*ℤ◌, ap, ap₂, inl, inr}
use Rattle.linear.proofs.SumLaws.{sum_same}
use Rattle.linear.specs.Vectors.{Matrix, dot}
use Rattle.voter.proofs.Outsides.{not_both, one_outside}
use Rattle.voter.proofs.Same.{one_note}
use Rattle.voter.proofs.Voting.{one_middle}
use Rattle.voter.specs.Beats.{Counted, Refused}
use Rattle.voter.specs.Counts.{bad_of}
use Rattle.voter.specs.declared.watch.Alarms.{Alarms}
use Rattle.format.specs.declared.design.Design.{Design}
use Rattle.feedback.specs.Beats.{Comes, Went, gains, sensors_of}
use Rattle.feedback.specs.declared.outcome.Outcome.{Outcome}
use Rattle.feedback.specs.declared.outcome.Outcome.TheVariants.{Answered, Outside}

module _ (d : Design) (a : Alarms) (ys : Matrix) where
  one_answer : (u v : ℤ) (bad worse : List Bool) (b c : Alarms) → Went d a ys u bad b → Went d a ys v worse c → u ≡ v
  one_answer u v bad worse b c p q =
      let same = one_middle d.n ys p.y q.y p.voted.of_sent q.voted.of_sent in
      let sums : dot d.n (gains d) p.y ≡ dot d.n (gains d) q.y = sum_same d.n _ _ (λ i l. ap (λ (t : ℤ). gains d i *ℤ t) (same i l)) in
      let r = rw sums at p.rounded in
      q.rounded.only u r.half r.even

  pub one_outcome : (o p : Outcome) (b c : Alarms) → Comes d a ys o b → Comes d a ys p c → (o ≡ p) × (b ≡ c)
  one_outcome (Answered u bad) (Answered v worse) b c p q =
      let after : b ≡ c = one_note (sensors_of d) ys p.y q.y a b c p.voted.of_sent q.voted.of_sent p.notes q.notes in
      let answer : u ≡ v = ap (λ (z : ℤ). record { 0 = z }) (one_answer u.0 v.0 bad worse b c p q) in
      let shown : bad ≡ worse = cc (p.shown, q.shown, ap bad_of after) in
      (ap₂ Answered answer shown, after)
  one_outcome (Answered u bad) (Outside s i) b c p q = absurd (not_both d.n ys s i p.voted.inside q.0)
  one_outcome (Outside s i) (Answered v worse) b c p q = absurd (not_both d.n ys s i q.voted.inside p.0)
  one_outcome (Outside s i) (Outside t j) b c p q = let same = one_outside d.n ys s i t j p.0 q.0 in (cc, cc)

  pub alarms_step : (o : Outcome) (b : Alarms) → Comes d a ys o b → Counted (sensors_of d) ys a b ⊎ Refused (sensors_of d) ys a b
  alarms_step (Answered u bad) b p = inl (record { inside = p.voted.inside; y = p.y; middle = p.voted.of_sent; notes = p.notes })
  alarms_step (Outside s i) b p = inr (record { sensor = s; number = i; outside = p.0; same = p.1 })
