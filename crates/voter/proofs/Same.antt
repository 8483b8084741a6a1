-- Alarms that know the same of each sensor are equal, whatever shows their ranges.
use Rattle.std.proofs.Common.{◌≡◌, ℕ, ◌<◌, ◌≤◌, Bool, false, length, get_or, sym, ap, ◌∙◌, zero-le, arith}
use mathlib.Core.HLevel.{is_prop→PathP}
use denote.Struct.Props.{props}
use Rattle.std.proofs.lemmas.List.{ext_get_or}
use Rattle.linear.specs.Vectors.{Vector, Matrix}
use Rattle.voter.specs.Beats.{Notes}
use Rattle.voter.specs.Counts.{Each, noted, seen, seen_of}
use Rattle.voter.specs.Differences.{differs}
use Rattle.voter.specs.Middles.{Middle}
use Rattle.voter.specs.Sizes.{persistence, sensors}
use Rattle.voter.specs.Votes.{noise_of}
use Rattle.voter.specs.declared.sensors.Sensors.{Sensors}
use Rattle.voter.specs.declared.watch.Alarms.{Alarms}
use Rattle.voter.specs.declared.watch.Watch.{Watch}
use Rattle.voter.proofs.Alarming.{differs_same, each_at}

same_watch : (v w : Watch) → seen v ≡ seen w → v ≡ w
same_watch v w e = λ i. record {
  count = (e i).count;
  bad = (e i).bad;
  within = is_prop→PathP (λ j. (e j).count ≤ persistence) (λ j. hlevel props) v.within w.within i;
}

pub same_alarms : (a b : Alarms) → Each (λ c. seen_of a c ≡ seen_of b c) → a ≡ b
same_alarms a b e = λ i. record {
  watches = watches i;
  sized = is_prop→PathP (λ j. length (watches j) ≡ sensors) (λ j. hlevel props) a.sized b.sized i;
}
  where
    none : Watch
    none = record { count = 0; bad = false; within = zero-le }

    each : (c : ℕ) → c < sensors → get_or a.watches c none ≡ get_or b.watches c none
    each c l = same_watch _ _ (each_at (λ d. seen_of a d ≡ seen_of b d) e c l)

    watches : a.watches ≡ b.watches
    watches = ext_get_or none a.watches b.watches (a.sized ∙ sym b.sized) (λ c l. each c (omega (arith, a.sized)))

pub one_note : (s : Sensors) (ys : Matrix) (y z : Vector) (a b c : Alarms) → Middle s.n ys y → Middle s.n ys z → Notes s ys y a b → Notes s ys z a c → b ≡ c
one_note s ys y z a b c p q of_b of_c = same_alarms b c (same 0 of_b.0 of_c.0, same 1 of_b.1 of_c.1, same 2 of_b.2 of_c.2)
  where
    same : (d : ℕ) → seen_of b d ≡ noted (differs s.n (noise_of s) y (ys d)) (seen_of a d) → seen_of c d ≡ noted (differs s.n (noise_of s) z (ys d)) (seen_of a d) → seen_of b d ≡ seen_of c d
    same d e f = e ∙ ap (λ (t : Bool). noted t (seen_of a d)) (differs_same s.n (noise_of s) ys y z (ys d) p q) ∙ sym f
