-- The alarms over any number of beats.
use Rattle.std.proofs.Common.{◌≡◌, ℕ, zero, suc, ◌*◌, ◌<◌, Bool, true, false, ◌⊎◌, List, [], ◌∷◌, map, ℤ, ◌-ℤ◌, nat_abs, refl, ap, ◌∙◌, inl, inr, arith}
use borrow.Author.Differences.{ints}
use Rattle.std.proofs.lemmas.Bool.{le-ltb, lt-ltb, or_from, or_right}
use Rattle.std.proofs.lemmas.List.{length-map}
use Rattle.std.specs.List.{AllByRecursion}
use Rattle.linear.specs.Rows.{range}
use Rattle.linear.specs.Vectors.{Vector, Matrix}
use Rattle.voter.specs.Beats.{Sample, Counted, Far, Refused, SoundAt, Steps, True}
use Rattle.voter.specs.Counts.{Each, Seen, noted, seen_of}
use Rattle.voter.specs.Differences.{differs, strays}
use Rattle.voter.specs.Faults.{Near}
use Rattle.voter.specs.Middles.{Middle}
use Rattle.voter.specs.Promises.{Alarming}
use Rattle.voter.specs.Ranges.{Room}
use Rattle.voter.specs.Sizes.{sensors}
use Rattle.voter.specs.Votes.{mids, noise_of}
use Rattle.voter.specs.declared.sensors.Sensors.{Sensors}
use Rattle.voter.specs.declared.watch.Alarms.{Alarms}
use Rattle.voter.proofs.Anys.{any_false, any_same, any_true}
use Rattle.voter.proofs.Faulty.{close, near_inside, true_inside, two_true}
use Rattle.voter.proofs.Outsides.{not_both}
use Rattle.voter.proofs.Persisting as one
use Rattle.voter.proofs.Voting.{mid_between, one_middle}

pub each_at : (P : ℕ → Type 0) → Each P → (c : ℕ) → c < sensors → P c
each_at P h zero l = h.0
each_at P h (suc zero) l = h.1
each_at P h (suc (suc zero)) l = h.2
each_at P h (suc (suc (suc c))) l = absurd (omega arith)

-- a true sensor does not differ from a middle that is as near to the state
true_same : (n : ℕ) (noise : ℕ → ℕ) (x y z : Vector) → Near n noise x y → Room n noise x → Near n noise x z → differs n noise y z ≡ false
true_same n noise x y z near room true_one =
    any_false (λ i. strays (z i) (y i) (noise i)) n
    (λ i l. or_from _ _ (le-ltb range (nat_abs (z i)) (near_inside n noise x z room true_one i l)) (le-ltb (2 * noise i) (nat_abs (z i -ℤ y i)) (omega (arith, ints, near i l, true_one i l))))

-- one that is more than three noises from the state differs from such a middle
far_differs : (n : ℕ) (noise : ℕ → ℕ) (x y z : Vector) (i : ℕ) → Near n noise x y → i < n → 3 * noise i < nat_abs (z i -ℤ x i) → differs n noise y z ≡ true
far_differs n noise x y z i near l far =
    any_true (λ j. strays (z j) (y j) (noise j)) n i l (or_right _ _ (lt-ltb (2 * noise i) (nat_abs (z i -ℤ y i)) (omega (arith, ints, near i l))))

-- whether a sensor differs does not depend on which middle is meant
pub differs_same : (n : ℕ) (noise : ℕ → ℕ) (ys : Matrix) (y z x : Vector) → Middle n ys y → Middle n ys z → differs n noise y x ≡ differs n noise z x
differs_same n noise ys y z x p q = any_same _ _ n (λ i l. ap (λ (t : ℤ). strays (x i) t (noise i)) (one_middle n ys y z p q i l))

module _ (s : Sensors) (c : ℕ) (c_is : c < sensors) where
  -- whether the sensor differs at a beat
  abbrev flag : Sample → Bool
  flag e = differs s.n (noise_of s) (mids e.ys) (e.ys c)

  counted : (e : Sample) (a b : Alarms) → Counted s e.ys a b → seen_of b c ≡ noted (flag e) (seen_of a c)
  counted e a b k =
      let ys = e.ys in
      each_at (λ d. seen_of b d ≡ noted (differs s.n (noise_of s) k.y (ys d)) (seen_of a d)) k.notes c c_is
      ∙ ap (λ (t : Bool). noted t (seen_of a c)) (differs_same s.n (noise_of s) ys k.y (mids ys) (ys c) k.middle (λ i l. mid_between (ys 0 i) (ys 1 i) (ys 2 i) (mids ys i) refl))

  -- a sound beat is taken
  taken : (e : Sample) (a b : Alarms) → SoundAt s e → Counted s e.ys a b ⊎ Refused s e.ys a b → seen_of b c ≡ noted (flag e) (seen_of a c)
  taken e a b sound (inl k) = counted e a b k
  taken e a b sound (inr p) =
      absurd (not_both s.n e.ys p.sensor p.number (true_inside s.n (noise_of s) e.x sound.faulty e.ys sound.readings sound.room) p.outside)

  over : (es : List Sample) (a b : Alarms) → AllByRecursion (SoundAt s) es → Steps s a es b → seen_of b c ≡ one.after (seen_of a c) (map flag es)
  over [] a b sound g = ap (λ (t : Alarms). seen_of t c) g
  over (e ∷ es) a b sound g =
      over es g.0 b sound.1 g.2 ∙ ap (λ (t : Seen). one.after t (map flag es)) (taken e a g.0 sound.0 g.1)

  near : (e : Sample) → SoundAt s e → Near s.n (noise_of s) e.x (mids e.ys)
  near e sound =
      close s.n (noise_of s) e.x (mids e.ys) e.ys (two_true s.n (noise_of s) (λ _. e.x) sound.faulty e.ys sound.readings) (λ i l. mid_between (e.ys 0 i) (e.ys 1 i) (e.ys 2 i) (mids e.ys i) refl)

  quiet : (es : List Sample) → AllByRecursion (SoundAt s) es → AllByRecursion (True s c) es → AllByRecursion (λ d. d ≡ false) (map flag es)
  quiet [] sound r = tt
  quiet (e ∷ es) sound r =
      (true_same s.n (noise_of s) e.x (mids e.ys) (e.ys c) (near e sound.0) sound.0.room r.0, quiet es sound.1 r.1)

  loud : (es : List Sample) → AllByRecursion (SoundAt s) es → AllByRecursion (Far 3 s c) es → AllByRecursion (λ d. d ≡ true) (map flag es)
  loud [] sound r = tt
  loud (e ∷ es) sound r =
      (far_differs s.n (noise_of s) e.x (mids e.ys) (e.ys c) r.0.0 (near e sound.0) r.0.1 r.0.2, loud es sound.1 r.1)

  kept : (es : List Sample) (a b : Alarms) → Steps s a es b → (seen_of a c).bad ≡ true → (seen_of b c).bad ≡ true
  kept [] a b g h = ap (λ (t : Alarms). (seen_of t c).bad) g ∙ h
  kept (e ∷ es) a b (m, inl k, rest) h = kept es m b rest (ap (λ (t : Seen). t.bad) (counted e a m k) ∙ one.kept_once (seen_of a c) (flag e) h)
  kept (e ∷ es) a b (m, inr p, rest) h = kept es m b rest (ap (λ (t : Alarms). (seen_of t c).bad) p.same ∙ h)

pub alarming : Alarming
alarming =
    record {
      spared = λ s a b es c l sound r g. ap (λ (t : Seen). t.bad) (over s c l es a b sound g) ∙ one.spared (seen_of a c) (map (flag s c l) es) (quiet s c l es sound r);
      caught = λ s a b es c l n sound r g.
          ap (λ (t : Seen). t.bad) (over s c l es a b sound g)
          ∙ one.caught (seen_of a c) (map (flag s c l) es) (omega (arith, length-map es (flag s c l))) (omega (arith, length-map es (flag s c l))) (loud s c l es sound r);
      far = λ s c e t i l near off. (i, l, omega (arith, ints));
      kept = λ s a b es c l g h. kept s c l es a b g h;
    }
