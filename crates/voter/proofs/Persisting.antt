-- One sensor over any number of beats, at each of which it differs or does not.
use Rattle.std.proofs.Common.{◌≡◌, ◌+◌, ◌≤◌, min, Bool, true, false, List, [], ◌∷◌, length, refl, ◌∙◌, arith}
use Rattle.std.proofs.Math.Bool.{or-false}
use Rattle.std.proofs.lemmas.Bool.{eq-eqb, or_left, or_right}
use Rattle.std.specs.List.{AllByRecursion}
use Rattle.voter.specs.Counts.{Seen, noted}
use Rattle.voter.specs.Sizes.{persistence}

abbrev pub after : Seen → List Bool → Seen
after s [] = s
after s (d ∷ ds) = after (noted d s) ds

pub spared : (s : Seen) (ds : List Bool) → AllByRecursion (λ d. d ≡ false) ds → (after s ds).bad ≡ s.bad
spared s [] h = refl
spared s (d ∷ ds) h = spared (noted d s) ds h.1 ∙ rw h.0 (or-false s.bad)

-- the beats that are left bring the count to the end
pub caught : (s : Seen) (ds : List Bool) → persistence ≤ s.count + length ds → 1 ≤ length ds → AllByRecursion (λ d. d ≡ true) ds → (after s ds).bad ≡ true
caught s [] n l h = absurd (omega arith)
caught s (d ∷ []) n l h = rw h.0 (or_right _ _ (eq-eqb (min persistence (s.count + 1)) persistence (omega arith)))
caught s (d ∷ e ∷ ds) n l h = caught (noted d s) (e ∷ ds) (rw h.0 (omega arith)) (omega arith) h.1

-- one beat more does not forget
pub kept_once : (s : Seen) (d : Bool) → s.bad ≡ true → (noted d s).bad ≡ true
kept_once s d h = or_left _ _ h
