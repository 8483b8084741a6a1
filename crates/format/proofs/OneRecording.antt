-- A recording is refused in one way at most, and reading one has one answer.
use Rattle.std.proofs.Common.{◌≡◌, ℕ, ◌*◌, ◌<◌, List, Result, sym, ap, ◌∙◌, arith}
use native.Mathlib.Nat.{eq_of_mul-eq-mul_right}
use Rattle.format.specs.Checks.{Check, IsExact}
use Rattle.format.specs.Reading.{size, design_given, set_given}
use Rattle.format.specs.Recordings.{FirstSpoilt, Recorded, Records, frame, length_of, ranges_of, document_check, beats_check, padding_check, recording_check}
use Rattle.format.specs.Refusals.{Given}
use Rattle.format.specs.Sizes.{most_numbers}
use Rattle.format.specs.declared.design.Design.{Design as DesignOf}
use Rattle.format.specs.declared.recorded.Recording.{Recording}
use Rattle.format.specs.declared.fault.Fault.{Fault}
use Rattle.format.specs.declared.fault.Fault.TheVariants.{Documents, Beats, Padding}
use Rattle.format.specs.declared.refusal.Document.{Document}
use Rattle.format.specs.declared.refusal.Document.TheVariants.{Design, Set}
use Rattle.format.specs.declared.refusal.Refusal.{Refusal}
use Rattle.format.specs.declared.refusal.Refusal.TheVariants.{Length, Range as OutOfRange}
use Rattle.format.proofs.Checks.{next_exact, once_exact, one_result}
use Rattle.format.proofs.Exact.{same_out}
use Rattle.format.proofs.Same.{same_recording}
use Rattle.format.proofs.Unique.{one_design, one_set}

length_exact : (d : Document) (g : Given) → IsExact (length_of d g)
length_exact d g = record {
  never = λ e p f. f.2.wrong p;
  same = λ e f p q. p.1 ∙ ap (Length d) (p.2.here ∙ sym q.2.here) ∙ sym q.1;
}

ranges_exact : (d : Document) (g : Given) → IsExact (ranges_of d g)
ranges_exact d g = record {
  never = λ e p f. f.2.out (p f.2.k f.2.under);
  same = λ e f p q. p.1 ∙ ap (OutOfRange d) (same_out _ _ _ _ _ p.2 q.2) ∙ sym q.1;
}

document_exact : (c : Check Refusal) → IsExact c → IsExact (document_check c)
document_exact c x = record { never = never; same = same }
  where
    never : (f : Fault) → c.passes → (document_check c).fails f → ⊥
    never (Documents e) p f = x.never e p f
    never (Beats place) p f = f
    never (Padding place) p f = f

    same : (f g : Fault) → (document_check c).fails f → (document_check c).fails g → f ≡ g
    same (Documents e) (Documents f) p q = ap Documents (x.same e f p q)
    same (Documents e) (Beats place) p q = absurd q
    same (Documents e) (Padding place) p q = absurd q
    same (Beats place) g p q = absurd p
    same (Padding place) g p q = absurd p

beats_exact : (n : ℕ) (readings : List ℕ) → IsExact (beats_check n readings)
beats_exact n readings = record { never = λ e p f. f.1 p; same = λ e f p q. p.0 ∙ sym q.0 }

same_spoilt : (bytes : List ℕ) (x y : ℕ) → FirstSpoilt bytes x → FirstSpoilt bytes y → x ≡ y
same_spoilt bytes x y p q =
    let l : x < y → ⊥ = λ h. p.wrong (q.before x h p.padding) in
    let m : y < x → ⊥ = λ h. q.wrong (p.before y h q.padding) in
    omega arith

padding_exact : (readings : List ℕ) → IsExact (padding_check readings)
padding_exact readings = record {
  never = λ e p f. f.2.wrong (p f.0 f.2.under f.2.padding);
  same = λ e f p q. p.1 ∙ ap Padding (same_spoilt readings _ _ p.2 q.2) ∙ sym q.1;
}

pub recording_exact : (design set readings : List ℕ) → IsExact (recording_check design set readings)
recording_exact design set readings =
    let d = design_given design in
    let s = set_given design set in
    let told = once_exact (size most_numbers design) _ (λ n. next_exact _ _ (beats_exact n readings) (padding_exact readings)) in
    next_exact _ _
    (next_exact _ _ (document_exact _ (length_exact Design d)) (next_exact _ _ (document_exact _ (length_exact Set s)) told))
    (next_exact _ _ (document_exact _ (ranges_exact Design d)) (document_exact _ (ranges_exact Set s)))

pub one_recorded : (design set readings : List ℕ) (q r : Recording) → Recorded design set readings q → Recorded design set readings r → q ≡ r
one_recorded design set readings q r x y =
    let designs = one_design design q.design r.design x.of_design y.of_design in
    let n : q.design.n ≡ r.design.n = ap (λ (d : DesignOf). d.n) designs in
    let sets = one_set set q.faces r.faces (q.agree ∙ n ∙ sym r.agree) x.of_set y.of_set in
    let some = q.design.sized in
    let beats : q.beats * frame q.design.n ≡ r.beats * frame q.design.n = x.whole ∙ sym (rw n y.whole) in
    same_recording q r designs sets (eq_of_mul-eq-mul_right (frame q.design.n) (omega arith) q.beats r.beats beats)

pub one_recording : (design set readings : List ℕ) (q r : Result Recording Fault) → Records design set readings q → Records design set readings r → q ≡ r
one_recording design set readings = one_result (recording_check design set readings) (Recorded design set readings) (recording_exact design set readings) (one_recorded design set readings)
