-- Documents have one first fault at most, and sound ones have none.
use Rattle.std.proofs.Common.{◌≡◌, ℕ, ◌<◌, List, sym, refl, ◌∙◌, subst, ap₂, arith}
use Rattle.format.specs.Refusals.{Given, Misfit, FirstOut, LengthFault, RangeFault, Refused, Sound, asked, rank}
use Rattle.format.specs.declared.layout.Range.{Range}
use Rattle.format.specs.declared.refusal.Document.{Document}
use Rattle.format.specs.declared.refusal.Document.TheVariants.{Design, Set, Sheet}
use Rattle.format.specs.declared.refusal.Refusal.{Refusal}
use Rattle.format.specs.declared.refusal.Refusal.TheVariants.{Length, Range as OutOfRange}

rank_injective : (d e : Document) → rank d ≡ rank e → d ≡ e
rank_injective Design Design p = refl
rank_injective Design Set p = absurd (omega arith)
rank_injective Design Sheet p = absurd (omega arith)
rank_injective Set Design p = absurd (omega arith)
rank_injective Set Set p = refl
rank_injective Set Sheet p = absurd (omega arith)
rank_injective Sheet Design p = absurd (omega arith)
rank_injective Sheet Set p = absurd (omega arith)
rank_injective Sheet Sheet p = refl

same_document : (d e : Document) → (rank d < rank e → ⊥) → (rank e < rank d → ⊥) → d ≡ e
same_document d e p q = rank_injective d e (omega arith)

pub same_out : (ranges : ℕ → Range) (bytes : List ℕ) (count x y : ℕ) → FirstOut ranges bytes count x → FirstOut ranges bytes count y → x ≡ y
same_out ranges bytes count x y p q =
    let l : p.k < q.k → ⊥ = λ h. p.out (q.before p.k h) in
    let m : q.k < p.k → ⊥ = λ h. q.out (p.before q.k h) in
    omega (arith, p.here, q.here)

same_length : (given : Document → Given) (d e : Document) (x y : ℕ) → LengthFault given d x → LengthFault given e y → Length d x ≡ Length e y
same_length given d e x y p q =
    let s : d ≡ e = same_document d e (λ l. p.misfit.wrong (q.before d l)) (λ l. q.misfit.wrong (p.before e l)) in
    let At : Document → Type 0 = λ t. Misfit (given t).extent (given t).bytes y in
    ap₂ Length s (p.misfit.here ∙ sym (subst At (sym s) q.misfit).here)

same_range : (given : Document → Given) (d e : Document) (x y : ℕ) → RangeFault given d x → RangeFault given e y → OutOfRange d x ≡ OutOfRange e y
same_range given d e x y p q =
    let s : d ≡ e = same_document d e (λ l. p.first.out (q.before d l p.first.k p.first.under)) (λ l. q.first.out (p.before e l q.first.k q.first.under)) in
    let At : Document → Type 0 = λ t. FirstOut (given t).ranges (given t).bytes (asked (given t).extent) y in
    ap₂ OutOfRange s (same_out _ _ _ x y p.first (subst At (sym s) q.first))

pub same : (given : Document → Given) (e f : Refusal) → Refused given e → Refused given f → e ≡ f
same given (Length d x) (Length e y) p q = same_length given d e x y p q
same given (Length d x) (OutOfRange e y) p q = absurd (p.misfit.wrong (q.whole d))
same given (OutOfRange d x) (Length e y) p q = absurd (q.misfit.wrong (p.whole e))
same given (OutOfRange d x) (OutOfRange e y) p q = same_range given d e x y p q

pub never : (given : Document → Given) (e : Refusal) → Sound given → Refused given e → ⊥
never given (Length d x) s p = p.misfit.wrong (s.whole d)
never given (OutOfRange d x) s p = p.first.out (s.ranged d p.first.k p.first.under)
