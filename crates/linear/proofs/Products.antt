-- A loop that adds up terms in 64 bits: what holds between its turns, and one turn.
use Rattle.std.proofs.Common.{◌≡◌, ℕ, ◌+◌, ◌*◌, ◌^◌, ◌<◌, ◌≤◌, min, ℤ, pos, ◌+ℤ◌, nat_abs, ap, ◌∙◌, subst, mul-le-mul_right, add-one, arith, w64, SFits, to_z, of_z, to_z-of_z}
use borrow.Author.Differences.{ints}
use Rattle.linear.specs.Vectors.{Vector, sum}
use Rattle.linear.proofs.SumLaws.{sum_cut}

-- the total t of the first k terms, each of at most m in size
abbrev pub Total : ℕ → ℕ → Vector → ℤ → Type 0
Total k m f t = (t ≡ sum k f) × (nat_abs t ≤ k * m)

-- the turn at k, of at most n and at most l, which adds p
pub record Turn (n l k m : ℕ) (f : Vector) (p : ℤ) : Type 0 where
  pub more : k < min n l
  pub room : l * m < 2 ^ 63
  pub term : p ≡ f k
  pub within : nat_abs (f k) ≤ m

-- a number as the code has it: cast to its bits and back
abbrev back : ℤ → ℤ
back z = to_z w64 (of_z w64 z)

pub term_fits : (n l k m : ℕ) (f : Vector) (p : ℤ) → Turn n l k m f p → SFits w64 p
term_fits n l k m f p h =
    let one : 1 * m ≤ l * m = mul-le-mul_right m (omega (arith, h.more)) in
    let small : nat_abs p ≤ m = rw h.term h.within in omega (arith, ints, h.room)

more_fits : (n l k m : ℕ) (f : Vector) (t p : ℤ) → Total k m f t → Turn n l k m f p →
    SFits w64 (t +ℤ p) × (nat_abs (t +ℤ p) ≤ (k + 1) * m)
more_fits n l k m f t p s h =
    let all : (k + 1) * m ≤ l * m = mul-le-mul_right m (omega arith) in
    let small : nat_abs p ≤ m = rw h.term h.within in (omega (arith, ints), omega (arith, ints))

pub step_fits : (n l k m : ℕ) (f : Vector) (t p : ℤ) → Total k m f t → Turn n l k m f p → SFits w64 (t +ℤ back p)
step_fits n l k m f t p s h = rw (to_z-of_z (term_fits n l k m f p h)) (more_fits n l k m f t p s h).0

pub step : (n l k m : ℕ) (f : Vector) (t p : ℤ) → Total k m f t → Turn n l k m f p → Total (k + 1) m f (back (t +ℤ back p))
unfolding sum
step n l k m f t p s h =
    let r = more_fits n l k m f t p s h in
    let e : back (t +ℤ back p) ≡ t +ℤ p = ap (λ z. back (t +ℤ z)) (to_z-of_z (term_fits n l k m f p h)) ∙ to_z-of_z r.0 in
    (rw (e, add-one, h.term) (ap (λ u. u +ℤ f k) s.0), rw e r.1)

-- the total after the last turn, where the terms are 0 from l on
pub whole : (n l k m : ℕ) (f : Vector) (t : ℤ) → k ≡ min n l → ((i : ℕ) → l ≤ i → f i ≡ pos 0) → Total k m f t →
    (t ≡ sum n f) × (nat_abs t ≤ n * m) × (nat_abs t ≤ min n l * m)
whole n l k m f t e none s = (
  s.0 ∙ ap (λ j. sum j f) e ∙ sum_cut n l f none,
  omega (arith, s.1, mul-le-mul_right m short),
  subst (λ j. nat_abs t ≤ j * m) e s.1,
)
  where
    short : k ≤ n
    short = omega arith
