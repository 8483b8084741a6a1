-- Rounding to the nearest whole number, of two equally near to the even one.
use Rattle.std.proofs.Common.{◌≡◌, ℕ, ◌+◌, ◌*◌, ◌/◌, ◌%◌, ◌<◌, ◌≤◌, ℤ, pos, ◌+ℤ◌, ◌*ℤ◌, neg_ℤ, nat_abs, ◌≤ℤ◌, ◌<ℤ◌, refl, ap, ◌∙◌, subst, inl, inr, mod-lt, mul-add, arith}
use native.Mathlib.Nat.{div-add-mod}
use borrow.Author.Differences.{ints}
use Rattle.std.proofs.lemmas.Int.{by_lt_z}
use Rattle.std.proofs.lemmas.Bool.{cases_lt}
use Rattle.linear.proofs.Ring.{*ℤ-+ℤ, scale_≤, times_neg}
use Rattle.law.specs.Answers.{rest, OffByHalf, EvenAtHalf, Rounded}

-- at most half off, and even at half: only one number is
pub record Near (den : ℕ) (s u : ℤ) : Type 0 where
  pub half : OffByHalf den den s u
  pub even : EvenAtHalf den s u

-- a larger number leaves at least den more
rest_steps : (den : ℕ) (s u v : ℤ) → u <ℤ v → (rest den s u +ℤ pos den) ≤ℤ rest den s v
rest_steps den s u v h =
    let up : (pos den *ℤ (u +ℤ pos 1)) ≤ℤ (pos den *ℤ v) = scale_≤ den (u +ℤ pos 1) v (omega (arith, ints)) in
    omega (arith, ints, *ℤ-+ℤ (pos den) u (pos 1))

-- what holds at u, above it and below it holds everywhere
everywhere : (P : ℤ → Type 0) (u : ℤ) → P u → ((v : ℤ) → u <ℤ v → P v) → ((v : ℤ) → v <ℤ u → P v) → (v : ℤ) → P v
everywhere P u here above below v =
    by_lt_z u v (above v)
    (λ l. by_lt_z v u (below v) (λ k. let same : u ≡ v = omega (arith, ints) in subst P same here))

half_is_nearest : (den : ℕ) (s u : ℤ) → OffByHalf den den s u → (v : ℤ) → nat_abs (rest den s u) ≤ nat_abs (rest den s v)
half_is_nearest den s u h =
    everywhere (λ v. nat_abs (rest den s u) ≤ nat_abs (rest den s v)) u (omega arith)
    (λ v l. omega (arith, ints, rest_steps den s u v l))
    (λ v l. omega (arith, ints, rest_steps den s v u l))

no_two_near : (den : ℕ) (s u v : ℤ) → 0 < den → Near den s u → Near den s v → u <ℤ v → ⊥
no_two_near den s u v p a b h =
    let up = rest_steps den s u v h in
    by_lt_z (u +ℤ pos 1) v
    (λ l. omega (arith, ints, rest_steps den s u (u +ℤ pos 1) (omega (arith, ints)), rest_steps den s (u +ℤ pos 1) v l))
    (λ l. omega (arith, ints, a.even (omega (arith, ints)), b.even (omega (arith, ints))))

pub near_rounds : (den : ℕ) (s u : ℤ) → 0 < den → Near den s u → Rounded den s u
near_rounds den s u p a =
    record {
      half = a.half;
      nearest = half_is_nearest den s u a.half;
      even = a.even;
      only = λ v h e. only_near v (record { half = h; even = e });
    }
  where
    only_near : (v : ℤ) → Near den s v → v ≡ u
    only_near =
        everywhere (λ v. Near den s v → v ≡ u) u (λ b. refl)
        (λ v l b. absurd (no_two_near den s u v p a b l))
        (λ v l b. absurd (no_two_near den s v u p b a l))

-- a quotient q with the remainder m is near where m is at most half
quotient_near : (den q m size r : ℕ) → den * q + m ≡ size → r ≡ q → 2 * m ≤ den → (2 * m ≡ den → r % 2 ≡ 0) → Near den (neg_ℤ (pos size)) (pos r)
quotient_near den q m size r e f h k =
    let same : den * r ≡ den * q = ap (λ (n : ℕ). den * n) f in
    record { half = omega (arith, ints); even = λ t. k (omega (arith, ints)) }

-- and one more where m is at least half
next_near : (den q m size r : ℕ) → den * q + m ≡ size → m < den → r ≡ q + 1 → den ≤ 2 * m → (2 * m ≡ den → r % 2 ≡ 0) → Near den (neg_ℤ (pos size)) (pos r)
next_near den q m size r e l f h k =
    let same : den * r ≡ den * q + den * 1 = ap (λ (n : ℕ). den * n) f ∙ mul-add den q 1 in
    record { half = omega (arith, ints); even = λ t. k (omega (arith, ints)) }

-- a size rounded: the quotient below the half, one more above it, and the even one of the two at the half
pub size_near : (den size r : ℕ) → 0 < den → (2 * (size % den) < den → r ≡ size / den) → (den < 2 * (size % den) → r ≡ size / den + 1) → (2 * (size % den) ≡ den → r ≡ size / den + size / den % 2) → Near den (neg_ℤ (pos size)) (pos r)
size_near den size r p down up even =
    elim (cases_lt r (size / den + 1)) [
      | inl l ↦ quotient_near den _ _ size r (div-add-mod size den) (grind arith) (grind arith) (grind arith)
      | inr l ↦ next_near den _ _ size r (div-add-mod size den) (mod-lt size p) (grind arith) (grind arith) (grind arith)
    ]

-- a number of either sign rounds as its size does, with the sign against it
pub signed_near : (den size r : ℕ) (s u : ℤ) → Near den (neg_ℤ (pos size)) (pos r) → size ≡ nat_abs s → (pos 0 <ℤ s → u ≡ neg_ℤ (pos r)) → (s ≤ℤ pos 0 → u ≡ pos r) → Near den s u
signed_near den size r s u a whole below above =
    by_lt_z (pos 0) s
    (λ l. sized (omega (arith, ints, times _ (below l) ∙ times_neg (pos den) (pos r))) (omega (arith, ints, below l)))
    (λ l. sized (omega (arith, ints, times _ (above l))) (omega (arith, ints, above l)))
  where
    times : (z : ℤ) → u ≡ z → pos den *ℤ u ≡ pos den *ℤ z
    times z e = ap (λ (x : ℤ). pos den *ℤ x) e

    sized : nat_abs (rest den s u) ≡ nat_abs (rest den (neg_ℤ (pos size)) (pos r)) → nat_abs u ≡ r → Near den s u
    sized e f = record { half = omega (arith, a.half); even = λ t. rw f (a.even (omega arith)) }
