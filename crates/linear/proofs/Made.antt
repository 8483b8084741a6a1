-- An array that a function of the index made.
use Rattle.std.proofs.Common.{◌≡◌, ℕ, zero, suc, ◌+◌, ◌<◌, ◌≤◌, List, ℤ, pos, sym, subst, inl, inr, arith, get_or}
use denote.Param.Members.{Mut, Called}
use Rattle.std.proofs.lemmas.Bool.{cases_lt, le-ltb}
use Rattle.std.proofs.lemmas.List.{get_or_past}
use Rattle.std.specs.Array.{IsFromFnResult, IsFromFnResultFrom}
use Rattle.linear.specs.Vectors.{Vector, filled}

module _ {F X : Type 0} {g : Mut F (ℕ × Unit {0}) X} (P : ℕ → X → Type 0) (xs : List X) where
  from : (f : F) (a n : ℕ) → IsFromFnResultFrom g f xs a n → ((i : ℕ) (y : X) (q : F) → i < a + n → Called g f (i, tt) y q → (q ≡ f) × P i y) → (i : ℕ) → a ≤ i → i < a + n → (d : X) → P i (get_or xs i d)
  from f a zero made gives i l u d = absurd (omega arith)
  from f a (suc n) (q, y, here, call, rest) gives i l u d =
      let first = gives a y q (omega arith) call in
      elim (cases_lt a i) [
        | inl k ↦ from f (a + 1) n (subst (λ (p : F). IsFromFnResultFrom g p xs (a + 1) n) first.0 rest) (λ j z p m. gives j z p (omega arith)) i (omega arith) (omega arith) d
        | inr k ↦ let e : a ≡ i = omega arith in subst (λ j. P j (get_or xs j d)) e (subst (P a) (sym (here.1 d)) first.1)
      ]

  -- what every call gives at its index, the entry there has, where calls leave the function as it was
  pub made : (f : F) (n : ℕ) → IsFromFnResult g f xs n → ((i : ℕ) (y : X) (q : F) → i < n → Called g f (i, tt) y q → (q ≡ f) × P i y) → (i : ℕ) → i < n → (d : X) → P i (get_or xs i d)
  made f n r gives i l d = from f 0 n r.each (λ j y q m. gives j y q (omega arith)) i (omega arith) (omega arith) d

-- where that is the numbers of t up to n and 0 from there on, so are the entries, past the last one too
pub filled_made : {F X : Type 0} {g : Mut F (ℕ × Unit {0}) X} {f : F} {xs : List X} (of : X → ℤ) (d : X) (n m : ℕ) (t : Vector) → of d ≡ pos 0 → n ≤ m → IsFromFnResult g f xs m →
    ((i : ℕ) (y : X) (q : F) → i < m → Called g f (i, tt) y q → (q ≡ f) × (of y ≡ filled n t i)) → (i : ℕ) → of (get_or xs i d) ≡ filled n t i
filled_made {F} {X} {g} {f} {xs} of d n m t none within r gives i =
    elim (cases_lt i m) [
      | inl l ↦ made (λ j y. of y ≡ filled n t j) xs f m r gives i l d
      | inr l ↦ rw (get_or_past xs i d (omega (arith, r.long)), le-ltb i n (omega arith)) none
    ]
