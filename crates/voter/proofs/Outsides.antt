-- Readings outside: where two sensors have one, and where they are taken.
use Rattle.std.proofs.Common.{◌≡◌, ℕ, ◌≤◌, ℤ, nat_abs, ◌≤ℤ◌, inl, inr, arith}
use borrow.Author.Differences.{ints}
use Rattle.std.proofs.lemmas.Int.{clamps}
use Rattle.std.proofs.lemmas.Bool.{cases_lt, cases_order, le-ltb}
use Rattle.linear.specs.Rows.{range}
use Rattle.linear.specs.Vectors.{Vector, Matrix, filled}
use Rattle.voter.specs.Middles.{Between, Middle, TwoOf}
use Rattle.voter.specs.Ranges.{First, TwoInRange, TwoOutside, taken}
use Rattle.voter.specs.Votes.{mids}
use Rattle.voter.proofs.Voting.{filled_middle, two_map}

-- where two sensors of three have a reading outside, no two are inside
pub not_both : (n : ℕ) (ys : Matrix) (s i : ℕ) → TwoInRange n ys → TwoOutside n ys s i → ⊥
not_both n ys s i two p = grind (arith, p.first, p.later_is, p.other.1)

first_one : (n : ℕ) (y : Vector) (i j : ℕ) → First n y i → First n y j → i ≡ j
first_one n y i j f g = grind (arith, f, g)

-- there is one first reading outside
pub one_outside : (n : ℕ) (ys : Matrix) (s i t j : ℕ) → TwoOutside n ys s i → TwoOutside n ys t j → (s ≡ t) × (i ≡ j)
one_outside n ys s i t j p q =
    elim (cases_order s t) [
      | inl e ↦ (e, first_one n (ys t) i j (rw e at p.first) q.first)
      | inr (inl l) ↦ absurd (omega (arith, p.first.outside, q.earlier s l i p.first.here))
      | inr (inr l) ↦ absurd (omega (arith, q.first.outside, p.earlier t l j q.first.here))
    ]

inside_one : (a b c y : ℤ) → Between a b c y → TwoOf (nat_abs a ≤ range) (nat_abs b ≤ range) (nat_abs c ≤ range) → nat_abs y ≤ range
inside_one a b c y m h = grind (arith, ints)

-- where two of three are inside, so is the middle of each number, and 0 past them
pub middle_inside : (n : ℕ) (ys : Matrix) → TwoInRange n ys → (y : Vector) → ((i : ℕ) → y i ≡ filled n (mids ys) i) → (i : ℕ) → nat_abs (y i) ≤ range
middle_inside n ys two y h i =
    elim (cases_lt i n) [
      | inl l ↦ inside_one (ys 0 i) (ys 1 i) (ys 2 i) (y i) (filled_middle n ys y h i l) (two_map (λ p. p i l) (λ p. p i l) (λ p. p i l) two)
      | inr l ↦ rw (h i, le-ltb i n l) (omega arith)
    ]

low : (y m : ℤ) → nat_abs m ≤ range → y ≤ℤ m → taken y ≤ℤ m
low y m h l = omega (arith, ints, clamps)

high : (y m : ℤ) → nat_abs m ≤ range → m ≤ℤ y → m ≤ℤ taken y
high y m h l = omega (arith, ints, clamps)

-- where two of three are inside, a middle of what was sent is one of what is taken
pub middle_taken : (n : ℕ) (ys : Matrix) (y : Vector) → TwoInRange n ys → Middle n ys y → Middle n (λ c i. taken (ys c i)) y
middle_taken n ys y two m i l =
    let k = inside_one (ys 0 i) (ys 1 i) (ys 2 i) (y i) (m i l) (two_map (λ p. p i l) (λ p. p i l) (λ p. p i l) two) in
    record {
      low = two_map (low (ys 0 i) (y i) k) (low (ys 1 i) (y i) k) (low (ys 2 i) (y i) k) (m i l).low;
      high = two_map (high (ys 0 i) (y i) k) (high (ys 1 i) (y i) k) (high (ys 2 i) (y i) k) (m i l).high;
    }
