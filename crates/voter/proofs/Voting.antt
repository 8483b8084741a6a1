-- The middle one of three is between them, and nothing else is.
use Rattle.std.proofs.Common.{◌≡◌, ℕ, ◌<◌, ℤ, ◌≤ℤ◌, refl, inl, inr, arith}
use borrow.Author.Differences.{ints}
use Rattle.std.proofs.lemmas.Bool.{lt-ltb}
use Rattle.linear.specs.Vectors.{Vector, Matrix, filled}
use Rattle.voter.specs.Middles.{Between, Middle, TwoOf, mid}
use Rattle.voter.specs.Votes.{mids}

pub mid_between : (a b c y : ℤ) → y ≡ mid a b c → Between a b c y
mid_between a b c y e = rw e (grind (arith, ints))

-- of three, two are not below y and two are not above z, so that one is neither
not_above : (a b c y z : ℤ) → Between a b c y → Between a b c z → y ≤ℤ z
not_above a b c y z p q = grind (arith, ints, p.high, q.low)

pub one_between : (a b c y z : ℤ) → Between a b c y → Between a b c z → y ≡ z
one_between a b c y z p q =
    let up : y ≤ℤ z = not_above a b c y z p q in
    let down : z ≤ℤ y = not_above a b c z y q p in
    omega (arith, ints)

pub one_middle : (n : ℕ) (ys : Matrix) (y z : Vector) → Middle n ys y → Middle n ys z → (i : ℕ) → i < n → y i ≡ z i
one_middle n ys y z p q i l = one_between (ys 0 i) (ys 1 i) (ys 2 i) (y i) (z i) (p i l) (q i l)

-- what two of three are, two of three are that follows from it
pub two_map : {P Q R P' Q' R' : Type 0} → (P → P') → (Q → Q') → (R → R') → TwoOf P Q R → TwoOf P' Q' R'
two_map f g h (inl (p, q)) = inl (f p, g q)
two_map f g h (inr (inl (p, r))) = inr (inl (f p, h r))
two_map f g h (inr (inr (q, r))) = inr (inr (g q, h r))

-- a row of middles has the middle one of each number
pub filled_middle : (n : ℕ) (ys : Matrix) (y : Vector) → ((i : ℕ) → y i ≡ filled n (mids ys) i) → Middle n ys y
filled_middle n ys y h i l = mid_between (ys 0 i) (ys 1 i) (ys 2 i) (y i) (rw (h i, lt-ltb i n l) refl)
