-- What two true sensors of three come to.
use Rattle.std.proofs.Common.{ℕ, ◌≤◌, ℤ, ◌-ℤ◌, nat_abs, arith}
use borrow.Author.Differences.{ints}
use Rattle.linear.specs.Vectors.{Vector, Matrix}
use Rattle.voter.specs.Faults.{Near, Readings}
use Rattle.voter.specs.Middles.{Between, Middle, Two, TwoOf}
use Rattle.voter.specs.Ranges.{InRange, Room, TwoInRange}
use Rattle.voter.proofs.Voting.{two_map}

-- of three sensors one at most is faulty, so that two are not
pub two_true : (n : ℕ) (noise : ℕ → ℕ) (read : ℕ → Vector) (faulty : ℕ) (ys : Matrix) → Readings n noise read faulty ys → Two (λ c. Near n noise (read c) (ys c))
two_true n noise read faulty ys r = grind (arith, r.true_ones)

close_one : (a b c y x : ℤ) (w : ℕ) → Between a b c y → TwoOf (nat_abs (a -ℤ x) ≤ w) (nat_abs (b -ℤ x) ≤ w) (nat_abs (c -ℤ x) ≤ w) → nat_abs (y -ℤ x) ≤ w
close_one a b c y x w m h = grind (arith, ints)

-- the middle is as near as two of the three are
pub close : (n : ℕ) (bound : ℕ → ℕ) (x y : Vector) (ys : Matrix) → Two (λ c. Near n bound x (ys c)) → Middle n ys y → Near n bound x y
close n bound x y ys h m i l =
    close_one (ys 0 i) (ys 1 i) (ys 2 i) (y i) (x i) (bound i) (m i l) (two_map (λ p. p i l) (λ p. p i l) (λ p. p i l) h)

pub near_inside : (n : ℕ) (noise : ℕ → ℕ) (x y : Vector) → Room n noise x → Near n noise x y → InRange n y
near_inside n noise x y room near i l = omega (arith, ints, room i l, near i l)

pub true_inside : (n : ℕ) (noise : ℕ → ℕ) (x : Vector) (faulty : ℕ) (ys : Matrix) → Readings n noise (λ _. x) faulty ys → Room n noise x → TwoInRange n ys
true_inside n noise x faulty ys r room =
    two_map (near_inside n noise x (ys 0) room) (near_inside n noise x (ys 1) room) (near_inside n noise x (ys 2) room) (two_true n noise (λ _. x) faulty ys r)
