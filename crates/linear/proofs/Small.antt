-- Each number that the checker adds up is small, by the ranges of what it is made of.
use Rattle.std.proofs.Common.{ℕ, ◌+◌, ◌-◌, ◌*◌, ◌≤◌, ℤ, pos, ◌*ℤ◌, neg_ℤ, nat_abs, mul-le-mul, arith}
use borrow.Author.Differences.{ints}
use Rattle.linear.specs.Ranges.{Ranges, AllSmall, Small, through_plant, through_law, law_off, off_by, added, tops, carried, mixed, law_left}
use Rattle.linear.specs.Vectors.{Vector, dot, spread}
use Rattle.linear.proofs.Ring.{product_within, plus_within, minus_within}
use Rattle.linear.proofs.SumLaws.{dot_within, spread_within}

turned : (z : ℤ) → Small z → Small (neg_ℤ z)
turned z h = omega (arith, ints)

pub plant_within : (r : Ranges) (f j : ℕ) → nat_abs (through_plant r f j) ≤ 6 * (100 * 2000)
plant_within r f j = dot_within r.n 6 100 2000 (r.h f) (λ i. r.a i j) r.n_range (r.h_range f) (λ i. r.a_range i j)

pub law_within : (r : Ranges) (f : ℕ) → nat_abs (through_law r f) ≤ 6 * (100 * 2000)
law_within r f = dot_within r.n 6 100 2000 (r.h f) r.b r.n_range (r.h_range f) r.b_range

noise_within : (r : Ranges) → spread r.n r.k r.noise ≤ 6 * (2000 * 1000)
noise_within r = spread_within r.n 6 2000 1000 r.k r.noise r.n_range r.k_range r.noise_range

pub law_off_within : (r : Ranges) → law_off r ≤ 24001000
law_off_within r = omega (arith, noise_within r, r.over_law_range)

pub off_by_within : (r : Ranges) (f : ℕ) → off_by r f ≤ 1200000 * 24001000 + 2000 * (6 * (100 * 1000000))
off_by_within r f = omega (arith, mul-le-mul (law_within r f) (law_off_within r), mul-le-mul twice plant)
  where
    plant : spread r.n (r.h f) r.off ≤ 6 * (100 * 1000000)
    plant = spread_within r.n 6 100 1000000 (r.h f) r.off r.n_range (r.h_range f) r.off_range

    twice : 2 * r.over_law ≤ 2000
    twice = omega (arith, r.over_law_range)

pub added_within : (r : Ranges) (f : ℕ) → added r f ≤ 100 * (1200000 * 24001000 + 2000 * (6 * (100 * 1000000)))
added_within r f = mul-le-mul r.scale_range (off_by_within r f)

pub carried_within : (r : Ranges) (f j : ℕ) → nat_abs (carried r f j) ≤ 1000 * 1200000 + 1200000 * 2000
carried_within r f j =
    minus_within (pos r.over_law *ℤ through_plant r f j) (through_law r f *ℤ r.k j) _ _
    (product_within (pos r.over_law) (through_plant r f j) 1000 _ r.over_law_range (plant_within r f j))
    (product_within (through_law r f) (r.k j) _ 2000 (law_within r f) (r.k_range j))

-- the tops, and number j of the faces, under a row of multipliers
under_top : (r : Ranges) (x : Vector) → ((g : ℕ) → nat_abs (x g) ≤ 500000000) → nat_abs (dot r.count x r.top) ≤ 24 * (500000000 * 3000000)
under_top r x h = dot_within r.count 24 500000000 3000000 x r.top r.count_range h r.top_range

mixed_small : (r : Ranges) (x : Vector) → ((g : ℕ) → nat_abs (x g) ≤ 500000000) → (j : ℕ) → Small (mixed r x j)
mixed_small r x h j =
    omega (arith, dot_within r.count 24 500000000 100 x (λ g. r.h g j) r.count_range h (λ g. r.h_range g j))

pub tops_within : (r : Ranges) (f : ℕ) → nat_abs (tops r f) ≤ 2 * (24 * (500000000 * 3000000))
tops_within r f = product_within (pos 2) (dot r.count (r.m f) r.top) 2 _ (omega arith) (under_top r (r.m f) (r.m_range f))

pub all_small : (r : Ranges) → AllSmall r
all_small r =
    record {
      through_plant_small = λ f j. omega (arith, plant_within r f j);
      through_law_small = λ f. omega (arith, law_within r f);
      law_off_small = omega (arith, law_off_within r);
      off_by_small = λ f. omega (arith, off_by_within r f);
      added_small = λ f. omega (arith, added_within r f);
      tops_small = λ f. omega (arith, tops_within r f);
      slack_left_small = λ f. omega (arith, plus_within (tops r f) (pos (added r f)) _ _ (tops_within r f) (added_within r f));
      slack_right_small = λ f. omega (arith, product_within (pos (2 * r.scale * r.over * r.over_law)) (r.top f) (200 * 1000 * 1000) 3000000 factor (r.top_range f));
      carried_small = λ f j. omega (arith, carried_within r f j);
      face_left_small = λ f j. omega (arith, product_within (pos r.scale) (carried r f j) 100 _ r.scale_range (carried_within r f j));
      face_right_small = λ f. mixed_small r (r.m f) (r.m_range f);
      law_left_small = law_row;
      law_turned_small = λ j. turned (law_left r j) (law_row j);
      law_right_small = λ s. mixed_small r (r.w s) (r.w_range s);
      law_room_small = λ s. omega (arith, plus_within (dot r.count (r.w s) r.top) (pos rounding) _ _ (under_top r (r.w s) (r.w_range s)) rounding_within);
      law_limit_small = omega (arith, mul-le-mul (mul-le-mul r.scale_range r.over_law_range) r.limit_range);
      number_left_small = omega (arith, r.scale_range);
      number_right_small = λ i. mixed_small r (r.v i) (r.v_range i);
      number_room_small = λ i. omega (arith, under_top r (r.v i) (r.v_range i));
      number_limit_small = λ i. omega (arith, mul-le-mul r.scale_range (less i));
    }
  where
    less : (i : ℕ) → 30000 - r.noise i ≤ 30000
    less i = omega arith

    factor : 2 * r.scale * r.over * r.over_law ≤ 200 * 1000 * 1000
    factor = let twice : 2 * r.scale ≤ 200 = omega (arith, r.scale_range) in mul-le-mul (mul-le-mul twice r.over_range) r.over_law_range

    law_row : (j : ℕ) → Small (law_left r j)
    law_row j = omega (arith, product_within (pos r.scale) (r.k j) 100 2000 r.scale_range (r.k_range j))

    rounding : ℕ
    rounding = r.scale * spread r.n r.k r.noise + r.scale * r.over_law

    rounding_within : rounding ≤ 100 * (6 * (2000 * 1000)) + 100 * 1000
    rounding_within = omega (arith, mul-le-mul r.scale_range (noise_within r), mul-le-mul r.scale_range r.over_law_range)
