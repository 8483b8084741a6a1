-- The ranges of designs, sets and sheets, and each number that the checker adds up within them.
use Rattle.std.specs.Prelude.{ℕ, ◌+◌, ◌-◌, ◌*◌, ◌^◌, ◌<◌, ◌≤◌, ℤ, pos, ◌+ℤ◌, ◌-ℤ◌, ◌*ℤ◌, neg_ℤ, unsigned_abs}
use Rattle.linear.specs.Vectors.{Vector, Matrix, dot, spread}

-- a design of n numbers (plant a, b over over, law k over over_law, off and noise), a set of count faces h with their tops,
-- and a sheet with its scale: multipliers m for each face, w for each sign of the law, v for each bound of a number
pub record Ranges : Type 0 where
  pub n : ℕ
  pub count : ℕ
  pub scale : ℕ
  pub over : ℕ
  pub over_law : ℕ
  pub limit : ℕ
  pub a : Matrix
  pub b : Vector
  pub k : Vector
  pub off : ℕ → ℕ
  pub noise : ℕ → ℕ
  pub h : Matrix
  pub top : Vector
  pub m : Matrix
  pub w : Matrix
  pub v : Matrix
  pub n_range : n ≤ 6
  pub count_range : count ≤ 24
  pub scale_range : scale ≤ 100
  pub over_range : over ≤ 1000
  pub over_law_range : over_law ≤ 1000
  pub limit_range : limit ≤ 30000
  pub a_range : (i j : ℕ) → unsigned_abs (a i j) ≤ 2000
  pub b_range : (i : ℕ) → unsigned_abs (b i) ≤ 2000
  pub k_range : (i : ℕ) → unsigned_abs (k i) ≤ 2000
  pub off_range : (i : ℕ) → off i ≤ 1000000
  pub noise_range : (i : ℕ) → noise i ≤ 1000
  pub h_range : (f j : ℕ) → unsigned_abs (h f j) ≤ 100
  pub top_range : (f : ℕ) → unsigned_abs (top f) ≤ 3000000
  pub m_range : (f g : ℕ) → unsigned_abs (m f g) ≤ 500000000
  pub w_range : (s g : ℕ) → unsigned_abs (w s g) ≤ 500000000
  pub v_range : (i g : ℕ) → unsigned_abs (v i g) ≤ 500000000

-- face f of what the plant makes of number j
abbrev pub through_plant : Ranges → ℕ → ℕ → ℤ
through_plant r f j = dot r.n (r.h f) (λ i. r.a i j)

-- face f of what the plant makes of the law's answer
abbrev pub through_law : Ranges → ℕ → ℤ
through_law r f = dot r.n (r.h f) r.b

-- twice what the law's answer can be off by, for noise and rounding
abbrev pub law_off : Ranges → ℕ
law_off r = 2 * spread r.n r.k r.noise + r.over_law

-- twice what noise, rounding and an uncertain plant add to face f
abbrev pub off_by : Ranges → ℕ → ℕ
off_by r f = unsigned_abs (through_law r f) * law_off r + 2 * r.over_law * spread r.n (r.h f) r.off

-- the same at the sheet's scale
abbrev pub added : Ranges → ℕ → ℕ
added r f = r.scale * off_by r f

-- twice the tops of the faces, under the multipliers of face f
abbrev pub tops : Ranges → ℕ → ℤ
tops r f = pos 2 *ℤ dot r.count (r.m f) r.top

-- what face f may come to after a beat
abbrev pub slack_left : Ranges → ℕ → ℤ
slack_left r f = tops r f +ℤ pos (added r f)

-- the top of face f, which that may not pass
abbrev pub slack_right : Ranges → ℕ → ℤ
slack_right r f = pos (2 * r.scale * r.over * r.over_law) *ℤ r.top f

-- number j of face f after a beat of plant and law
abbrev pub carried : Ranges → ℕ → ℕ → ℤ
carried r f j = pos r.over_law *ℤ through_plant r f j -ℤ through_law r f *ℤ r.k j

-- the same at the sheet's scale
abbrev pub face_left : Ranges → ℕ → ℕ → ℤ
face_left r f j = pos r.scale *ℤ carried r f j

-- number j of the faces, under a row x of multipliers: what a row of the sheet adds up to
abbrev pub mixed : Ranges → Vector → ℕ → ℤ
mixed r x j = dot r.count x (λ g. r.h g j)

-- number j of the law at the sheet's scale
abbrev pub law_left : Ranges → ℕ → ℤ
law_left r j = pos r.scale *ℤ r.k j

-- the most that the law's answer can be, with noise and rounding
abbrev pub law_room : Ranges → ℕ → ℤ
law_room r s = dot r.count (r.w s) r.top +ℤ pos (r.scale * spread r.n r.k r.noise + r.scale * r.over_law)

-- the law's limit, which that may not pass
abbrev pub law_limit : Ranges → ℕ
law_limit r = r.scale * r.over_law * r.limit

-- the most that a number can be, under row i of v
abbrev pub number_room : Ranges → ℕ → ℤ
number_room r i = dot r.count (r.v i) r.top

-- the range of number i less its noise, which that may not pass
abbrev pub number_limit : Ranges → ℕ → ℕ
number_limit r i = r.scale * (30000 - r.noise i)

-- less than 2 to the 62 in size, so that the sum or the difference of two such numbers fits 64 bits
abbrev pub Small : ℤ → Type 0
Small z = unsigned_abs z < 2 ^ 62

-- each of these numbers is small
pub record AllSmall (r : Ranges) : Type 0 where
  pub through_plant_small : (f j : ℕ) → Small (through_plant r f j)
  pub through_law_small : (f : ℕ) → Small (through_law r f)
  pub law_off_small : law_off r < 2 ^ 62
  pub off_by_small : (f : ℕ) → off_by r f < 2 ^ 62
  pub added_small : (f : ℕ) → added r f < 2 ^ 62
  pub tops_small : (f : ℕ) → Small (tops r f)
  pub slack_left_small : (f : ℕ) → Small (slack_left r f)
  pub slack_right_small : (f : ℕ) → Small (slack_right r f)
  pub carried_small : (f j : ℕ) → Small (carried r f j)
  pub face_left_small : (f j : ℕ) → Small (face_left r f j)
  pub face_right_small : (f j : ℕ) → Small (mixed r (r.m f) j)
  pub law_left_small : (j : ℕ) → Small (law_left r j)
  pub law_turned_small : (j : ℕ) → Small (neg_ℤ (law_left r j))
  pub law_right_small : (s j : ℕ) → Small (mixed r (r.w s) j)
  pub law_room_small : (s : ℕ) → Small (law_room r s)
  pub law_limit_small : law_limit r < 2 ^ 62
  pub number_left_small : r.scale < 2 ^ 62
  pub number_right_small : (i j : ℕ) → Small (mixed r (r.v i) j)
  pub number_room_small : (i : ℕ) → Small (number_room r i)
  pub number_limit_small : (i : ℕ) → number_limit r i < 2 ^ 62
