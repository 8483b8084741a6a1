-- The laws of sums over the first n entries, each by one induction.
use Rattle.std.proofs.Common.{◌≡◌, ℕ, zero, suc, ◌+◌, ◌-◌, ◌*◌, ◌<◌, ◌≤◌, min, ℤ, pos, ◌+ℤ◌, ◌*ℤ◌, nat_abs, ◌≤ℤ◌, sym, refl, ap, ◌∙◌, inl, inr, add-zero, add-suc, mul-le-mul_right, mul-le-mul, arith}
use native.Mathlib.Nat.{min-eq_left, min-eq_right}
use borrow.Author.Differences.{ints}
use lib.IntN.{+ℤ_idr, *ℤ-zero}
use Rattle.std.proofs.lemmas.Bool.{cases_lt}
use Rattle.linear.specs.Vectors.{Vector, Matrix, sum, sizes, dot, spread}
use Rattle.linear.proofs.Ring.{*ℤ-+ℤ, +-swap, product_within}

pub sum_same : (n : ℕ) (f g : Vector) → ((i : ℕ) → i < n → f i ≡ g i) → sum n f ≡ sum n g
unfolding sum
sum_same zero f g h = refl
sum_same (suc n) f g h =
    let e : sum n f ≡ sum n g = sum_same n f g (λ i p. h i (omega arith)) in let k : f n ≡ g n = h n (omega arith) in cc

pub dot_same : (n : ℕ) (f g x y : Vector) → ((i : ℕ) → f i ≡ x i) → ((i : ℕ) → g i ≡ y i) → dot n f g ≡ dot n x y
dot_same n f g x y p q = sum_same n _ _ (λ i l. let e : f i ≡ x i = p i in let d : g i ≡ y i = q i in cc)

pub sum_plus : (n : ℕ) (f g : Vector) → sum n (λ i. f i +ℤ g i) ≡ sum n f +ℤ sum n g
unfolding sum
sum_plus zero f g = refl
sum_plus (suc n) f g = rw (sum_plus n f g) (+-swap (sum n f) (sum n g) (f n) (g n))

pub sum_times : (n : ℕ) (c : ℤ) (f : Vector) → sum n (λ i. c *ℤ f i) ≡ c *ℤ sum n f
unfolding sum
sum_times zero c f = sym (*ℤ-zero c)
sum_times (suc n) c f = rw (sum_times n c f) (sym (*ℤ-+ℤ c (sum n f) (f n)))

pub sum_none : (n : ℕ) → sum n (λ i. pos 0) ≡ pos 0
unfolding sum
sum_none zero = refl
sum_none (suc n) = rw (sum_none n) refl

pub sum_swap : (n m : ℕ) (f : Matrix) → sum n (λ i. sum m (λ j. f i j)) ≡ sum m (λ j. sum n (λ i. f i j))
unfolding sum
sum_swap zero m f = sym (sum_none m)
sum_swap (suc n) m f = rw (sum_swap n m f) (sym (sum_plus m (λ j. sum n (λ i. f i j)) (λ j. f n j)))

pub sum_mono : (n : ℕ) (f g : Vector) → ((i : ℕ) → i < n → f i ≤ℤ g i) → sum n f ≤ℤ sum n g
unfolding sum
sum_mono zero f g h = omega (arith, ints)
sum_mono (suc n) f g h =
    let e : sum n f ≤ℤ sum n g = sum_mono n f g (λ i p. h i (omega arith)) in let k : f n ≤ℤ g n = h n (omega arith) in omega (arith, ints)

pub sum_size : (n : ℕ) (f : Vector) (r : ℕ → ℕ) → ((i : ℕ) → i < n → nat_abs (f i) ≤ r i) → nat_abs (sum n f) ≤ sizes n r
unfolding sum sizes
sum_size zero f r h = omega arith
sum_size (suc n) f r h =
    let e : nat_abs (sum n f) ≤ sizes n r = sum_size n f r (λ i p. h i (omega arith)) in let k : nat_abs (f n) ≤ r n = h n (omega arith) in omega (arith, ints)

-- terms that are 0 from m on add nothing
pub sum_tail : (m k : ℕ) (f : Vector) → ((i : ℕ) → m ≤ i → f i ≡ pos 0) → sum (m + k) f ≡ sum m f
unfolding sum
sum_tail m zero f h = rw add-zero refl
sum_tail m (suc k) f h =
    let none : f (m + k) ≡ pos 0 = h (m + k) (omega arith) in rw (add-suc, none) (+ℤ_idr (sum (m + k) f) ∙ sum_tail m k f h)

-- nor do they where the sum is cut short there
pub sum_cut : (n m : ℕ) (f : Vector) → ((i : ℕ) → m ≤ i → f i ≡ pos 0) → sum (min n m) f ≡ sum n f
sum_cut n m f h =
    elim (cases_lt n m) [
      | inl p ↦ ap (λ k. sum k f) (min-eq_left (omega arith))
      | inr p ↦
          let e : n ≡ m + (n - m) = omega arith in
          ap (λ k. sum k f) (min-eq_right p) ∙ sym (sum_tail m (n - m) f h) ∙ ap (λ k. sum k f) (sym e)
    ]

pub sizes_within : (n b : ℕ) (r : ℕ → ℕ) → ((i : ℕ) → r i ≤ b) → sizes n r ≤ n * b
unfolding sizes
sizes_within zero b r h = omega arith
sizes_within (suc n) b r h = omega (arith, sizes_within n b r h, h n)

-- the sum of sizes is a sum
pub sizes_sum : (n : ℕ) (r : ℕ → ℕ) → pos (sizes n r) ≡ sum n (λ i. pos (r i))
unfolding sum sizes
sizes_sum zero r = refl
sizes_sum (suc n) r = ap (λ t. t +ℤ pos (r n)) (sizes_sum n r)

pub sum_within : (n b : ℕ) (f : Vector) → ((i : ℕ) → nat_abs (f i) ≤ b) → nat_abs (sum n f) ≤ n * b
sum_within n b f h =
    omega (arith, sum_size n f (λ i. b) (λ i p. h i), sizes_within n b (λ i. b) (λ i. omega arith))

-- a dot product of at most N entries, of at most A and B in size
pub dot_within : (n N A B : ℕ) (x y : Vector) → n ≤ N → ((i : ℕ) → nat_abs (x i) ≤ A) → ((i : ℕ) → nat_abs (y i) ≤ B) → nat_abs (dot n x y) ≤ N * (A * B)
dot_within n N A B x y h p q =
    omega (arith, sum_within n (A * B) (λ i. x i *ℤ y i) (λ i. product_within (x i) (y i) A B (p i) (q i)), mul-le-mul_right (A * B) h)

pub spread_within : (n N A B : ℕ) (x : Vector) (r : ℕ → ℕ) → n ≤ N → ((i : ℕ) → nat_abs (x i) ≤ A) → ((i : ℕ) → r i ≤ B) → spread n x r ≤ N * (A * B)
spread_within n N A B x r h p q =
    omega (arith, sizes_within n (A * B) (λ i. nat_abs (x i) * r i) (λ i. mul-le-mul (p i) (q i)), mul-le-mul_right (A * B) h)
