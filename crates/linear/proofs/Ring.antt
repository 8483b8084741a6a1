-- The laws of sums, products, orders and sizes of whole numbers that the library lacks; some are for the rules to come.
use Rattle.std.proofs.Common.{◌≡◌, ℕ, ◌+◌, ◌*◌, ◌<◌, ◌≤◌, ℤ, pos, negsuc, ◌+ℤ◌, ◌-ℤ◌, ◌*ℤ◌, neg_ℤ, nat_abs, ◌≤ℤ◌, sym, refl, ap, ◌∙◌, mul-le-mul, mul-le-mul_left, arith}
use native.Mathlib.Nat.{le_of_mul-le-mul_left}
use borrow.Author.Differences.{ints, up, down, sum_is_lem, product_is, neg_is, le_out}
use lib.IntN.{*ℤ_comm}

pub *ℤ-+ℤ : (a b c : ℤ) → a *ℤ (b +ℤ c) ≡ a *ℤ b +ℤ a *ℤ c
*ℤ-+ℤ a b c = omega (arith, ints, ap (λ (t : ℕ). up a * t) (sum_is_lem b c), ap (λ (t : ℕ). down a * t) (sum_is_lem b c))

pub *ℤ-assoc : (a b c : ℤ) → (a *ℤ b) *ℤ c ≡ a *ℤ (b *ℤ c)
*ℤ-assoc a b c =
    omega (
      arith,
      ints,
      ap (λ (t : ℕ). t * up c) (product_is a b).0,
      ap (λ (t : ℕ). t * down c) (product_is a b).0,
      ap (λ (t : ℕ). t * up c) (product_is a b).1,
      ap (λ (t : ℕ). t * down c) (product_is a b).1,
      ap (λ (t : ℕ). up a * t) (product_is b c).0,
      ap (λ (t : ℕ). down a * t) (product_is b c).0,
      ap (λ (t : ℕ). up a * t) (product_is b c).1,
      ap (λ (t : ℕ). down a * t) (product_is b c).1,
    )

pub +-swap : (a b c d : ℤ) → (a +ℤ b) +ℤ (c +ℤ d) ≡ (a +ℤ c) +ℤ (b +ℤ d)
+-swap a b c d = omega (arith, ints)

pub times_swap : (a b c : ℤ) → a *ℤ (b *ℤ c) ≡ b *ℤ (a *ℤ c)
times_swap a b c = sym (*ℤ-assoc a b c) ∙ ap (λ t. t *ℤ c) (*ℤ_comm a b) ∙ *ℤ-assoc b a c

pub times_neg : (a c : ℤ) → a *ℤ neg_ℤ c ≡ neg_ℤ (a *ℤ c)
times_neg a c =
    omega (
      arith,
      ints,
      ap (λ (t : ℕ). up a * t) (neg_is c).0,
      ap (λ (t : ℕ). up a * t) (neg_is c).1,
      ap (λ (t : ℕ). down a * t) (neg_is c).0,
      ap (λ (t : ℕ). down a * t) (neg_is c).1,
    )

-- a factor goes into a difference
pub times_minus : (a b c : ℤ) → a *ℤ (b -ℤ c) ≡ a *ℤ b -ℤ a *ℤ c
times_minus a b c = *ℤ-+ℤ a b (neg_ℤ c) ∙ ap (λ t. a *ℤ b +ℤ t) (times_neg a c)

-- a factor of 0 or more keeps an order
pub scale_≤ : (m : ℕ) (a b : ℤ) → a ≤ℤ b → (pos m *ℤ a) ≤ℤ (pos m *ℤ b)
scale_≤ m a b h = omega (arith, ints, mul-le-mul_left m (le_out a b h))

pub times_≤ : (m a b : ℤ) → pos 0 ≤ℤ m → a ≤ℤ b → (m *ℤ a) ≤ℤ (m *ℤ b)
times_≤ (pos m) a b p h = scale_≤ m a b h
times_≤ (negsuc m) a b p h = absurd p.le

-- a common factor above 0 goes
pub cancel_≤ : (m : ℕ) (a b : ℤ) → 0 < m → (pos m *ℤ a) ≤ℤ (pos m *ℤ b) → a ≤ℤ b
cancel_≤ m a b p h =
    let k : m * (up a + down b) ≤ m * (up b + down a) = omega (arith, ints) in
    let l : up a + down b ≤ up b + down a = le_of_mul-le-mul_left k p in omega (arith, ints)

pub ≤_trans : (a b c : ℤ) → a ≤ℤ b → b ≤ℤ c → a ≤ℤ c
≤_trans a b c p q = omega (arith, ints)

pub size_times : (a b : ℤ) → nat_abs (a *ℤ b) ≡ nat_abs a * nat_abs b
size_times (pos a) (pos b) = refl
size_times (pos a) (negsuc b) = omega (arith, ints)
size_times (negsuc a) (pos b) = omega (arith, ints)
size_times (negsuc a) (negsuc b) = refl

-- a product is at most the product of what its factors are at most
pub product_within : (a b : ℤ) (m n : ℕ) → nat_abs a ≤ m → nat_abs b ≤ n → nat_abs (a *ℤ b) ≤ m * n
product_within a b m n p q = rw (size_times a b) (mul-le-mul p q)

pub plus_within : (a b : ℤ) (m n : ℕ) → nat_abs a ≤ m → nat_abs b ≤ n → nat_abs (a +ℤ b) ≤ m + n
plus_within a b m n p q = omega (arith, ints)

pub minus_within : (a b : ℤ) (m n : ℕ) → nat_abs a ≤ m → nat_abs b ≤ n → nat_abs (a -ℤ b) ≤ m + n
minus_within a b m n p q = omega (arith, ints)
