-- A number of a document by the part in which it stands.
use Rattle.std.proofs.Common.{◌≡◌, ℕ, ◌+◌, ◌-◌, ◌<◌, ◌≤◌, Bool, true, false, cond, ltb, ap, ⊎_elim, arith, le-ltb, lt-ltb}
use Rattle.std.proofs.lemmas.Bool.{cases_lt}

-- the part that ends before m, or one after it
pub part : {X : Type 0} (i m : ℕ) (x y z : X) → (i < m → z ≡ x) → (m ≤ i → z ≡ y) → z ≡ cond (ltb i m) x y
part i m x y z before after =
    ⊎_elim (λ l. let t = lt-ltb i m l in rw t (before l)) (λ l. let t = le-ltb i m l in rw t (after l)) (cases_lt i m)

-- number i, counted from where its part begins
pub from_base : {X : Type 0} (f : ℕ → X) (i base : ℕ) → base ≤ i → f i ≡ f (base + (i - base))
from_base f i base l = ap f (omega arith)

-- what stands k after the beginning of a part, where the part is counted from there
pub after_base : {X : Type 0} (f : ℕ → X) (base k : ℕ) → f (base + k - base) ≡ f k
after_base f base k = ap f (omega arith)

-- a number and its range, by the part in which they stand
module _ {R X : Type 0} (In : R → X → Type 0) where
  pub in_part : (i m : ℕ) (r s : R) (x y : X) → (i < m → In r x) → (m ≤ i → In s y) → In (cond (ltb i m) r s) (cond (ltb i m) x y)
  in_part i m r s x y before after =
      ⊎_elim (λ l. let t = lt-ltb i m l in rw t (before l)) (λ l. let t = le-ltb i m l in rw t (after l)) (cases_lt i m)

  -- two parts of one range
  pub in_parts : (i k m : ℕ) (r s : R) (x y z : X) → k ≤ m → (i < k → In r x) → (k ≤ i → i < m → In r y) → (m ≤ i → In s z) → In (cond (ltb i m) r s) (cond (ltb i k) x (cond (ltb i m) y z))
  in_parts i k m r s x y z q first second after =
      ⊎_elim
      (λ l. let t = lt-ltb i k l in let u = lt-ltb i m (omega arith) in rw (t, u) (first l))
      (λ l. let t = le-ltb i k l in rw t (in_part i m r s y z (second l) after))
      (cases_lt i k)

-- parts of one range, whichever it is
pub in_either : {X : Type 0} (P : X → Type 0) (b : Bool) (x y : X) → P x → P y → P (cond b x y)
in_either P true x y p q = p
in_either P false x y p q = q
