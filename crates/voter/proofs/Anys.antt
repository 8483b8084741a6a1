-- Whether something is so of some number below n.
use Rattle.std.proofs.Common.{◌≡◌, ℕ, zero, suc, ◌+◌, ◌<◌, Bool, true, false, zero-add, refl, arith}
use Rattle.std.proofs.lemmas.List.Elements.{All-from_get_or}
use Rattle.std.proofs.lemmas.List.FromFn.{get_or-range_with_len, length-range_with_len}
use Rattle.std.proofs.lemmas.List.Folds.{list_any_at, list_any_none}
use Rattle.std.specs.List.{list_any, range_with_len}

pub any_false : (f : ℕ → Bool) (n : ℕ) → ((i : ℕ) → i < n → f i ≡ false) → list_any f (range_with_len 0 n) ≡ false
any_false f n h =
    list_any_none f (range_with_len 0 n) (All-from_get_or (λ i. f i ≡ false) (range_with_len 0 n) 0 (λ i l. let k : i < n = omega (arith, length-range_with_len 0 n) in rw (get_or-range_with_len, zero-add) (h i k)))

pub any_true : (f : ℕ → Bool) (n i : ℕ) → i < n → f i ≡ true → list_any f (range_with_len 0 n) ≡ true
any_true f n i l e = list_any_at f (range_with_len 0 n) i 0 (omega (arith, length-range_with_len 0 n)) (rw (get_or-range_with_len, zero-add) e)

same_from : (f g : ℕ → Bool) (a n : ℕ) → ((i : ℕ) → i < a + n → f i ≡ g i) → list_any f (range_with_len a n) ≡ list_any g (range_with_len a n)
same_from f g a zero h = refl
same_from f g a (suc n) h = rw (h a (omega arith), same_from f g (a + 1) n (λ i l. h i (omega arith))) refl

pub any_same : (f g : ℕ → Bool) (n : ℕ) → ((i : ℕ) → i < n → f i ≡ g i) → list_any f (range_with_len 0 n) ≡ list_any g (range_with_len 0 n)
any_same f g n h = same_from f g 0 n (λ i l. h i (omega arith))
