-- Cells that a loop writes one by one, and tables with equal cells.
use Rattle.std.proofs.Common.{◌≡◌, ℕ, zero, suc, ◌+◌, ◌^◌, ◌<◌, ◌≤◌, ◌≢◌, List, [], ◌∷◌, length, set, ℤ, nat_abs, arith, get_or-set_other, get_or-set_same, w32, w64, SFits, to_z, of_z, below_more}
use mathlib.Core.HLevel.{is_prop→PathP}
use denote.Struct.Props.{props}
use borrow.Author.Differences.{ints}
use Rattle.linear.specs.Tables.{at, Within}
use Rattle.linear.specs.declared.table.Table.{Table}

pub set_within : (b : ℕ) (xs : List ℤ) (i : ℕ) (v : ℤ) → Within b xs → nat_abs v ≤ b → Within b (set xs i v)
set_within b [] i v w h k = w k
set_within b (x ∷ xs) zero v w h zero = h
set_within b (x ∷ xs) zero v w h (suc k) = w (suc k)
set_within b (x ∷ xs) (suc i) v w h zero = w zero
set_within b (x ∷ xs) (suc i) v w h (suc k) = set_within b xs i v (λ j. w (suc j)) h k

-- cells that f gives up to i, with f i written at i, are cells that f gives up to i + 1
pub entries_more : (f : ℕ → ℤ) (xs : List ℤ) (i : ℕ) → i < length xs → ((k : ℕ) → k < i → at xs k ≡ f k) → (k : ℕ) → k < i + 1 → at (set xs i (f i)) k ≡ f k
entries_more f xs i l h =
    below_more _ _ (λ k m. let ne : k ≢ i = omega arith in rw get_or-set_other (h k m)) (rw get_or-set_same)

-- a number that is small enough for 32 bits, cast to them
pub narrowed : (a z : ℤ) (b : ℕ) → SFits w64 a → a ≡ z → nat_abs z ≤ b → b < 2 ^ 31 → to_z w32 (of_z w32 (to_z w64 (of_z w64 a))) ≡ z
narrowed a z b f e h l = omega (arith, ints)

-- tables with equal cells are equal, whatever shows their bounds
pub same_table : (l b : ℕ) (x y : Table l b) → x.cells ≡ y.cells → x ≡ y
same_table l b x y e = λ i. record {
  cells = e i;
  sized = is_prop→PathP (λ j. length (e j) ≡ l) (λ j. hlevel props) x.sized y.sized i;
  within = is_prop→PathP (λ j. Within b (e j)) (λ j. hlevel props) x.within y.within i;
}
