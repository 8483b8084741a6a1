-- What a table that holds a block is: how large its numbers are, and what stands where.
use Rattle.std.proofs.Common.{◌≡◌, ℕ, ◌+◌, ◌*◌, ◌/◌, ◌%◌, ◌<◌, ◌≤◌, List, length, ℤ, pos, nat_abs, ◌≤ℤ◌, sym, refl, ap, ◌∙◌, subst, ⊎_elim, add_assoc, mod-lt, mul_comm, arith}
use borrow.Author.Differences.{ints}
use Rattle.std.proofs.lemmas.List.{get_or_past}
use Rattle.std.proofs.lemmas.Nat.{div-add-mod', div-mul-add, mod-mul-add, div_below, mul-add-lt}
use Rattle.std.proofs.lemmas.Bool.{cases_lt}
use Rattle.std.proofs.lemmas.Bool.Decides.{nat_tests}
use Rattle.linear.specs.Tables.{at}
use Rattle.format.specs.Blocks.{Blank}
use Rattle.format.specs.Numbers.{number}
use Rattle.format.specs.Slots.{slot, place, Each, Small, Above, Numbers}
use Rattle.format.specs.declared.block.Block.{Block}

pub slot_small : (bytes : List ℕ) (b : Block) (bound : ℕ) → Each b (Small bound bytes) → (s : ℕ) → nat_abs (slot bytes b s) ≤ bound
slot_small bytes b bound small s =
    let here : s / b.stride < b.rows → s % b.stride < b.columns → Small bound bytes (place b (s / b.stride) (s % b.stride)) =
    small (s / b.stride) (s % b.stride) in
    grind (arith, nat_tests)

-- row i and column j of the block, where the table's rows have room for the block's
pub slot_at : (bytes : List ℕ) (b : Block) (i j : ℕ) → b.columns ≤ b.stride → i < b.rows → j < b.columns → slot bytes b (b.stride * i + j) ≡ number bytes (place b i j)
slot_at bytes b i j room p q =
    let l : j < b.stride = omega arith in
    let row : (b.stride * i + j) / b.stride ≡ i = rw (mul_comm b.stride i) (div-mul-add i b.stride j l) in
    let column : (b.stride * i + j) % b.stride ≡ j = rw (mul_comm b.stride i) (mod-mul-add i b.stride j l) in
    rw (row, column) (grind (arith, nat_tests))

-- number k of a block whose rows stand one after another, counted row by row
pub slot_counted : (bytes : List ℕ) (b : Block) (k : ℕ) → b.columns ≤ b.stride → b.pitch ≡ b.columns → 0 < b.columns → k < b.rows * b.columns →
    slot bytes b (b.stride * (k / b.columns) + k % b.columns) ≡ number bytes (b.base + k)
slot_counted bytes b k room pitch some l =
    slot_at bytes b (k / b.columns) (k % b.columns) room (div_below k b.columns b.rows some l) (mod-lt k some)
    ∙ ap (number bytes) (rw (pitch, add_assoc b.base _ (k % b.columns), div-add-mod' k b.columns) refl)

-- each number of a block is one of those that stand between its first and its last
pub each_of_grid : (base rows columns : ℕ) (P : ℕ → Type 0) → Numbers base (rows * columns) P → (i j : ℕ) → i < rows → j < columns → P (base + i * columns + j)
each_of_grid base rows columns P all i j p q =
    subst P (sym (add_assoc base (i * columns) j)) (all (i * columns + j) (rw (mul_comm rows columns) (mul-add-lt i columns j rows p q)))

-- cells of a table that holds a block: none past the sizes, and none below 0 where none of the numbers is
module _ (bytes : List ℕ) (b : Block) (len : ℕ) (xs : List ℤ) (long : length xs ≡ len) (holds : (s : ℕ) → s < len → at xs s ≡ slot bytes b s) where
  past : (s : ℕ) → len ≤ s → at xs s ≡ pos 0
  past s l = let m : length xs ≤ s = omega arith in get_or_past xs s (pos 0) m

  pub block_blank : Blank b.stride b.rows b.columns xs
  block_blank s unused =
      ⊎_elim (λ l. holds s l ∙ rw unused refl) (past s) (cases_lt s len)

  pub block_above : Each b (Above bytes) → (s : ℕ) → pos 0 ≤ℤ at xs s
  block_above above s = ⊎_elim (λ l. rw (holds s l) (slot_above l)) (λ l. rw (past s l) (omega (arith, ints))) (cases_lt s len)
    where
      slot_above : s < len → pos 0 ≤ℤ slot bytes b s
      slot_above l =
          let here : s / b.stride < b.rows → s % b.stride < b.columns → Above bytes (place b (s / b.stride) (s % b.stride)) =
          above (s / b.stride) (s % b.stride) in
          grind (arith, nat_tests)
