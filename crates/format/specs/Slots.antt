-- The table of a block: what each of its cells holds.
use Rattle.std.specs.Prelude.{ℕ, ◌+◌, ◌*◌, ◌/◌, ◌%◌, ◌<◌, ◌≤◌, cond, List, length, ℤ, pos, ◌≤ℤ◌, unsigned_abs}
use Rattle.format.specs.Blocks.{used}
use Rattle.format.specs.Numbers.{number}
use Rattle.format.specs.declared.block.Block.{Block}

-- the number of the document that stands in row i and column j of the block
abbrev pub place : Block → ℕ → ℕ → ℕ
place b i j = b.base + i * b.pitch + j

-- cell s of the table: a number of the block, or 0
abbrev pub slot : List ℕ → Block → ℕ → ℤ
slot bytes b s =
    cond (used b.stride b.rows b.columns s) (number bytes (place b (s / b.stride) (s % b.stride))) (pos 0)

-- P of each number of the block
abbrev pub Each : Block → (ℕ → Type 0) → Type 0
Each b P = (i j : ℕ) → i < b.rows → j < b.columns → P (place b i j)

-- the bytes of number k are there
abbrev pub Present : List ℕ → ℕ → Type 0
Present bytes k = 8 * k + 8 ≤ length bytes

-- number k is at most so much in size
abbrev pub Small : ℕ → List ℕ → ℕ → Type 0
Small bound bytes k = unsigned_abs (number bytes k) ≤ bound

-- P of each of count numbers from number base on
abbrev pub Numbers : ℕ → ℕ → (ℕ → Type 0) → Type 0
Numbers base count P = (k : ℕ) → k < count → P (base + k)

-- number k is 0 or more
abbrev pub Above : List ℕ → ℕ → Type 0
Above bytes k = pos 0 ≤ℤ number bytes k
