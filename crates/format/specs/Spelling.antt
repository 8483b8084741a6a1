-- The bytes of a row of numbers.
use Rattle.std.specs.Prelude.{◌≡◌, ℕ, ◌*◌, ◌<◌, List, length, ℤ, slice_index}
use Rattle.format.specs.Numbers.{number}

-- the bytes are those of the first count of the numbers, and of no more
pub record Spells (bytes : List ℕ) (count : ℕ) (numbers : ℕ → ℤ) : Type 0 where
  pub whole : length bytes ≡ 8 * count
  pub each : (i : ℕ) → i < count → number bytes i ≡ numbers i

-- the list is one of bytes
abbrev pub Bytes : List ℕ → Type 0
Bytes xs = (i : ℕ) → slice_index xs i < 256
