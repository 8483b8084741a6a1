-- A document is a row of numbers of eight bytes each, low byte first, in two's complement.
use Rattle.std.specs.Prelude.{ℕ, ◌+◌, ◌*◌, List, ℤ, slice_index}
use Rattle.std.specs.Int.{w64}
use Rattle.std.proofs.Common.{to_z}

-- the eight bytes from p on, the lowest first
abbrev pub word : List ℕ → ℕ → ℕ
word bytes p =
    slice_index bytes p
    + slice_index bytes (p + 1) * 256
    + slice_index bytes (p + 2) * 65536
    + slice_index bytes (p + 3) * 16777216
    + slice_index bytes (p + 4) * 4294967296
    + slice_index bytes (p + 5) * 1099511627776
    + slice_index bytes (p + 6) * 281474976710656
    + slice_index bytes (p + 7) * 72057594037927936

-- number i of a document: its word of 64 bits, read in two's complement
unfoldable pub number : List ℕ → ℕ → ℤ
number bytes i = to_z w64 (word bytes (8 * i))
