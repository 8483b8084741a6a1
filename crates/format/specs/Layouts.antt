-- The range of each number of a document.
use Rattle.std.specs.Prelude.{ℕ, ◌+◌, ◌-◌, ◌/◌, ◌%◌, cond, ℤ, pos, negsuc, nat_lt, unsigned_abs}
use Rattle.format.specs.Ranges.{from_to}
use Rattle.format.specs.Sizes.{most_numbers, most_faces, off_at, over_law_at, k_at, noise_at}
use Rattle.format.specs.declared.layout.Range.{Range}

abbrev pub within_2000 : Range
within_2000 = from_to (negsuc 1999) (pos 2000)

-- twice off is at least over, so that off is at least half of over, rounded up
abbrev pub design_range : ℕ → ℤ → ℕ → Range
design_range n over i =
    cond (nat_lt i 1) (from_to (pos 1) (pos most_numbers))
    (cond (nat_lt i 2) (from_to (pos 1) (pos 30000))
    (cond (nat_lt i 3) (from_to (pos 1) (pos 1000))
    (cond (nat_lt i (off_at n)) within_2000
    (cond (nat_lt i (over_law_at n)) (from_to (pos ((unsigned_abs over + 1) / 2)) (pos 1000000))
    (cond (nat_lt i (k_at n)) (from_to (pos 1) (pos 1000))
    (cond (nat_lt i (noise_at n)) within_2000
    (from_to (pos 0) (pos 1000))))))))

abbrev pub set_range : ℕ → ℕ → Range
set_range n i =
    cond (nat_lt i 1) (from_to (pos 1) (pos most_faces))
    (cond (nat_lt ((i - 1) % (n + 1)) n) (from_to (negsuc 99) (pos 100))
    (from_to (pos 0) (pos 3000000)))

abbrev pub sheet_range : ℕ → Range
sheet_range i = cond (nat_lt i 1) (from_to (pos 1) (pos 100)) (from_to (pos 0) (pos 500000000))
