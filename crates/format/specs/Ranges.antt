-- A number and its range.
use Rattle.std.specs.Prelude.{ℕ, ◌<◌, List, ℤ, ◌≤ℤ◌}
use Rattle.format.specs.Numbers.{number}
use Rattle.format.specs.declared.layout.Range.{Range}

abbrev pub from_to : ℤ → ℤ → Range
from_to a b = record { low = a; high = b }

abbrev pub In : Range → ℤ → Type 0
In r x = (r.low ≤ℤ x) × (x ≤ℤ r.high)

-- the document's first k numbers are in their ranges
abbrev pub AllIn : (ℕ → Range) → List ℕ → ℕ → Type 0
AllIn range bytes k = (i : ℕ) → i < k → In (range i) (number bytes i)

-- number k of the document is out of its range
abbrev pub Out : (ℕ → Range) → List ℕ → ℕ → Type 0
Out range bytes k = In (range k) (number bytes k) → ⊥
