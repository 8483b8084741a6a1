-- What documents are refused for: the first fault, lengths before ranges, and either in the order of the documents.
use Rattle.std.specs.Prelude.{◌≡◌, ℕ, ◌*◌, ◌<◌, ◌≤◌, min, List, ◌++◌, length, Some, None, codes, decimal, Option}
use Rattle.format.specs.Ranges.{AllIn, Out}
use Rattle.format.specs.declared.layout.Range.{Range}
use Rattle.format.specs.declared.refusal.Document.{Document}
use Rattle.format.specs.declared.refusal.Document.TheVariants.{Design, Set, Sheet}
use Rattle.format.specs.declared.refusal.Refusal.{Refusal}
use Rattle.format.specs.declared.refusal.Refusal.TheVariants.{Length, Range as OutOfRange}

-- a refusal's number and its place
abbrev pub report : Refusal → ℕ × ℕ
report (Length d place) = (1, place)
report (OutOfRange Design place) = (2, place)
report (OutOfRange Set place) = (3, place)
report (OutOfRange Sheet place) = (4, place)

-- a document as it was given: its bytes, how many numbers it has once its sizes can be told, and the range of each
pub record Given : Type 0 where
  pub bytes : List ℕ
  pub extent : Option ℕ
  pub ranges : ℕ → Range

-- how many numbers are asked for: while the extent cannot be told, the first alone
abbrev pub asked : Option ℕ → ℕ
asked None = 1
asked (Some count) = count

-- the bytes are as many as the extent says; while it cannot be told, enough for the first number
abbrev pub Fits : Option ℕ → List ℕ → Type 0
Fits None bytes = 8 ≤ length bytes
Fits (Some count) bytes = length bytes ≡ 8 * count

-- the document has as many bytes as can be told
abbrev pub Whole : Given → Type 0
Whole g = Fits g.extent g.bytes

-- each number that is asked for is in its range
abbrev pub Ranged : Given → Type 0
Ranged g = AllIn g.ranges g.bytes (asked g.extent)

-- the bytes end too early at the place, or go on from there
pub record Misfit (extent : Option ℕ) (bytes : List ℕ) (place : ℕ) : Type 0 where
  pub wrong : Fits extent bytes → ⊥
  pub here : place ≡ min (length bytes) (8 * asked extent)

-- the number that begins at the place is the first of count that is out of its range
pub record FirstOut (ranges : ℕ → Range) (bytes : List ℕ) (count : ℕ) (place : ℕ) : Type 0 where
  pub k : ℕ
  pub under : k < count
  pub before : AllIn ranges bytes k
  pub out : Out ranges bytes k
  pub here : place ≡ 8 * k

-- the refusal is that of the first number of the document that is out of its range
abbrev pub FirstNumber : Document → Given → Refusal → Type 0
FirstNumber d g e = (place : ℕ) × (e ≡ OutOfRange d place) × FirstOut g.ranges g.bytes (asked g.extent) place

-- the order of the documents
abbrev pub rank : Document → ℕ
rank Design = 0
rank Set = 1
rank Sheet = 2

-- the document is the first with a wrong length
pub record LengthFault (given : Document → Given) (d : Document) (place : ℕ) : Type 0 where
  pub before : (e : Document) → rank e < rank d → Whole (given e)
  pub misfit : Misfit (given d).extent (given d).bytes place

-- all lengths are right, and the document is the first with a number out of its range
pub record RangeFault (given : Document → Given) (d : Document) (place : ℕ) : Type 0 where
  pub whole : (e : Document) → Whole (given e)
  pub before : (e : Document) → rank e < rank d → Ranged (given e)
  pub first : FirstOut (given d).ranges (given d).bytes (asked (given d).extent) place

-- the refusal is of the first fault
abbrev pub Refused : (Document → Given) → Refusal → Type 0
Refused given (Length d place) = LengthFault given d place
Refused given (OutOfRange d place) = RangeFault given d place

-- the documents have no fault
pub record Sound (given : Document → Given) : Type 0 where
  pub whole : (e : Document) → Whole (given e)
  pub ranged : (e : Document) → Ranged (given e)

-- documents are refused in one way at most, and sound ones in none
abbrev pub Exact : Type 0
Exact =
    ((given : Document → Given) (e f : Refusal) → Refused given e → Refused given f → e ≡ f)
    × ((given : Document → Given) (e : Refusal) → Sound given → Refused given e → ⊥)

-- a refusal as it is printed
abbrev pub refusal_line : ℕ → ℕ → List ℕ
refusal_line number place = codes "refused " ++ (decimal number ++ (codes " at " ++ decimal place))

-- how many places of a refusal each sensor or face has, one for each number of the state and some to spare
abbrev pub places : ℕ
places = 8
