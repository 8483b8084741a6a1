-- Recordings: what the sensors sent, beat by beat, as bytes; and what is read of one with its design and its set.
use Rattle.std.specs.Prelude.{◌≡◌, ℕ, ◌+◌, ◌*◌, ◌%◌, ◌<◌, ◌≤◌, min, cond, List, length, ℤ, pos, Result, ◌≢◌, nat_lt, slice_index, slice_index_or}
use Rattle.std.specs.Int.{w16}
use Rattle.std.proofs.Common.{to_z}
use Rattle.linear.specs.Rows.{most_numbers}
use Rattle.linear.specs.Vectors.{Vector, Matrix, filled}
use Rattle.voter.specs.Sizes.{sensors}
use Rattle.format.specs.Checks.{Check, ◌next◌, once, Answers, IsExact}
use Rattle.format.specs.Reading.{size, design_given, set_given}
use Rattle.format.specs.Refusals.{Given, Whole, Ranged, Misfit, FirstNumber}
use Rattle.format.specs.Sizes.{design_count, set_count}
use Rattle.format.specs.Spelling.{Spells}
use Rattle.format.specs.Values.{design_number, set_number}
use Rattle.format.specs.declared.recorded.Recording.{Recording}
use Rattle.format.specs.declared.fault.Fault.{Fault}
use Rattle.format.specs.declared.fault.Fault.TheVariants.{Documents, Beats, Padding}
use Rattle.format.specs.declared.refusal.Document.{Document}
use Rattle.format.specs.declared.refusal.Document.TheVariants.{Design, Set}
use Rattle.format.specs.declared.refusal.Refusal.{Refusal}
use Rattle.format.specs.declared.refusal.Refusal.TheVariants.{Length}

-- the bytes of one reading
abbrev pub width : ℕ
width = 2

-- the bytes of one number of the state in a beat: a reading of each sensor, then padding
abbrev pub group : ℕ
group = 9

-- how many of them are the readings'
abbrev pub carried : ℕ
carried = 6

-- the bytes of a beat, for a state of n numbers
abbrev pub frame : ℕ → ℕ
frame n = group * n

-- the reading whose low byte is byte p: two bytes, in two's complement
abbrev pub reading : List ℕ → ℕ → ℤ
reading bytes p = to_z w16 (slice_index bytes p + slice_index bytes (p + 1) * 256)

-- what sensor c sent of number i, in the beat that the bytes begin with
abbrev pub spoken : List ℕ → Matrix
spoken bytes c i = reading bytes (group * i + width * c)

-- one sensor's readings of that beat, for a state of n numbers, and 0 past these
abbrev pub heard_row : ℕ → List ℕ → ℕ → Vector
heard_row n bytes c = filled (min n most_numbers) (spoken bytes c)

-- the same of each sensor, and 0 past the sensors
abbrev pub heard : ℕ → List ℕ → Matrix
heard n bytes c i = cond (nat_lt c sensors) (heard_row n bytes c i) (pos 0)

-- the padding among the first so many bytes is 0
abbrev pub Padded : List ℕ → ℕ → Type 0
Padded bytes count = (p : ℕ) → p < count → carried ≤ p % group → slice_index bytes p ≡ 0

-- the byte at the place is the first of the padding that is not 0
pub record FirstSpoilt (bytes : List ℕ) (place : ℕ) : Type 0 where
  pub under : place < length bytes
  pub before : Padded bytes place
  pub padding : carried ≤ place % group
  pub wrong : slice_index_or bytes place 0 ≡ 0 → ⊥

-- a document has as many bytes as can be told
abbrev pub length_of : Document → Given → Check Refusal
length_of d g = record { passes = Whole g; fails = λ e. (place : ℕ) × (e ≡ Length d place) × Misfit g.extent g.bytes place }

-- each number that is asked for is in its range
abbrev pub ranges_of : Document → Given → Check Refusal
ranges_of d g = record { passes = Ranged g; fails = FirstNumber d g }

-- P of the refusal of a document that the fault is, which a fault of the readings is not
abbrev pub OfDocument : (Refusal → Type 0) → Fault → Type 0
OfDocument P (Documents refusal) = P refusal
OfDocument P (Beats place) = ⊥
OfDocument P (Padding place) = ⊥

-- the check of a document, as one of the recording
abbrev pub document_check : Check Refusal → Check Fault
document_check c = record { passes = c.passes; fails = OfDocument c.fails }

-- readings are whole beats
abbrev pub beats_check : ℕ → List ℕ → Check Fault
beats_check n readings = record {
  passes = length readings % frame n ≡ 0;
  fails = λ e. (e ≡ Beats (length readings)) × (length readings % frame n ≢ 0);
}

-- their padding is 0
abbrev pub padding_check : List ℕ → Check Fault
padding_check readings = record {
  passes = Padded readings (length readings);
  fails = λ e. (place : ℕ) × (e ≡ Padding place) × FirstSpoilt readings place;
}

abbrev pub readings_check : List ℕ → ℕ → Check Fault
readings_check readings n = beats_check n readings next padding_check readings

-- the order of the checks: lengths, then padding, then ranges. Nothing is asked of the readings while n cannot be told
abbrev pub recording_form : List ℕ → List ℕ → List ℕ → Check Fault
recording_form design set readings =
    document_check (length_of Design (design_given design)) next document_check (length_of Set (set_given design set)) next once (size most_numbers design) (readings_check readings)

abbrev pub recording_check : List ℕ → List ℕ → List ℕ → Check Fault
recording_check design set readings =
    recording_form design set readings next document_check (ranges_of Design (design_given design)) next document_check (ranges_of Set (set_given design set))

-- the bytes are those of the design and of the set, and of so many beats
pub record Recorded (design set readings : List ℕ) (r : Recording) : Type 0 where
  pub of_design : Spells design (design_count r.design.n) (design_number r.design)
  pub of_set : Spells set (set_count r.faces.n r.faces.count) (set_number r.faces)
  pub whole : r.beats * frame r.design.n ≡ length readings

-- what reading answers: where the documents pass, what they record, and else their first fault
abbrev pub Records : List ℕ → List ℕ → List ℕ → Result Recording Fault → Type 0
Records design set readings = Answers (recording_check design set readings) (Recorded design set readings)

-- documents have one first fault at most, and those that pass have none
abbrev pub OneFault : Type 0
OneFault = (design set readings : List ℕ) → IsExact (recording_check design set readings)

-- one answer only keeps that promise
abbrev pub OneAnswer : Type 0
OneAnswer =
    (design set readings : List ℕ) (q r : Result Recording Fault) → Records design set readings q → Records design set readings r → q ≡ r
