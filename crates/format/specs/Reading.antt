-- What is read of a design, a set and a sheet that are given together.
use Rattle.std.specs.Prelude.{◌≡◌, ℕ, cond, ◌&&◌, List, length, pos, Some, None, Ok, Err, Option, Result, int_le, nat_le, unsigned_abs}
use Rattle.std.specs.Option.{option_map, unwrap_or}
use Rattle.format.specs.Layouts.{design_range, set_range, sheet_range}
use Rattle.format.specs.Numbers.{number}
use Rattle.format.specs.Parts.{Placed}
use Rattle.format.specs.Refusals.{Given, Refused, Sound}
use Rattle.format.specs.Sizes.{most_numbers, most_faces, design_count, set_count, sheet_count}
use Rattle.format.specs.Spelling.{Spells}
use Rattle.format.specs.Values.{design_number, set_number, sheet_number}
use Rattle.format.specs.declared.claim.Claim.{Claim}
use Rattle.format.specs.declared.refusal.Document.{Document}
use Rattle.format.specs.declared.refusal.Document.TheVariants.{Design, Set, Sheet}
use Rattle.format.specs.declared.refusal.Refusal.{Refusal}

-- the size that a document's first number gives, where that is one from 1 to most
abbrev pub size : ℕ → List ℕ → Option ℕ
size most bytes =
    cond (nat_le 8 (length bytes) && (int_le (pos 1) (number bytes 0) && int_le (number bytes 0) (pos most)))
    (Some (unsigned_abs (number bytes 0)))
    None

-- what two sizes give, once both can be told
abbrev pub both : (ℕ → ℕ → ℕ) → Option ℕ → Option ℕ → Option ℕ
both f None c = None
both f (Some n) None = None
both f (Some n) (Some c) = Some (f n c)

abbrev pub design_given : List ℕ → Given
design_given design =
    let n : Option ℕ = size most_numbers design in
    record { bytes = design; extent = option_map design_count n; ranges = design_range (unwrap_or n 0) (number design 2) }

abbrev pub set_given : List ℕ → List ℕ → Given
set_given design set =
    let n : Option ℕ = size most_numbers design in
    record { bytes = set; extent = both set_count n (size most_faces set); ranges = set_range (unwrap_or n 0) }

abbrev pub sheet_given : List ℕ → List ℕ → List ℕ → Given
sheet_given design set sheet =
    record { bytes = sheet; extent = both sheet_count (size most_numbers design) (size most_faces set); ranges = sheet_range }

abbrev pub claim_given : List ℕ → List ℕ → List ℕ → Document → Given
claim_given design set sheet Design = design_given design
claim_given design set sheet Set = set_given design set
claim_given design set sheet Sheet = sheet_given design set sheet

-- the bytes are those of the claim, number by number
pub record Holds (design set sheet : List ℕ) (c : Claim) : Type 0 where
  pub of_design : Spells design (design_count c.design.n) (design_number c.design)
  pub of_set : Spells set (set_count c.faces.n c.faces.count) (set_number c.faces)
  pub of_sheet : Spells sheet (sheet_count c.certificate.n c.certificate.count) (sheet_number c.certificate)

-- what reading answers: where the documents are sound, the claim whose bytes they are, and else their first fault
abbrev pub Reads : List ℕ → List ℕ → List ℕ → Result Claim Refusal → Type 0
Reads design set sheet (Ok c) = Sound (claim_given design set sheet) × Holds design set sheet c
Reads design set sheet (Err e) = Refused (claim_given design set sheet) e

-- one answer only keeps that promise
abbrev pub OneAnswer : Type 0
OneAnswer = (design set sheet : List ℕ) (q r : Result Claim Refusal) → Reads design set sheet q → Reads design set sheet r → q ≡ r

-- what a claim holds, part by part
abbrev pub Places : Type 0
Places = (design set sheet : List ℕ) (c : Claim) → Holds design set sheet c → Placed design set sheet c
