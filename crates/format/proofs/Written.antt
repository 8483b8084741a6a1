-- What was written of a claim can be read.
use Rattle.std.proofs.Common.{◌≡◌, ℕ, ◌≤◌, List, length, pos, Some, arith}
use borrow.Author.Differences.{ints}
use Rattle.std.proofs.lemmas.Bool.Decides.{nat_tests}
use Rattle.format.specs.Numbers.{number}
use Rattle.format.specs.Reading.{Holds, size, claim_given}
use Rattle.format.specs.Refusals.{Ranged, Sound, Whole}
use Rattle.format.specs.Sizes.{most_numbers, most_faces}
use Rattle.format.specs.declared.claim.Claim.{Claim}
use Rattle.format.specs.declared.refusal.Document.{Document}
use Rattle.format.specs.declared.refusal.Document.TheVariants.{Design, Set, Sheet}
use Rattle.format.proofs.Ranged.{design_ranged, set_ranged, sheet_ranged}

size_is : (most : ℕ) (bytes : List ℕ) (n : ℕ) → 8 ≤ length bytes → number bytes 0 ≡ pos n → 1 ≤ n → n ≤ most → size most bytes ≡ Some n
size_is most bytes n long first low high = rw first (grind (arith, ints, nat_tests))

module _ (design set sheet : List ℕ) (c : Claim) (h : Holds design set sheet c) where
  n : size most_numbers design ≡ Some c.design.n
  n = size_is most_numbers design _ (omega (arith, h.of_design.whole)) (h.of_design.each 0 (omega arith)) c.design.sized.0 c.design.sized.1

  faces : size most_faces set ≡ Some c.faces.count
  faces = size_is most_faces set _ (omega (arith, h.of_set.whole)) (h.of_set.each 0 (omega arith)) c.faces.sized.2 c.faces.sized.3

  over : number design 2 ≡ pos c.design.plant.over
  over = h.of_design.each 2 (omega arith)

  whole : (e : Document) → Whole (claim_given design set sheet e)
  whole Design = rw n h.of_design.whole
  whole Set = rw (n, faces, ← c.agree.0) h.of_set.whole
  whole Sheet = rw (n, faces, ← c.agree.1, ← c.agree.2) h.of_sheet.whole

  ranged : (e : Document) → Ranged (claim_given design set sheet e)
  ranged Design = rw (n, over) (λ i l. rw (h.of_design.each i l) (design_ranged c.design i l))
  ranged Set = rw (n, faces, ← c.agree.0) (λ i l. rw (h.of_set.each i l) (set_ranged c.faces i))
  ranged Sheet = rw (n, faces, ← c.agree.1, ← c.agree.2) (λ i l. rw (h.of_sheet.each i l) (sheet_ranged c.certificate i))

  pub written_sound : Sound (claim_given design set sheet)
  written_sound = record { whole = whole; ranged = ranged }
