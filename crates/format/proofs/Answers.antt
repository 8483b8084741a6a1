-- Reading has one answer, and a claim read is one whose parts are where the documents have them.
use Rattle.std.proofs.Common.{◌≡◌, ℕ, List, Ok, Err, Result, ap, arith}
use Rattle.format.specs.Parts.{Placed}
use Rattle.format.specs.Reading.{Holds, Reads, claim_given}
use Rattle.format.specs.declared.claim.Claim.{Claim}
use Rattle.format.specs.declared.refusal.Refusal.{Refusal}
use Rattle.format.proofs.Back.{plant_of, law_of, noise_of, rows_back, tops_back, m_back, w_back, v_back}
use Rattle.format.proofs.Exact.{same, never}
use Rattle.format.proofs.Unique.{one_claim}

pub one_answer : (design set sheet : List ℕ) (q r : Result Claim Refusal) → Reads design set sheet q → Reads design set sheet r → q ≡ r
one_answer design set sheet (Ok c) (Ok d) p q = ap Ok (one_claim design set sheet c d p.1 q.1)
one_answer design set sheet (Ok c) (Err e) p q = absurd (never (claim_given design set sheet) e p.0 q)
one_answer design set sheet (Err e) (Ok c) p q = absurd (never (claim_given design set sheet) e q.0 p)
one_answer design set sheet (Err e) (Err f) p q = ap Err (same (claim_given design set sheet) e f p q)

pub places : (design set sheet : List ℕ) (c : Claim) → Holds design set sheet c → Placed design set sheet c
places design set sheet c h = record {
  n = h.of_design.each 0 (omega arith);
  limit = h.of_design.each 1 (omega arith);
  plant = plant_of design c.design h.of_design;
  law = law_of design c.design h.of_design;
  noise = noise_of design c.design h.of_design;
  count = h.of_set.each 0 (omega arith);
  rows = rows_back set c.faces h.of_set;
  tops = tops_back set c.faces h.of_set;
  scale = h.of_sheet.each 0 (omega arith);
  m = rw (← c.agree.2) (m_back sheet c.certificate h.of_sheet);
  w = rw (← c.agree.2) (w_back sheet c.certificate h.of_sheet);
  v = rw (← c.agree.2, ← c.agree.1) (v_back sheet c.certificate h.of_sheet);
}
