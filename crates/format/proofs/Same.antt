-- Values with equal numbers are equal, whatever shows their ranges.
use Rattle.std.proofs.Common.{◌≡◌, ℕ, ◌*◌, ◌<◌, ◌≤◌, pos, ◌*ℤ◌, ◌≤ℤ◌}
use mathlib.Core.HLevel.{is_prop→PathP}
use denote.Struct.Props.{props}
use Rattle.linear.specs.Tables.{at}
use Rattle.format.specs.Sizes.{most_numbers, most_faces}
use Rattle.format.specs.Blocks.{Blank}
use Rattle.format.specs.declared.certificate.Certificate.{Certificate}
use Rattle.format.specs.declared.claim.Claim.{Claim}
use Rattle.format.specs.declared.design.Design.{Design}
use Rattle.law.specs.declared.gain.Law.{Law}
use Rattle.format.specs.declared.design.Plant.{Plant}
use Rattle.format.specs.declared.faces.Faces.{Faces}
use Rattle.format.specs.declared.recorded.Recording.{Recording}

pub same_plant : (p q : Plant) → p.over ≡ q.over → p.a ≡ q.a → p.b ≡ q.b → p.off ≡ q.off → p ≡ q
same_plant p q over a b off = λ i. record {
  over = over i;
  a = a i;
  b = b i;
  off = off i;
  ranged = is_prop→PathP (λ j. (1 ≤ over j) × (over j ≤ 1000)) (λ j. hlevel props) p.ranged q.ranged i;
}

pub same_law : (p q : Law) → p.over_law ≡ q.over_law → p.k ≡ q.k → p ≡ q
same_law p q over_law k = λ i. record {
  over_law = over_law i;
  k = k i;
  ranged = is_prop→PathP (λ j. (1 ≤ over_law j) × (over_law j ≤ 1000)) (λ j. hlevel props) p.ranged q.ranged i;
}

pub same_design : (d e : Design) → d.n ≡ e.n → d.limit ≡ e.limit → d.plant ≡ e.plant → d.law ≡ e.law → d.noise ≡ e.noise → d ≡ e
same_design d e n limit plant law noise = λ i. record {
  n = n i;
  limit = limit i;
  plant = plant i;
  law = law i;
  noise = noise i;
  sized = is_prop→PathP (λ j. (1 ≤ n j) × (n j ≤ most_numbers)) (λ j. hlevel props) d.sized e.sized i;
  limited = is_prop→PathP (λ j. (1 ≤ limit j) × (limit j ≤ 30000)) (λ j. hlevel props) d.limited e.limited i;
  halved = is_prop→PathP (λ j. (k : ℕ) → k < n j → pos (plant j).over ≤ℤ (pos 2 *ℤ at (plant j).off.cells k)) (λ j. hlevel props) d.halved e.halved i;
  quiet = is_prop→PathP (λ j. (k : ℕ) → pos 0 ≤ℤ at (noise j).cells k) (λ j. hlevel props) d.quiet e.quiet i;
  blank = is_prop→PathP (λ j. Blank most_numbers (n j) (n j) (plant j).a.cells × Blank 1 (n j) 1 (plant j).b.cells × Blank 1 (n j) 1 (plant j).off.cells × Blank 1 (n j) 1 (law j).k.cells × Blank 1 (n j) 1 (noise j).cells)
      (λ j. hlevel props) d.blank e.blank i;
}

pub same_faces : (s t : Faces) → s.n ≡ t.n → s.count ≡ t.count → s.h ≡ t.h → s.tops ≡ t.tops → s ≡ t
same_faces s t n count h tops = λ i. record {
  n = n i;
  count = count i;
  h = h i;
  tops = tops i;
  sized = is_prop→PathP (λ j. (1 ≤ n j) × (n j ≤ most_numbers) × (1 ≤ count j) × (count j ≤ most_faces)) (λ j. hlevel props) s.sized t.sized i;
  above = is_prop→PathP (λ j. (f : ℕ) → pos 0 ≤ℤ at (tops j).cells f) (λ j. hlevel props) s.above t.above i;
  blank = is_prop→PathP (λ j. Blank most_numbers (count j) (n j) (h j).cells × Blank 1 (count j) 1 (tops j).cells) (λ j. hlevel props) s.blank t.blank i;
}

pub same_certificate : (s t : Certificate) → s.n ≡ t.n → s.count ≡ t.count → s.scale ≡ t.scale → s.m ≡ t.m → s.w ≡ t.w → s.v ≡ t.v → s ≡ t
same_certificate s t n count scale m w v = λ i. record {
  n = n i;
  count = count i;
  scale = scale i;
  m = m i;
  w = w i;
  v = v i;
  sized = is_prop→PathP (λ j. (1 ≤ n j) × (n j ≤ most_numbers) × (1 ≤ count j) × (count j ≤ most_faces)) (λ j. hlevel props) s.sized t.sized i;
  scaled = is_prop→PathP (λ j. (1 ≤ scale j) × (scale j ≤ 100)) (λ j. hlevel props) s.scaled t.scaled i;
  above = is_prop→PathP (λ j. (k : ℕ) → (pos 0 ≤ℤ at (m j).cells k) × (pos 0 ≤ℤ at (w j).cells k) × (pos 0 ≤ℤ at (v j).cells k)) (λ j. hlevel props) s.above t.above i;
  blank = is_prop→PathP (λ j. Blank most_faces (count j) (count j) (m j).cells × Blank most_faces 2 (count j) (w j).cells × Blank most_faces (2 * n j) (count j) (v j).cells) (λ j. hlevel props) s.blank t.blank i;
}

pub same_claim : (c d : Claim) → c.design ≡ d.design → c.faces ≡ d.faces → c.certificate ≡ d.certificate → c ≡ d
same_claim c d design faces certificate = λ i. record {
  design = design i;
  faces = faces i;
  certificate = certificate i;
  agree = is_prop→PathP (λ j. ((faces j).n ≡ (design j).n) × ((certificate j).n ≡ (design j).n) × ((certificate j).count ≡ (faces j).count)) (λ j. hlevel props) c.agree d.agree i;
}

pub same_recording : (r s : Recording) → r.design ≡ s.design → r.faces ≡ s.faces → r.beats ≡ s.beats → r ≡ s
same_recording r s design faces beats = λ i. record {
  design = design i;
  faces = faces i;
  beats = beats i;
  agree = is_prop→PathP (λ j. (faces j).n ≡ (design j).n) (λ j. hlevel props) r.agree s.agree i;
}
