-- From the bytes of a value back to its parts.
use Rattle.std.proofs.Common.{◌≡◌, ℕ, ◌+◌, ◌-◌, ◌*◌, ◌/◌, ◌%◌, ◌<◌, List, pos, sym, ap, ◌∙◌, mul_comm, arith}
use Rattle.std.proofs.lemmas.Nat.{div-mul-add, mod-mul-add, mul-add-lt}
use Rattle.std.proofs.lemmas.Bool.Decides.{nat_tests}
use Rattle.linear.specs.Tables.{at, grid}
use Rattle.format.specs.Numbers.{number}
use Rattle.format.specs.Parts.{PlantOf, LawOf, RowsOf, TopsOf, MultipliersOf}
use Rattle.format.specs.Sizes.{most_numbers, most_faces, b_at, off_at, over_law_at, k_at, noise_at, w_at, v_at, design_count, set_count, sheet_count}
use Rattle.format.specs.Spelling.{Spells}
use Rattle.format.specs.Values.{design_number, set_number, sheet_number}
use Rattle.format.specs.declared.certificate.Certificate.{Certificate}
use Rattle.format.specs.declared.design.Design.{Design}
use Rattle.format.specs.declared.faces.Faces.{Faces}
use Rattle.format.proofs.Chains.{after_base}

module _ (bytes : List ℕ) (d : Design) (s : Spells bytes (design_count d.n) (design_number d)) where
  a_number : (k : ℕ) → k < d.n * d.n → design_number d (3 + k) ≡ grid most_numbers d.plant.a.cells ((3 + k - 3) / d.n) ((3 + k - 3) % d.n)
  a_number k l = grind (arith, nat_tests)

  b_number : (k : ℕ) → k < d.n → design_number d (b_at d.n + k) ≡ at d.plant.b.cells (b_at d.n + k - b_at d.n)
  b_number k l = grind (arith, nat_tests)

  off_number : (k : ℕ) → k < d.n → design_number d (off_at d.n + k) ≡ at d.plant.off.cells (off_at d.n + k - off_at d.n)
  off_number k l = grind (arith, nat_tests)

  over_law_number : design_number d (over_law_at d.n) ≡ pos d.law.over_law
  over_law_number = grind (arith, nat_tests)

  k_number : (k : ℕ) → k < d.n → design_number d (k_at d.n + k) ≡ at d.law.k.cells (k_at d.n + k - k_at d.n)
  k_number k l = grind (arith, nat_tests)

  noise_number : (k : ℕ) → design_number d (noise_at d.n + k) ≡ at d.noise.cells (noise_at d.n + k - noise_at d.n)
  noise_number k = grind (arith, nat_tests)

  pub plant_of : PlantOf d.n bytes d.plant
  plant_of = record {
    over = s.each 2 (omega arith);
    a = λ k l. sym (s.each (3 + k) (omega arith) ∙ a_number k l ∙ after_base (λ i. grid most_numbers d.plant.a.cells (i / d.n) (i % d.n)) 3 k);
    b = λ k l. sym (s.each (b_at d.n + k) (omega arith) ∙ b_number k l ∙ after_base (at d.plant.b.cells) (b_at d.n) k);
    off = λ k l. sym (s.each (off_at d.n + k) (omega arith) ∙ off_number k l ∙ after_base (at d.plant.off.cells) (off_at d.n) k);
    blank = (d.blank.0, d.blank.1, d.blank.2);
  }

  pub law_of : LawOf d.n bytes d.law
  law_of = record {
    over_law = s.each (over_law_at d.n) (omega arith) ∙ over_law_number;
    k = λ k l. sym (s.each (k_at d.n + k) (omega arith) ∙ k_number k l ∙ after_base (at d.law.k.cells) (k_at d.n) k);
    blank = d.blank.3;
  }

  pub noise_of : (k : ℕ) → k < d.n → at d.noise.cells k ≡ number bytes (noise_at d.n + k)
  noise_of k l = sym (s.each (noise_at d.n + k) (omega arith) ∙ noise_number k ∙ after_base (at d.noise.cells) (noise_at d.n) k)

module _ (bytes : List ℕ) (t : Faces) (s : Spells bytes (set_count t.n t.count) (set_number t)) where
  -- number j of what is kept of face f
  numbered : (f j : ℕ) → f < t.count → j < t.n + 1 → 1 + f * (t.n + 1) + j < set_count t.n t.count
  numbered f j p q =
      let l = mul-add-lt f (t.n + 1) j t.count p q in
      let e = mul_comm (t.n + 1) t.count in
      omega arith

  place_is : (f j : ℕ) → j < t.n + 1 → (1 + f * (t.n + 1) + j - 1 ≡ f * (t.n + 1) + j) × ((f * (t.n + 1) + j) / (t.n + 1) ≡ f) × ((f * (t.n + 1) + j) % (t.n + 1) ≡ j)
  place_is f j l = (omega arith, div-mul-add f (t.n + 1) j l, mod-mul-add f (t.n + 1) j l)

  row_number : (f j : ℕ) → j < t.n → set_number t (1 + f * (t.n + 1) + j) ≡ grid most_numbers t.h.cells f j
  row_number f j l = let p = place_is f j (omega arith) in rw (p.0, p.1, p.2) (grind (arith, nat_tests))

  top_number : (f : ℕ) → set_number t (1 + f * (t.n + 1) + t.n) ≡ at t.tops.cells f
  top_number f = let p = place_is f t.n (omega arith) in rw (p.0, p.1, p.2) (grind (arith, nat_tests))

  pub rows_back : RowsOf t.n t.count bytes t.h.cells
  rows_back = record {
    each = λ f j p q. sym (s.each (1 + f * (t.n + 1) + j) (numbered f j p (omega arith)) ∙ row_number f j q);
    blank = t.blank.0;
  }

  pub tops_back : TopsOf t.n t.count bytes t.tops.cells
  tops_back = record {
    each = λ f p.
        let e : 1 + t.n + f * (t.n + 1) ≡ 1 + f * (t.n + 1) + t.n = omega arith in
        sym (ap (number bytes) e ∙ s.each (1 + f * (t.n + 1) + t.n) (numbered f t.n p (omega arith)) ∙ top_number f);
    blank = t.blank.1;
    above = t.above;
  }

module _ (bytes : List ℕ) (t : Certificate) (s : Spells bytes (sheet_count t.n t.count) (sheet_number t)) where
  m_number : (k : ℕ) → k < t.count * t.count → sheet_number t (1 + k) ≡ grid most_faces t.m.cells ((1 + k - 1) / t.count) ((1 + k - 1) % t.count)
  m_number k l = grind (arith, nat_tests)

  w_number : (k : ℕ) → k < 2 * t.count →
      sheet_number t (w_at t.count + k) ≡ grid most_faces t.w.cells ((w_at t.count + k - w_at t.count) / t.count) ((w_at t.count + k - w_at t.count) % t.count)
  w_number k l = grind (arith, nat_tests)

  v_number : (k : ℕ) →
      sheet_number t (v_at t.count + k) ≡ grid most_faces t.v.cells ((v_at t.count + k - v_at t.count) / t.count) ((v_at t.count + k - v_at t.count) % t.count)
  v_number k = grind (arith, nat_tests)

  pub m_back : MultipliersOf 1 t.count t.count bytes t.m.cells
  m_back = record {
    each = λ k l. sym (s.each (1 + k) (omega arith) ∙ m_number k l ∙ after_base (λ i. grid most_faces t.m.cells (i / t.count) (i % t.count)) 1 k);
    blank = t.blank.0;
    above = λ i. (t.above i).0;
  }

  pub w_back : MultipliersOf (w_at t.count) 2 t.count bytes t.w.cells
  w_back = record {
    each = λ k l. sym (s.each (w_at t.count + k) (omega arith) ∙ w_number k l ∙ after_base (λ i. grid most_faces t.w.cells (i / t.count) (i % t.count)) (w_at t.count) k);
    blank = t.blank.1;
    above = λ i. (t.above i).1;
  }

  pub v_back : MultipliersOf (v_at t.count) (2 * t.n) t.count bytes t.v.cells
  v_back = record {
    each = λ k l. sym (s.each (v_at t.count + k) (omega arith) ∙ v_number k ∙ after_base (λ i. grid most_faces t.v.cells (i / t.count) (i % t.count)) (v_at t.count) k);
    blank = t.blank.2;
    above = λ i. (t.above i).2;
  }
