-- Bytes are those of one value only.
use Rattle.std.proofs.Common.{◌≡◌, ℕ, ◌+◌, ◌*◌, ◌/◌, ◌%◌, ◌<◌, true, List, length, ℤ, pos, sym, ap, ◌∙◌, subst, ⊎_elim, mul_comm, arith}
use borrow.Author.Differences.{ints}
use Rattle.std.proofs.lemmas.Nat.{div-add-mod', div-mul-add, mod-mul-add, mul-add-lt}
use Rattle.std.proofs.lemmas.List.{ext_get_or}
use Rattle.std.proofs.lemmas.Bool.{cases_Bool}
use Rattle.std.proofs.lemmas.Bool.Decides.{nat_tests}
use Rattle.linear.specs.Tables.{at, grid}
use Rattle.linear.proofs.Cells.{same_table}
use Rattle.format.specs.Blocks.{Blank, used}
use Rattle.format.specs.Numbers.{number}
use Rattle.format.specs.Parts.{PlantOf, LawOf, RowsOf, TopsOf, MultipliersOf}
use Rattle.format.specs.Reading.{Holds}
use Rattle.format.specs.Sizes.{most_numbers, most_faces, b_at, off_at, k_at, noise_at, w_at, v_at, design_count, set_count, sheet_count}
use Rattle.format.specs.Spelling.{Spells}
use Rattle.format.specs.Values.{design_number, set_number, sheet_number}
use Rattle.format.specs.declared.certificate.Certificate.{Certificate}
use Rattle.format.specs.declared.claim.Claim.{Claim}
use Rattle.format.specs.declared.design.Design.{Design}
use Rattle.law.specs.declared.gain.Law.{Law}
use Rattle.format.specs.declared.design.Plant.{Plant}
use Rattle.format.specs.declared.faces.Faces.{Faces}
use Rattle.format.proofs.Back.{plant_of, law_of, noise_of, rows_back, tops_back, m_back, w_back, v_back}
use Rattle.format.proofs.Same.{same_plant, same_law, same_design, same_faces, same_certificate, same_claim}

-- tables that hold the same block are equal
module _ (stride rows columns len : ℕ) (xs ys : List ℤ) (apart : 0 < stride) (long_x : length xs ≡ len) (long_y : length ys ≡ len) where
  same_cells : Blank stride rows columns xs → Blank stride rows columns ys → ((i j : ℕ) → i < rows → j < columns → grid stride xs i j ≡ grid stride ys i j) → xs ≡ ys
  same_cells blank_x blank_y each = ext_get_or (pos 0) xs ys (long_x ∙ sym long_y) (λ s l. ⊎_elim (at_used s) (λ f. blank_x s f ∙ sym (blank_y s f)) (cases_Bool (used stride rows columns s)))
    where
      at_used : (s : ℕ) → used stride rows columns s ≡ true → at xs s ≡ at ys s
      at_used s u =
          let i : s / stride < rows = grind (arith, nat_tests) in
          let j : s % stride < columns = grind (arith, nat_tests) in
          let e : stride * (s / stride) + s % stride ≡ s = rw (mul_comm stride (s / stride)) (div-add-mod' s stride) in
          rw e at (each (s / stride) (s % stride) i j)

-- what is counted row by row, by row and column
counted_at : (stride rows columns : ℕ) (xs : List ℤ) (f : ℕ → ℤ) → ((k : ℕ) → k < rows * columns → grid stride xs (k / columns) (k % columns) ≡ f k) →
    (i j : ℕ) → i < rows → j < columns → grid stride xs i j ≡ f (i * columns + j)
counted_at stride rows columns xs f each i j p q =
    let l : i * columns + j < rows * columns = rw (mul_comm rows columns) (mul-add-lt i columns j rows p q) in
    rw (div-mul-add i columns j q, mod-mul-add i columns j q) at (each (i * columns + j) l)

same_row : (n len : ℕ) (xs ys : List ℤ) (f : ℕ → ℤ) → length xs ≡ len → length ys ≡ len → Blank 1 n 1 xs → Blank 1 n 1 ys → ((k : ℕ) → k < n → at xs k ≡ f k) → ((k : ℕ) → k < n → at ys k ≡ f k) → xs ≡ ys
same_row n len xs ys f long_x long_y blank_x blank_y x y =
    same_cells 1 n 1 len xs ys (omega arith) long_x long_y blank_x blank_y (λ i j p q. let e : 1 * i + j ≡ i = omega arith in rw e (x i p ∙ sym (y i p)))

same_grid : (stride rows columns len : ℕ) (xs ys : List ℤ) (f : ℕ → ℤ) → 0 < stride → length xs ≡ len → length ys ≡ len → Blank stride rows columns xs → Blank stride rows columns ys →
    ((k : ℕ) → k < rows * columns → grid stride xs (k / columns) (k % columns) ≡ f k) → ((k : ℕ) → k < rows * columns → grid stride ys (k / columns) (k % columns) ≡ f k) → xs ≡ ys
same_grid stride rows columns len xs ys f apart long_x long_y blank_x blank_y x y =
    same_cells stride rows columns len xs ys apart long_x long_y blank_x blank_y (λ i j p q. counted_at stride rows columns xs f x i j p q ∙ sym (counted_at stride rows columns ys f y i j p q))

same_number : (m n : ℕ) (z : ℤ) → z ≡ pos m → z ≡ pos n → m ≡ n
same_number m n z p q = omega (arith, ints)

one_plant : (n : ℕ) (bytes : List ℕ) (p q : Plant) → PlantOf n bytes p → PlantOf n bytes q → p ≡ q
one_plant n bytes p q x y =
    same_plant p q (same_number _ _ _ x.over y.over)
    (same_table _ _ _ _ (same_grid most_numbers n n _ _ _ (λ k. number bytes (3 + k)) (omega arith) p.a.sized q.a.sized x.blank.0 y.blank.0 x.a y.a))
    (same_table _ _ _ _ (same_row n _ _ _ (λ k. number bytes (b_at n + k)) p.b.sized q.b.sized x.blank.1 y.blank.1 x.b y.b))
    (same_table _ _ _ _ (same_row n _ _ _ (λ k. number bytes (off_at n + k)) p.off.sized q.off.sized x.blank.2 y.blank.2 x.off y.off))

one_law : (n : ℕ) (bytes : List ℕ) (p q : Law) → LawOf n bytes p → LawOf n bytes q → p ≡ q
one_law n bytes p q x y =
    same_law p q (same_number _ _ _ x.over_law y.over_law)
    (same_table _ _ _ _ (same_row n _ _ _ (λ k. number bytes (k_at n + k)) p.k.sized q.k.sized x.blank y.blank x.k y.k))

pub one_design : (bytes : List ℕ) (d e : Design) → Spells bytes (design_count d.n) (design_number d) → Spells bytes (design_count e.n) (design_number e) → d ≡ e
one_design bytes d e s t =
    let n : d.n ≡ e.n = same_number _ _ (number bytes 0) (s.each 0 (omega arith)) (t.each 0 (omega arith)) in
    let P : ℕ → Type 0 = λ m. PlantOf m bytes e.plant in
    let L : ℕ → Type 0 = λ m. LawOf m bytes e.law in
    let B : ℕ → Type 0 = λ m. Blank 1 m 1 e.noise.cells in
    let N : ℕ → Type 0 = λ m. (k : ℕ) → k < m → at e.noise.cells k ≡ number bytes (noise_at m + k) in
    same_design d e n (same_number _ _ (number bytes 1) (s.each 1 (omega arith)) (t.each 1 (omega arith)))
    (one_plant d.n bytes _ _ (plant_of bytes d s) (subst P (sym n) (plant_of bytes e t)))
    (one_law d.n bytes _ _ (law_of bytes d s) (subst L (sym n) (law_of bytes e t)))
    (same_table _ _ _ _ (same_row d.n _ _ _ (λ k. number bytes (noise_at d.n + k)) d.noise.sized e.noise.sized d.blank.4 (subst B (sym n) e.blank.4) (noise_of bytes d s) (subst N (sym n) (noise_of bytes e t))))

pub one_set : (bytes : List ℕ) (s t : Faces) → s.n ≡ t.n → Spells bytes (set_count s.n s.count) (set_number s) → Spells bytes (set_count t.n t.count) (set_number t) → s ≡ t
one_set bytes s t n x y =
    let c : s.count ≡ t.count = same_number _ _ (number bytes 0) (x.each 0 (omega arith)) (y.each 0 (omega arith)) in
    let rows : RowsOf s.n s.count bytes t.h.cells = rw (n, c) (rows_back bytes t y) in
    let tops : TopsOf s.n s.count bytes t.tops.cells = rw (n, c) (tops_back bytes t y) in
    let mine = rows_back bytes s x in
    let own = tops_back bytes s x in
    same_faces s t n c
    (same_table _ _ _ _ (same_cells most_numbers s.count s.n _ _ _ (omega arith) s.h.sized t.h.sized mine.blank rows.blank (λ f j p q. mine.each f j p q ∙ sym (rows.each f j p q))))
    (same_table _ _ _ _ (same_row s.count _ _ _ (λ f. number bytes (1 + s.n + f * (s.n + 1))) s.tops.sized t.tops.sized own.blank tops.blank own.each tops.each))

one_sheet : (bytes : List ℕ) (s t : Certificate) → s.n ≡ t.n → s.count ≡ t.count → Spells bytes (sheet_count s.n s.count) (sheet_number s) →
    Spells bytes (sheet_count t.n t.count) (sheet_number t) → s ≡ t
one_sheet bytes s t n c x y =
    let m : MultipliersOf 1 s.count s.count bytes t.m.cells = rw c (m_back bytes t y) in
    let w : MultipliersOf (w_at s.count) 2 s.count bytes t.w.cells = rw c (w_back bytes t y) in
    let v : MultipliersOf (v_at s.count) (2 * s.n) s.count bytes t.v.cells = rw (n, c) (v_back bytes t y) in
    same_certificate s t n c (same_number _ _ (number bytes 0) (x.each 0 (omega arith)) (y.each 0 (omega arith)))
    (same_table _ _ _ _ (one_table _ _ _ _ _ _ s.m.sized t.m.sized (m_back bytes s x) m))
    (same_table _ _ _ _ (one_table _ _ _ _ _ _ s.w.sized t.w.sized (w_back bytes s x) w))
    (same_table _ _ _ _ (one_table _ _ _ _ _ _ s.v.sized t.v.sized (v_back bytes s x) v))
  where
    one_table : (len base rows c : ℕ) (xs ys : List ℤ) → length xs ≡ len → length ys ≡ len → MultipliersOf base rows c bytes xs → MultipliersOf base rows c bytes ys → xs ≡ ys
    one_table len base rows c xs ys long_x long_y p q = same_grid most_faces rows c len xs ys (λ k. number bytes (base + k)) (omega arith) long_x long_y p.blank q.blank p.each q.each

pub one_claim : (design set sheet : List ℕ) (c d : Claim) → Holds design set sheet c → Holds design set sheet d → c ≡ d
one_claim design set sheet c d p q =
    let designs = one_design design c.design d.design p.of_design q.of_design in
    let n : c.design.n ≡ d.design.n = ap (λ (x : Design). x.n) designs in
    let sets = one_set set c.faces d.faces (c.agree.0 ∙ n ∙ sym d.agree.0) p.of_set q.of_set in
    let count : c.faces.count ≡ d.faces.count = ap (λ (x : Faces). x.count) sets in
    same_claim c d designs sets
    (one_sheet sheet c.certificate d.certificate (c.agree.1 ∙ n ∙ sym d.agree.1) (c.agree.2 ∙ count ∙ sym d.agree.2) p.of_sheet q.of_sheet)
