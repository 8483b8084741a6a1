-- What each number of a document is, for the values that it holds.
use Rattle.std.specs.Prelude.{ℕ, ◌+◌, ◌-◌, ◌/◌, ◌%◌, cond, ℤ, pos, nat_lt}
use Rattle.linear.specs.Tables.{at, grid}
use Rattle.format.specs.Sizes.{most_numbers, most_faces, b_at, off_at, over_law_at, k_at, noise_at, w_at, v_at}
use Rattle.format.specs.declared.design.Design.{Design}
use Rattle.format.specs.declared.faces.Faces.{Faces}
use Rattle.format.specs.declared.certificate.Certificate.{Certificate}

-- from over_law on
abbrev pub law_number : Design → ℕ → ℤ
law_number d i =
    cond (nat_lt i (k_at d.n)) (pos d.law.over_law)
    (cond (nat_lt i (noise_at d.n)) (at d.law.k.cells (i - k_at d.n))
    (at d.noise.cells (i - noise_at d.n)))

abbrev pub design_number : Design → ℕ → ℤ
design_number d i =
    cond (nat_lt i 1) (pos d.n)
    (cond (nat_lt i 2) (pos d.limit)
    (cond (nat_lt i 3) (pos d.plant.over)
    (cond (nat_lt i (b_at d.n)) (grid most_numbers d.plant.a.cells ((i - 3) / d.n) ((i - 3) % d.n))
    (cond (nat_lt i (off_at d.n)) (at d.plant.b.cells (i - b_at d.n))
    (cond (nat_lt i (over_law_at d.n)) (at d.plant.off.cells (i - off_at d.n))
    (law_number d i))))))

-- after the count, n + 1 numbers for each face: its row and its top
abbrev pub set_number : Faces → ℕ → ℤ
set_number s i =
    cond (nat_lt i 1) (pos s.count)
    (cond (nat_lt ((i - 1) % (s.n + 1)) s.n) (grid most_numbers s.h.cells ((i - 1) / (s.n + 1)) ((i - 1) % (s.n + 1)))
    (at s.tops.cells ((i - 1) / (s.n + 1))))

abbrev pub sheet_number : Certificate → ℕ → ℤ
sheet_number t i =
    cond (nat_lt i 1) (pos t.scale)
    (cond (nat_lt i (w_at t.count)) (grid most_faces t.m.cells ((i - 1) / t.count) ((i - 1) % t.count))
    (cond (nat_lt i (v_at t.count)) (grid most_faces t.w.cells ((i - w_at t.count) / t.count) ((i - w_at t.count) % t.count))
    (grid most_faces t.v.cells ((i - v_at t.count) / t.count) ((i - v_at t.count) % t.count))))
