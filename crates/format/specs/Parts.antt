-- Documents whose sizes are known, and what the parts of a value have of their bytes.
use Rattle.std.specs.Prelude.{◌≡◌, ℕ, ◌+◌, ◌*◌, ◌/◌, ◌%◌, ◌<◌, ◌≤◌, List, length, ℤ, pos, ◌≤ℤ◌}
use Rattle.linear.specs.Tables.{at, grid}
use Rattle.format.specs.Blocks.{Blank}
use Rattle.format.specs.Layouts.{design_range, set_range, sheet_range}
use Rattle.format.specs.Numbers.{number}
use Rattle.format.specs.Ranges.{AllIn}
use Rattle.format.specs.Sizes.{most_numbers, most_faces, b_at, off_at, over_law_at, k_at, noise_at, w_at, v_at, design_count, set_count, sheet_count}
use Rattle.format.specs.declared.claim.Claim.{Claim}
use Rattle.law.specs.declared.gain.Law.{Law}
use Rattle.format.specs.declared.design.Plant.{Plant}

-- bytes of a design of size n: as many as that needs, and each number in its range
pub record DesignBytes (n : ℕ) (bytes : List ℕ) : Type 0 where
  pub sized : (1 ≤ n) × (n ≤ most_numbers)
  pub first : number bytes 0 ≡ pos n
  pub whole : length bytes ≡ 8 * design_count n
  pub ranged : AllIn (design_range n (number bytes 2)) bytes (design_count n)

-- the same of a set of c faces
pub record SetBytes (n c : ℕ) (bytes : List ℕ) : Type 0 where
  pub sized : (1 ≤ n) × (n ≤ most_numbers) × (1 ≤ c) × (c ≤ most_faces)
  pub first : number bytes 0 ≡ pos c
  pub whole : length bytes ≡ 8 * set_count n c
  pub ranged : AllIn (set_range n) bytes (set_count n c)

-- the same of a sheet for such a set
pub record SheetBytes (n c : ℕ) (bytes : List ℕ) : Type 0 where
  pub sized : (1 ≤ n) × (n ≤ most_numbers) × (1 ≤ c) × (c ≤ most_faces)
  pub whole : length bytes ≡ 8 * sheet_count n c
  pub ranged : AllIn sheet_range bytes (sheet_count n c)

-- the plant has its numbers of the design's bytes, and 0 past its size; and so for the other parts
pub record PlantOf (n : ℕ) (bytes : List ℕ) (p : Plant) : Type 0 where
  pub over : number bytes 2 ≡ pos p.over
  pub a : (k : ℕ) → k < n * n → grid most_numbers p.a.cells (k / n) (k % n) ≡ number bytes (3 + k)
  pub b : (k : ℕ) → k < n → at p.b.cells k ≡ number bytes (b_at n + k)
  pub off : (k : ℕ) → k < n → at p.off.cells k ≡ number bytes (off_at n + k)
  pub blank : Blank most_numbers n n p.a.cells × Blank 1 n 1 p.b.cells × Blank 1 n 1 p.off.cells

pub record LawOf (n : ℕ) (bytes : List ℕ) (l : Law) : Type 0 where
  pub over_law : number bytes (over_law_at n) ≡ pos l.over_law
  pub k : (k : ℕ) → k < n → at l.k.cells k ≡ number bytes (k_at n + k)
  pub blank : Blank 1 n 1 l.k.cells

pub record RowsOf (n c : ℕ) (bytes : List ℕ) (xs : List ℤ) : Type 0 where
  pub each : (f j : ℕ) → f < c → j < n → grid most_numbers xs f j ≡ number bytes (1 + f * (n + 1) + j)
  pub blank : Blank most_numbers c n xs

pub record TopsOf (n c : ℕ) (bytes : List ℕ) (xs : List ℤ) : Type 0 where
  pub each : (f : ℕ) → f < c → at xs f ≡ number bytes (1 + n + f * (n + 1))
  pub blank : Blank 1 c 1 xs
  pub above : (f : ℕ) → pos 0 ≤ℤ at xs f

pub record MultipliersOf (base rows c : ℕ) (bytes : List ℕ) (xs : List ℤ) : Type 0 where
  pub each : (k : ℕ) → k < rows * c → grid most_faces xs (k / c) (k % c) ≡ number bytes (base + k)
  pub blank : Blank most_faces rows c xs
  pub above : (s : ℕ) → pos 0 ≤ℤ at xs s

-- each part of the claim has its numbers of the bytes
pub record Placed (design set sheet : List ℕ) (c : Claim) : Type 0 where
  pub n : number design 0 ≡ pos c.design.n
  pub limit : number design 1 ≡ pos c.design.limit
  pub plant : PlantOf c.design.n design c.design.plant
  pub law : LawOf c.design.n design c.design.law
  pub noise : (k : ℕ) → k < c.design.n → at c.design.noise.cells k ≡ number design (noise_at c.design.n + k)
  pub count : number set 0 ≡ pos c.faces.count
  pub rows : RowsOf c.faces.n c.faces.count set c.faces.h.cells
  pub tops : TopsOf c.faces.n c.faces.count set c.faces.tops.cells
  pub scale : number sheet 0 ≡ pos c.certificate.scale
  pub m : MultipliersOf 1 c.faces.count c.faces.count sheet c.certificate.m.cells
  pub w : MultipliersOf (w_at c.faces.count) 2 c.faces.count sheet c.certificate.w.cells
  pub v : MultipliersOf (v_at c.faces.count) (2 * c.design.n) c.faces.count sheet c.certificate.v.cells
