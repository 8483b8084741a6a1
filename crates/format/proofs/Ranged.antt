-- The numbers of a value are in their ranges, by its type.
use Rattle.std.proofs.Common.{ℕ, ◌+◌, ◌-◌, ◌/◌, ◌<◌, ◌≤◌, ltb, ℤ, pos, negsuc, nat_abs, ◌≤ℤ◌, arith}
use borrow.Author.Differences.{ints}
use Rattle.linear.specs.Tables.{at}
use Rattle.format.specs.Layouts.{design_range, set_range, sheet_range}
use Rattle.format.specs.Ranges.{In, from_to}
use Rattle.format.specs.Sizes.{most_numbers, most_faces, b_at, off_at, over_law_at, k_at, noise_at, w_at, v_at, design_count}
use Rattle.format.specs.Values.{design_number, set_number, sheet_number}
use Rattle.format.specs.declared.certificate.Certificate.{Certificate}
use Rattle.format.specs.declared.design.Design.{Design}
use Rattle.format.specs.declared.faces.Faces.{Faces}
use Rattle.format.proofs.Chains.{in_part, in_parts, in_either}

size_in : (x : ℤ) → nat_abs x ≤ 2000 → In (from_to (negsuc 1999) (pos 2000)) x
size_in x h = (omega (arith, ints), omega (arith, ints))

above_in : (x : ℤ) (b : ℕ) → pos 0 ≤ℤ x → nat_abs x ≤ b → In (from_to (pos 0) (pos b)) x
above_in x b p h = (p, omega (arith, ints))

natural_in : (x a b : ℕ) → (a ≤ x) × (x ≤ b) → In (from_to (pos a) (pos b)) (pos x)
natural_in x a b h = (omega (arith, ints), omega (arith, ints))

pub design_ranged : (d : Design) (i : ℕ) → i < design_count d.n → In (design_range d.n (pos d.plant.over) i) (design_number d i)
design_ranged d i l =
    in_part In i 1 _ _ _ _ (λ q. natural_in d.n 1 most_numbers d.sized) (λ p.
    in_part In i 2 _ _ _ _ (λ q. natural_in d.limit 1 30000 d.limited) (λ p.
    in_part In i 3 _ _ _ _ (λ q. natural_in d.plant.over 1 1000 d.plant.ranged) (λ p.
    in_parts In i (b_at d.n) (off_at d.n) _ _ _ _ _ (omega arith) (λ q. size_in _ (d.plant.a.within _)) (λ p q. size_in _ (d.plant.b.within _)) (λ p.
    in_part In i (over_law_at d.n) _ _ _ _ (λ q. off_in (i - off_at d.n) (omega arith)) (λ p.
    in_part In i (k_at d.n) _ _ _ _ (λ q. natural_in d.law.over_law 1 1000 d.law.ranged) (λ p.
    in_part In i (noise_at d.n) _ _ _ _ (λ q. size_in _ (d.law.k.within _)) (λ p.
    above_in _ 1000 (d.quiet _) (d.noise.within _))))))))
  where
    off_in : (k : ℕ) → k < d.n → In (from_to (pos ((nat_abs (pos d.plant.over) + 1) / 2)) (pos 1000000)) (at d.plant.off.cells k)
    off_in k q =
        let half = d.halved k q in
        let most = d.plant.off.within k in
        (omega (arith, ints), omega (arith, ints))

pub set_ranged : (s : Faces) (i : ℕ) → In (set_range s.n i) (set_number s i)
set_ranged s i =
    in_part In i 1 _ _ _ _ (λ q. natural_in s.count 1 most_faces (s.sized.2, s.sized.3)) (λ p.
    in_part In _ s.n _ _ _ _ (λ q. row_in _ (s.h.within _)) (λ q. above_in _ 3000000 (s.above _) (s.tops.within _)))
  where
    row_in : (x : ℤ) → nat_abs x ≤ 100 → In (from_to (negsuc 99) (pos 100)) x
    row_in x h = (omega (arith, ints), omega (arith, ints))

pub sheet_ranged : (t : Certificate) (i : ℕ) → In (sheet_range i) (sheet_number t i)
sheet_ranged t i =
    in_part In i 1 _ _ _ _ (λ q. natural_in t.scale 1 100 t.scaled) (λ p.
    in_either Share (ltb i (w_at t.count)) _ _ (above_in _ 500000000 (t.above _).0 (t.m.within _)) (
    in_either Share (ltb i (v_at t.count)) _ _ (above_in _ 500000000 (t.above _).1 (t.w.within _)) (above_in _ 500000000 (t.above _).2 (t.v.within _))))
  where
    Share : ℤ → Type 0
    Share = In (from_to (pos 0) (pos 500000000))
