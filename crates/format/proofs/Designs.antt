-- What the bytes of a design say of its parts.
use Rattle.std.proofs.Common.{◌≡◌, ℕ, ◌+◌, ◌-◌, ◌/◌, ◌<◌, ◌≤◌, List, ℤ, pos, ◌*ℤ◌, nat_abs, ◌≤ℤ◌, sym, ap, ◌∙◌, arith}
use borrow.Author.Differences.{ints}
use Rattle.std.proofs.lemmas.Bool.Decides.{nat_tests}
use Rattle.linear.specs.Tables.{at}
use Rattle.linear.specs.declared.table.Table.{Table}
use Rattle.format.specs.Blocks.{Blank}
use Rattle.format.specs.Layouts.{design_range}
use Rattle.format.specs.Numbers.{number}
use Rattle.format.specs.Parts.{DesignBytes, PlantOf, LawOf}
use Rattle.format.specs.Ranges.{In, from_to}
use Rattle.format.specs.Sizes.{most_numbers, b_at, off_at, over_law_at, k_at, noise_at, design_count}
use Rattle.format.specs.Spelling.{Spells}
use Rattle.format.specs.Values.{law_number, design_number}
use Rattle.format.specs.declared.design.Design.{Design}
use Rattle.law.specs.declared.gain.Law.{Law}
use Rattle.format.specs.declared.design.Plant.{Plant}
use Rattle.format.proofs.Chains.{part, from_base}

off_range : (n : ℕ) (over : ℤ) (k : ℕ) → k < n → design_range n over (off_at n + k) ≡ from_to (pos ((nat_abs over + 1) / 2)) (pos 1000000)
off_range n over k l = grind (arith, nat_tests)

pub halved : (bytes : List ℕ) (n : ℕ) (p : Plant) → DesignBytes n bytes → PlantOf n bytes p → (i : ℕ) → i < n → pos p.over ≤ℤ (pos 2 *ℤ at p.off.cells i)
halved bytes n p d o i l =
    let x = number bytes (off_at n + i) in
    let in_range : In (from_to (pos ((nat_abs (number bytes 2) + 1) / 2)) (pos 1000000)) x =
    rw (off_range n (number bytes 2) i l) at (d.ranged (off_at n + i) (omega arith)) in
    let e : at p.off.cells i ≡ x = o.off i l in
    rw e (omega (arith, ints, o.over))

noise_range : (n : ℕ) (over : ℤ) (k : ℕ) → design_range n over (noise_at n + k) ≡ from_to (pos 0) (pos 1000)
noise_range n over k = grind (arith, nat_tests)

pub quiet : (bytes : List ℕ) (n : ℕ) → DesignBytes n bytes → (k : ℕ) → k < n → pos 0 ≤ℤ number bytes (noise_at n + k)
quiet bytes n d k l =
    let in_range : In (from_to (pos 0) (pos 1000)) (number bytes (noise_at n + k)) =
    rw (noise_range n (number bytes 2) k) at (d.ranged (noise_at n + k) (omega arith)) in
    in_range.0

-- the noise has the numbers of the design's bytes, and 0 past them
pub record NoiseOf (n : ℕ) (bytes : List ℕ) (xs : List ℤ) : Type 0 where
  pub each : (k : ℕ) → k < n → at xs k ≡ number bytes (noise_at n + k)
  pub blank : Blank 1 n 1 xs
  pub above : ((k : ℕ) → k < n → pos 0 ≤ℤ number bytes (noise_at n + k)) → (s : ℕ) → pos 0 ≤ℤ at xs s

module _ (bytes : List ℕ) (n limit : ℕ) (plant : Plant) (law : Law) (noise : Table most_numbers 1000) (known : DesignBytes n bytes) (limit_is : number bytes 1 ≡ pos limit) (plant_is : PlantOf n bytes plant) (law_is : LawOf n bytes law) (noise_is : NoiseOf n bytes noise.cells) where
  -- the design of these parts
  abbrev pub whole_design : Design
  whole_design = record {
    n = n;
    limit = limit;
    plant = plant;
    law = law;
    noise = noise;
    sized = known.sized;
    limited = limited;
    halved = halved bytes n plant known plant_is;
    quiet = noise_is.above (quiet bytes n known);
    blank = (plant_is.blank.0, plant_is.blank.1, plant_is.blank.2, law_is.blank, noise_is.blank);
  }
    where
      limited : (1 ≤ limit) × (limit ≤ 30000)
      limited = let range = known.ranged 1 (omega arith) in (omega (arith, ints), omega (arith, ints))

  -- number i, where that is number k
  is : (i k : ℕ) → i ≡ k → number bytes i ≡ number bytes k
  is i k e = ap (number bytes) e

  -- from over_law on
  law_each : (i : ℕ) → over_law_at n ≤ i → i < design_count n → number bytes i ≡ law_number whole_design i
  law_each i p l =
      part i (k_at n) _ _ (number bytes i) (λ q. is i (over_law_at n) (omega arith) ∙ law_is.over_law) (λ p.
      part i (noise_at n) _ _ (number bytes i) (λ q. from_base (number bytes) i (k_at n) p ∙ sym (law_is.k (i - k_at n) (omega arith))) (λ p.
      from_base (number bytes) i (noise_at n) p ∙ sym (noise_is.each (i - noise_at n) (omega arith))))

  each : (i : ℕ) → i < design_count n → number bytes i ≡ design_number whole_design i
  each i l =
      part i 1 _ _ (number bytes i) (λ q. is i 0 (omega arith) ∙ known.first) (λ p.
      part i 2 _ _ (number bytes i) (λ q. is i 1 (omega arith) ∙ limit_is) (λ p.
      part i 3 _ _ (number bytes i) (λ q. is i 2 (omega arith) ∙ plant_is.over) (λ p.
      part i (b_at n) _ _ (number bytes i) (λ q. from_base (number bytes) i 3 p ∙ sym (plant_is.a (i - 3) (omega arith))) (λ p.
      part i (off_at n) _ _ (number bytes i) (λ q. from_base (number bytes) i (b_at n) p ∙ sym (plant_is.b (i - b_at n) (omega arith))) (λ p.
      part i (over_law_at n) _ _ (number bytes i) (λ q. from_base (number bytes) i (off_at n) p ∙ sym (plant_is.off (i - off_at n) (omega arith))) (λ p.
      law_each i p l))))))

  -- it has all the numbers of the bytes
  pub design_spells : Spells bytes (design_count n) (design_number whole_design)
  design_spells = record { whole = known.whole; each = each }
