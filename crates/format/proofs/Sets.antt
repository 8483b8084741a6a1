-- What the bytes of a set say of its parts.
use Rattle.std.proofs.Common.{◌≡◌, ℕ, ◌+◌, ◌-◌, ◌*◌, ◌/◌, ◌%◌, ◌<◌, List, length, ℤ, pos, negsuc, sym, ap, ◌∙◌, mod-lt, mul_comm, arith}
use borrow.Author.Differences.{ints}
use Rattle.std.proofs.lemmas.Nat.{div-add-mod', div_below, mod-mul-add, mul-add-lt}
use Rattle.std.proofs.lemmas.Bool.Decides.{nat_tests}
use Rattle.linear.specs.Tables.{at}
use Rattle.format.specs.Layouts.{set_range}
use Rattle.format.specs.Numbers.{number}
use Rattle.format.specs.Parts.{SetBytes, RowsOf, TopsOf}
use Rattle.format.specs.Ranges.{In, from_to}
use Rattle.format.specs.Sizes.{most_numbers, most_faces, set_count}
use Rattle.format.specs.Slots.{Each, Present, Small, slot}
use Rattle.format.specs.Spelling.{Spells}
use Rattle.format.specs.Values.{set_number}
use Rattle.format.specs.declared.block.Block.{Block}
use Rattle.format.specs.declared.faces.Faces.{Faces}
use Rattle.format.proofs.Chains.{part}
use Rattle.format.proofs.Tables.{slot_at, block_blank, block_above}

module _ (bytes : List ℕ) (n c : ℕ) (known : SetBytes n c bytes) where
  -- number f (n + 1) + j after the count is in the document
  inside : (f j : ℕ) → f < c → j < n + 1 → 1 + (f * (n + 1) + j) < set_count n c
  inside f j p q =
      let l = mul-add-lt f (n + 1) j c p q in
      let e = mul_comm (n + 1) c in
      omega arith

  in_range : (f j : ℕ) → f < c → j < n + 1 → In (set_range n (1 + (f * (n + 1) + j))) (number bytes (1 + (f * (n + 1) + j)))
  in_range f j p q = known.ranged _ (inside f j p q)

  row_range : (f j : ℕ) → j < n → set_range n (1 + (f * (n + 1) + j)) ≡ from_to (negsuc 99) (pos 100)
  row_range f j l =
      let m : (f * (n + 1) + j) % (n + 1) ≡ j = mod-mul-add f (n + 1) j (omega arith) in
      let s : 1 + (f * (n + 1) + j) - 1 ≡ f * (n + 1) + j = omega arith in
      rw (s, m) (grind (arith, nat_tests))

  top_range : (f : ℕ) → set_range n (1 + (f * (n + 1) + n)) ≡ from_to (pos 0) (pos 3000000)
  top_range f =
      let m : (f * (n + 1) + n) % (n + 1) ≡ n = mod-mul-add f (n + 1) n (omega arith) in
      let s : 1 + (f * (n + 1) + n) - 1 ≡ f * (n + 1) + n = omega arith in
      rw (s, m) (grind (arith, nat_tests))

  abbrev row_block : Block
  row_block = record { base = 1; rows = c; columns = n; pitch = n + 1; stride = most_numbers; apart = omega arith }

  abbrev top_block : Block
  top_block = record { base = 1 + n; rows = c; columns = 1; pitch = n + 1; stride = 1; apart = omega arith }

  same_place : (f j : ℕ) → 1 + (f * (n + 1) + j) ≡ 1 + f * (n + 1) + j
  same_place f j = omega arith

  same_top : (f j : ℕ) → j < 1 → 1 + (f * (n + 1) + n) ≡ 1 + n + f * (n + 1) + j
  same_top f j l = omega arith

  pub rows_there : Each row_block (Present bytes)
  rows_there f j p q = let l = inside f j p (omega arith) in omega (arith, known.whole)

  pub rows_small : Each row_block (Small 100 bytes)
  rows_small f j p q =
      let h : In (from_to (negsuc 99) (pos 100)) (number bytes (1 + (f * (n + 1) + j))) = rw (row_range f j q) at (in_range f j p (omega arith)) in
      rw (← same_place f j) (omega (arith, ints))

  top_in : (f j : ℕ) → f < c → j < 1 → In (from_to (pos 0) (pos 3000000)) (number bytes (1 + n + f * (n + 1) + j))
  top_in f j p q =
      let h : In (from_to (pos 0) (pos 3000000)) (number bytes (1 + (f * (n + 1) + n))) = rw (top_range f) at (in_range f n p (omega arith)) in
      rw (← same_top f j q) h

  pub rows_of : (xs : List ℤ) → length xs ≡ (most_faces * most_numbers) → ((s : ℕ) → s < (most_faces * most_numbers) → at xs s ≡ slot bytes row_block s) → RowsOf n c bytes xs
  rows_of xs long holds = record {
    each = λ f j p q. holds (most_numbers * f + j) (omega (arith, known.sized)) ∙ slot_at bytes row_block f j (omega (arith, known.sized)) p q;
    blank = block_blank bytes row_block (most_faces * most_numbers) xs long holds;
  }

  pub tops_of : (xs : List ℤ) → length xs ≡ most_faces → ((s : ℕ) → s < most_faces → at xs s ≡ slot bytes top_block s) → TopsOf n c bytes xs
  tops_of xs long holds = record {
    each = λ f p. ap (at xs) (omega arith) ∙ holds (1 * f + 0) (omega (arith, known.sized)) ∙ slot_at bytes top_block f 0 (omega arith) p (omega arith) ∙ ap (number bytes) (omega arith);
    blank = block_blank bytes top_block most_faces xs long holds;
    above = block_above bytes top_block most_faces xs long holds (λ f j p q. (top_in f j p q).0);
  }

-- a set whose parts have the numbers of the bytes has all of them
pub set_spells : (bytes : List ℕ) (s : Faces) → SetBytes s.n s.count bytes → RowsOf s.n s.count bytes s.h.cells → TopsOf s.n s.count bytes s.tops.cells →
    Spells bytes (set_count s.n s.count) (set_number s)
set_spells bytes s known rows tops = record { whole = known.whole; each = each }
  where
    n : ℕ
    n = s.n

    is : (i k : ℕ) → i ≡ k → number bytes i ≡ number bytes k
    is i k e = ap (number bytes) e

    each : (i : ℕ) → i < set_count s.n s.count → number bytes i ≡ set_number s i
    each i l =
        part i 1 _ _ (number bytes i) (λ q. is i 0 (omega arith) ∙ known.first) (λ p.
        let f = (i - 1) / (s.n + 1) in
        let j = (i - 1) % (s.n + 1) in
        let e : f * (s.n + 1) + j ≡ i - 1 = div-add-mod' (i - 1) (s.n + 1) in
        let m : j < s.n + 1 = mod-lt (i - 1) (omega arith) in
        let b : f < s.count = div_below (i - 1) (s.n + 1) s.count (omega arith) (omega arith) in
        part j s.n _ _ (number bytes i) (λ q. is i (1 + f * (s.n + 1) + j) (omega arith) ∙ sym (rows.each f j b q)) (λ q.
        is i (1 + s.n + f * (s.n + 1)) (omega arith) ∙ sym (tops.each f b)))
