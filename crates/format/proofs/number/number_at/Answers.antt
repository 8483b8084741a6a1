use Rattle.std.proofs.Common.{◌≡◌, ℕ, zero, suc, ◌+◌, ◌*◌, ◌/◌, ◌<◌, List, length, [], take, drop, get_or, ap, ◌∙◌, arith, w64, to_z, rules}
use Rattle.std.proofs.lemmas.Int.{to_z-of_z}
use Rattle.std.proofs.lemmas.List.{drop-drop, get_or-take, get_or-drop}
use Rattle.std.specs.Simd.{first_chunks}
use Rattle.format.specs.Numbers.{number, word}
use Rattle.format.proofs.number.number_at.Goals as goal

-- chunk i of n elements
chunk : (n k : ℕ) (xs : List ℕ) (i : ℕ) → i < k → get_or (first_chunks n k xs) i [] ≡ take n (drop (n * i) xs)
chunk n zero xs i l = absurd (omega arith)
chunk n (suc k) xs zero l = let e : 0 ≡ n * 0 = omega arith in ap (λ m. take n (drop m xs)) e
chunk n (suc k) xs (suc i) l = chunk n k (drop n xs) i (omega arith) ∙ (let e : n + n * i ≡ n * suc i = omega arith in ap (take n) (drop-drop (n * i) n xs ∙ ap (λ m. drop m xs) e))

-- its word
words : (k : ℕ) (xs : List ℕ) (i : ℕ) → i < k → word (get_or (first_chunks 8 k xs) i []) 0 ≡ word xs (8 * i)
words k xs i l =
    let byte : (j : ℕ) → j < 8 → get_or (take 8 (drop (8 * i) xs)) j 0 ≡ get_or xs (8 * i + j) 0 = λ j m. get_or-take 8 _ j 0 m ∙ get_or-drop (8 * i) xs j 0 in
    ap (λ ys. word ys 0) (chunk 8 k xs i l) ∙ grind (arith, byte 0 (omega arith), byte 1 (omega arith), byte 2 (omega arith), byte 3 (omega arith), byte 4 (omega arith), byte 5 (omega arith), byte 6 (omega arith), byte 7 (omega arith))

pub returns : goal.returns
unfolding number
returns c =
    let fits = to_z-of_z w64 c.from_le_bytes.result (search rules) in
    let same = words (length c.args.bytes.now / 8) c.args.bytes.now c.args.i (omega arith) in
    fits ∙ c.from_le_bytes.ensures ∙ ap (to_z w64) (rw c.as_chunks.ensures.front same)
