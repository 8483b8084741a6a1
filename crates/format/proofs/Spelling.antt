-- Numbers as eight bytes each, written one after another.
use Rattle.std.proofs.Common.{◌≡◌, ℕ, zero, suc, ◌+◌, ◌*◌, ◌/◌, ◌%◌, ◌^◌, ◌<◌, ◌≤◌, List, [], ◌∷◌, ◌++◌, length, get_or, ℤ, sym, refl, ap, ◌∙◌, arith, length-append, w64, SFits, to_z, of_z, below_more}
use borrow.Author.Differences.{ints}
use Rattle.std.proofs.lemmas.List.{get_or_append_left, get_or-append_right, ext_get_or}
use Rattle.std.proofs.lemmas.Int.{to_z-of_z, of_z-to_z}
use Rattle.format.specs.Numbers.{number, word}
use Rattle.format.specs.Spelling.{Spells, Bytes}

abbrev pub bytes_of : ℕ → List ℕ
bytes_of x =
    (x % 256)
    ∷ (x / 256 % 256)
    ∷ (x / 65536 % 256)
    ∷ (x / 16777216 % 256)
    ∷ (x / 4294967296 % 256)
    ∷ (x / 1099511627776 % 256)
    ∷ (x / 281474976710656 % 256)
    ∷ (x / 72057594037927936 % 256)
    ∷ []

pub word_of : (x : ℕ) → x < 2 ^ 64 → word (bytes_of x) 0 ≡ x
word_of x h = omega arith

pub none : (f : ℕ → ℤ) → Spells [] 0 f
none f = record { whole = refl; each = λ i l. absurd (omega arith) }

-- a word that lies in the first part, and one at the start of the second
word_left : (xs ys : List ℕ) (p : ℕ) → p + 8 ≤ length xs → word (xs ++ ys) p ≡ word xs p
word_left xs ys p h =
    let at : (c : ℕ) → c < 8 → get_or (xs ++ ys) (p + c) 0 ≡ get_or xs (p + c) 0 = λ c l. get_or_append_left xs ys 0 (p + c) (omega arith) in
    let first : get_or (xs ++ ys) p 0 ≡ get_or xs p 0 = get_or_append_left xs ys 0 p (omega arith) in
    simp (first, at 1 (omega arith), at 2 (omega arith), at 3 (omega arith), at 4 (omega arith), at 5 (omega arith), at 6 (omega arith), at 7 (omega arith))

word_right : (xs ys : List ℕ) (p : ℕ) → length xs ≡ p → word (xs ++ ys) p ≡ word ys 0
word_right xs ys p h =
    let at : (c : ℕ) → get_or (xs ++ ys) (p + c) 0 ≡ get_or ys c 0 = λ c. get_or-append_right xs ys p (p + c) 0 h (omega arith) ∙ ap (λ k. get_or ys k 0) (omega arith) in
    let first : get_or (xs ++ ys) p 0 ≡ get_or ys 0 0 = get_or-append_right xs ys p p 0 h (omega arith) ∙ ap (λ k. get_or ys k 0) (omega arith) in
    simp (first, at 1, at 2, at 3, at 4, at 5, at 6, at 7)

pub spells_more : (xs : List ℕ) (i : ℕ) (f : ℕ → ℤ) (z : ℤ) → Spells xs i f → SFits w64 z → z ≡ f i → Spells (xs ++ bytes_of (of_z w64 z)) (i + 1) f
unfolding number
spells_more xs i f z s fits e = record {
  whole = length-append xs (bytes_of (of_z w64 z)) ∙ (omega (arith, s.whole));
  each = below_more _ _
      (λ k l. ap (to_z w64) (word_left xs _ (8 * k) (omega (arith, s.whole))) ∙ s.each k l)
      (ap (to_z w64) (word_right xs _ (8 * i) s.whole ∙ word_of (of_z w64 z) (omega (arith, ints))) ∙ to_z-of_z w64 z fits ∙ e);
}

-- what holds of each of eight bytes
each_byte : (P : ℕ → Type 0) → P 0 → P 1 → P 2 → P 3 → P 4 → P 5 → P 6 → P 7 → (c : ℕ) → c < 8 → P c
each_byte P a b c d e f g h zero l = a
each_byte P a b c d e f g h (suc zero) l = b
each_byte P a b c d e f g h (suc (suc zero)) l = c
each_byte P a b c d e f g h (suc (suc (suc zero))) l = d
each_byte P a b c d e f g h (suc (suc (suc (suc zero)))) l = e
each_byte P a b c d e f g h (suc (suc (suc (suc (suc zero))))) l = f
each_byte P a b c d e f g h (suc (suc (suc (suc (suc (suc zero)))))) l = g
each_byte P a b c d e f g h (suc (suc (suc (suc (suc (suc (suc zero))))))) l = h
each_byte P a b c d e f g h (suc (suc (suc (suc (suc (suc (suc (suc n)))))))) l = absurd (omega arith)

-- a word says what each of its bytes is
module _ (xs : List ℕ) (p : ℕ) (small : Bytes xs) where
  -- the word's bytes are bytes, in one row for `omega`
  eight : (get_or xs p 0 < 256) × (get_or xs (p + 1) 0 < 256) × (get_or xs (p + 2) 0 < 256) × (get_or xs (p + 3) 0 < 256) × (get_or xs (p + 4) 0 < 256) × (get_or xs (p + 5) 0 < 256)
      × (get_or xs (p + 6) 0 < 256) × (get_or xs (p + 7) 0 < 256)
  eight = (small p, small (p + 1), small (p + 2), small (p + 3), small (p + 4), small (p + 5), small (p + 6), small (p + 7))

  byte_is : (c : ℕ) → c < 8 → get_or xs (p + c) 0 ≡ word xs p / 256 ^ c % 256
  byte_is =
      let bytes = eight in
      let first : p + 0 ≡ p = omega arith in
      each_byte (λ c. get_or xs (p + c) 0 ≡ word xs p / 256 ^ c % 256)
      (rw first (omega arith)) (omega arith) (omega arith) (omega arith) (omega arith) (omega arith) (omega arith) (omega arith)

  word_small : word xs p < 2 ^ 64
  word_small = let bytes = eight in omega arith

-- numbers say what their bytes are
pub one_spelling : (xs ys : List ℕ) (count : ℕ) (f : ℕ → ℤ) → Bytes xs → Bytes ys → Spells xs count f → Spells ys count f → xs ≡ ys
unfolding number
one_spelling xs ys count f small_x small_y x y = ext_get_or 0 xs ys (x.whole ∙ sym y.whole) same
  where
    same_word : (k : ℕ) → k < count → word xs (8 * k) ≡ word ys (8 * k)
    same_word k l =
        sym (of_z-to_z w64 (word xs (8 * k)) (word_small xs (8 * k) small_x))
        ∙ ap (of_z w64) (x.each k l ∙ sym (y.each k l))
        ∙ of_z-to_z w64 (word ys (8 * k)) (word_small ys (8 * k) small_y)

    same : (i : ℕ) → i < length xs → get_or xs i 0 ≡ get_or ys i 0
    same i l =
        let k : i / 8 < count = omega (arith, x.whole) in
        let c : i % 8 < 8 = omega arith in
        let e : 8 * (i / 8) + i % 8 ≡ i = omega arith in
        rw e at (byte_is xs (8 * (i / 8)) small_x (i % 8) c ∙ ap (λ w. w / 256 ^ (i % 8) % 256) (same_word (i / 8) k) ∙ sym (byte_is ys (8 * (i / 8)) small_y (i % 8) c))
