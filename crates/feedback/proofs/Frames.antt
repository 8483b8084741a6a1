-- The bytes of one beat, cut from a recording.
use Rattle.std.proofs.Common.{◌≡◌, ℕ, ◌+◌, ◌*◌, ◌<◌, min, Bool, true, false, cond, List, take, drop, nat_lt, refl, ap, ap₂, ◌∙◌, arith, to_z}
use Rattle.std.specs.Int.{w16}
use Rattle.std.proofs.lemmas.Bool.{ltb-true}
use Rattle.std.proofs.lemmas.List.{drop-drop, get_or-take}
use Rattle.linear.specs.Rows.{most_numbers}
use Rattle.voter.specs.Sizes.{sensors}
use Rattle.format.specs.Recordings.{frame, heard, reading}

-- two choices agree where each is taken
where_true : {A : Type 0} (b : Bool) (x y z : A) → (b ≡ true → x ≡ y) → cond b x z ≡ cond b y z
where_true true x y z same = same refl
where_true false x y z same = refl

reading_of_first : (count : ℕ) (bytes : List ℕ) (p : ℕ) → p + 1 < count → reading (take count bytes) p ≡ reading bytes p
reading_of_first count bytes p l =
    ap₂ (λ low high. to_z w16 (low + high * 256)) (get_or-take count bytes p 0 (omega arith)) (get_or-take count bytes (p + 1) 0 l)

-- a beat is heard from its own bytes alone
pub heard_of_frame : (n : ℕ) (bytes : List ℕ) (c i : ℕ) → heard n (take (frame n) bytes) c i ≡ heard n bytes c i
heard_of_frame n bytes c i =
    where_true (nat_lt c sensors) _ _ _
    (λ near. where_true (nat_lt i (min n most_numbers)) _ _ _
    (λ inside.
    reading_of_first (frame n) bytes _ (omega (arith, ltb-true c sensors near, ltb-true i (min n most_numbers) inside))))

-- the bytes after beat b
pub drop_beat : (n : ℕ) (bytes : List ℕ) (b : ℕ) → drop (frame n) (drop (frame n * b) bytes) ≡ drop (frame n * (b + 1)) bytes
drop_beat n bytes b = drop-drop (frame n) (frame n * b) bytes ∙ ap (λ k. drop k bytes) (omega arith)
