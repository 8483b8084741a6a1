-- A chain of checks has one outcome where each of them does.
use Rattle.std.proofs.Common.{◌≡◌, ◌⊎◌, Some, None, Ok, Err, Option, Result, ap, inl, inr}
use Rattle.format.specs.Checks.{Check, ◌next◌, once, Answers, IsExact}

pub next_exact : {E : Type 0} (c d : Check E) → IsExact c → IsExact d → IsExact (c next d)
next_exact {E} c d x y = record { never = never; same = same }
  where
    never : (e : E) → c.passes × d.passes → c.fails e ⊎ (c.passes × d.fails e) → ⊥
    never e p (inl f) = x.never e p.0 f
    never e p (inr f) = y.never e p.1 f.1

    same : (e f : E) → c.fails e ⊎ (c.passes × d.fails e) → c.fails f ⊎ (c.passes × d.fails f) → e ≡ f
    same e f (inl p) (inl q) = x.same e f p q
    same e f (inl p) (inr q) = absurd (x.never e q.0 p)
    same e f (inr p) (inl q) = absurd (x.never f p.0 q)
    same e f (inr p) (inr q) = y.same e f p.1 q.1

pub once_exact : {X E : Type 0} (o : Option X) (c : X → Check E) → ((x : X) → IsExact (c x)) → IsExact (once o c)
once_exact None c each = record { never = λ e p f. f; same = λ e f p q. absurd p }
once_exact (Some x) c each = each x

-- one result answers it, where P holds of one value
pub one_result : {X E : Type 0} (c : Check E) (P : X → Type 0) → IsExact c → ((x y : X) → P x → P y → x ≡ y) → (q r : Result X E) → Answers c P q → Answers c P r → q ≡ r
one_result c P x one (Ok a) (Ok b) p q = ap Ok (one a b p.1 q.1)
one_result c P x one (Ok a) (Err e) p q = absurd (x.never e p.0 q)
one_result c P x one (Err e) (Ok a) p q = absurd (x.never e q.0 p)
one_result c P x one (Err e) (Err f) p q = ap Err (x.same e f p q)
