-- Checks that are made one after another: what passes them all, and which refusal is that of the first that fails.
use Rattle.std.specs.Prelude.{◌≡◌, ◌⊎◌, Some, None, Ok, Err, Option, Result}

-- one thing that is checked: when it passes, and which refusals are right where it does not
pub record Check (E : Type 0) : Type 1 where
  pub passes : Type 0
  pub fails : E → Type 0

infixr 20 ◌next◌
-- the first check, and where that passes the second: the refusal is of the first that fails
abbrev pub ◌next◌ : {E : Type 0} → Check E → Check E → Check E
c next d = record { passes = c.passes × d.passes; fails = λ e. c.fails e ⊎ (c.passes × d.fails e) }

-- what is asked once a value is there, and nothing while it is not
abbrev pub once : {X E : Type 0} → Option X → (X → Check E) → Check E
once None c = record { passes = Unit {0}; fails = λ e. ⊥ }
once (Some x) c = c x

-- a result answers a check: where it passes, by a value of which P holds, and else by a refusal of it
abbrev pub Answers : {X E : Type 0} → Check E → (X → Type 0) → Result X E → Type 0
Answers c P (Ok x) = c.passes × P x
Answers c P (Err e) = c.fails e

-- the same where there is no value to speak of
abbrev pub Passed : {X E : Type 0} → Check E → Result X E → Type 0
Passed c (Ok x) = c.passes
Passed c (Err e) = c.fails e

-- a check has one outcome: what passes does not fail, and what fails does so in one way
pub record IsExact {E : Type 0} (c : Check E) : Type 0 where
  pub never : (e : E) → c.passes → c.fails e → ⊥
  pub same : (e f : E) → c.fails e → c.fails f → e ≡ f
