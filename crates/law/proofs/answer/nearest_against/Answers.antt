-- The size rounds, and then the number of that size against the sign of s.
use borrow.Author.Differences.{ints}
use Rattle.std.proofs.Common.{arith}
use Rattle.law.proofs.Rounding.{near_rounds, size_near, signed_near}
use Rattle.law.proofs.answer.nearest_against.Goals as goal

pub returns : goal.returns
returns c =
    let size = size_near _ _ _ c.requires.1 c.nearest.ensures.down c.nearest.ensures.up c.nearest.ensures.even in
    let below = c.against.ensures.below in
    let above = c.against.ensures.above in
    near_rounds _ _ _ c.requires.1
    (signed_near _ _ _ _ _ size (omega (arith, ints)) (λ l. omega (arith, ints, below (omega (arith, ints)))) (λ l. omega (arith, ints, above (omega (arith, ints)))))
