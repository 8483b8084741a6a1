-- The sum of sizes is the dot product of the lines of sizes.
use Rattle.std.proofs.Common.{◌≡◌, ◌∙◌, sym, arith, to_z, of_z, w64}
use borrow.Author.Differences.{ints}
use Rattle.linear.proofs.SumLaws.{sizes_sum}
use Rattle.linear.proofs.sums.spread.Goals as goal

pub returns-clause-value : goal.returns-clause-value
returns-clause-value g c =
    let same : to_z w64 (of_z w64 c.dot.result) ≡ c.dot.result = omega (arith, ints) in
    let value = rw (c.sizes.ensures, c.sizes-2.ensures) at c.dot.ensures.value in
    same ∙ value ∙ sym (sizes_sum c.args.n _)
