use Rattle.std.proofs.Common.{arith}
use borrow.Author.Differences.{ints}
use Rattle.voter.proofs.selection.middle_of.Goals as goal

pub returns : goal.returns
returns c = grind (arith, ints)
