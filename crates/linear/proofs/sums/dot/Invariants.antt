-- The total of the first k products.
use Rattle.std.proofs.Common.{◌*◌, ◌*ℤ◌}
use Rattle.linear.proofs.Products.{Total}
use Rattle.linear.proofs.sums.dot.Given as goal

abbrev pub invariant-loop-k : goal.invariant-loop-k
invariant-loop-k g l =
    Total l.k (g.X.Line.size * g.Y.Line.size) (λ k. g.X.Line.entries l.x k *ℤ g.Y.Line.entries l.y k) l.total
