-- Each turn adds one product of two numbers.
use Rattle.std.proofs.Common.{◌≡◌, ℕ, ◌*◌, ℤ, ◌*ℤ◌, ◌≤◌, to_z, of_z, w64, refl, ap, ◌∙◌, arith}
use borrow.Author.Differences.{ints}
use lib.IntN.{zero-*ℤ}
use Rattle.linear.specs.Vectors.{sum}
use Rattle.linear.proofs.Products.{Turn, term_fits, step, step_fits, whole}
use Rattle.linear.proofs.Ring.{product_within}
use Rattle.linear.proofs.sums.dot.Given.{Over}
use Rattle.linear.proofs.sums.dot.Goals as goal
use Rattle.linear.proofs.sums.dot.Goals.{After-at-in-loop-k}

pub loop-k-init : goal.loop-k-init
unfolding sum
loop-k-init g c = (refl, omega arith)

turn : (g : Over) (c : After-at-in-loop-k g) →
    Turn c.args.n g.X.Ending.end c.loop-k.k (g.X.Line.size * g.Y.Line.size) (λ k. g.X.Line.entries c.args.x.now k *ℤ g.Y.Line.entries c.args.y.now k)
    (to_z w64 (of_z w64 c.at.result) *ℤ to_z w64 (of_z w64 c.at-in-loop-k.result))
turn g c =
    let k = c.loop-k.k in
    let a = g.X.Line.entries c.args.x.now k in
    let b = g.Y.Line.entries c.args.y.now k in
    let left : to_z w64 (of_z w64 c.at.result) ≡ a = omega (arith, ints) in
    let here : c.at-in-loop-k.result ≡ b = c.at-in-loop-k.ensures ∙ ap (g.Y.Line.entries c.args.y.now) (omega arith) in
    let right : to_z w64 (of_z w64 c.at-in-loop-k.result) ≡ b = omega (arith, ints, here) in
    record {
      more = omega arith;
      room = c.requires;
      term = cc;
      within = product_within a b _ _ (g.met.X.Line.within c.args.x.now k) (g.met.Y.Line.within c.args.y.now k);
    }

pub overflow_mul-total : goal.overflow_mul-total
overflow_mul-total g c = term_fits _ _ _ _ _ _ (turn g c)

pub overflow_add-total : goal.overflow_add-total
overflow_add-total g c = step_fits _ _ _ _ _ _ _ c.loop-k.invariant (turn g c)

pub loop-k-preserved : goal.loop-k-preserved
loop-k-preserved g c = step _ _ _ _ _ _ _ c.loop-k.invariant (turn g c)

pub returns : goal.returns
returns g c =
    let f = g.X.Line.entries c.args.x.now in
    let h = g.Y.Line.entries c.args.y.now in
    let none = λ (i : ℕ) (l : g.X.Ending.end ≤ i). ap (λ (u : ℤ). u *ℤ h i) (g.met.X.Ending.ends c.args.x.now i l) ∙ zero-*ℤ (h i) in
    let all = whole c.args.n g.X.Ending.end c.loop-k.k (g.X.Line.size * g.Y.Line.size) (λ i. f i *ℤ h i) _ (omega arith) none c.loop-k.invariant in
    record { value = all.0; bound = all.1; cut = all.2 }
