use Rattle.std.proofs.Common.{ℕ, ◌*◌, ◌<◌, ◌≤◌, List, Some, None, Option, MatchOption, refl, arith, rules}
use borrow.Author.Tests.{tests}
use Rattle.std.proofs.lemmas.Iterator.{first_from_Range}
use Rattle.format.specs.Numbers.{number}
use Rattle.format.specs.Ranges.{In, AllIn, Out}
use Rattle.format.specs.Refusals.{FirstOut}
use Rattle.format.specs.declared.layout.Range.{Range}
use Rattle.format.proofs.layout.first_out.Goals as goal

found : (ranges : ℕ → Range) (bytes : List ℕ) (count : ℕ) (r : Option ℕ) →
    MatchOption r ((k : ℕ) → 0 ≤ k → k < count → In (ranges k) (number bytes k)) (λ i. (0 ≤ i) × (i < count) × Out ranges bytes i × ((k : ℕ) → 0 ≤ k → k < i → In (ranges k) (number bytes k))) →
    MatchOption r (AllIn ranges bytes count) (λ k. FirstOut ranges bytes count (8 * k))
found ranges bytes count None h = λ i l. h i (omega arith) l
found ranges bytes count (Some k) h = record { k = k; under = h.1; before = λ i l. h.3 i (omega arith) l; out = h.2; here = refl }

pub returns : goal.returns
returns g c =
    let ranges : ℕ → Range = g.L.Layout.ranges c.args.layout.now in
    let bytes = c.args.bytes.now in
    rw c.count.ensures at (found ranges bytes c.count.result c.find.result
    (first_from_Range _ _ _ _ (Out ranges bytes) (λ k. In (ranges k) (number bytes k)) c.find.ensures.ran (λ x q k. search (rules, tests)) (λ x q k. search (rules, tests))))
