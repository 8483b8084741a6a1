-- No number is outside, so each is cast as it is.
use Rattle.std.proofs.Common.{rules, ◌≡◌, ◌<◌, ◌≤◌, length, pos, nat_abs, arith, inl, inr, ext_get_or}
use borrow.Author.Tests.{tests}
use borrow.Author.Differences.{ints}
use Rattle.std.proofs.lemmas.Bool.{cases_lt}
use Rattle.std.proofs.lemmas.List.{get_or_past}
use Rattle.std.proofs.lemmas.Iterator.{IsFirst-from_position, YieldsList-from_slice}
use Rattle.linear.specs.Tables.{at, Within}
use Rattle.linear.proofs.Made.{made}
use Rattle.linear.proofs.table.Table.new.Given.{Over}
use Rattle.linear.proofs.table.Table.new.Goals as goal
use Rattle.linear.proofs.table.Table.new.Goals.{After-from_fn}

same : (g : Over) (c : After-from_fn g) → c.from_fn.result ≡ c.args.numbers
same g c =
    ext_get_or (pos 0) _ _ (omega (arith, c.from_fn.ensures.items.long))
    (λ k h. made (λ j y. y ≡ at c.args.numbers j) _ _ g.row.LEN c.from_fn.ensures.items (λ j y q l e. search rules) k (omega (arith, c.from_fn.ensures.items.long)) (pos 0))

small : (g : Over) (c : After-from_fn g) → Within g.row.BOUND c.args.numbers
small g c k =
    let none = rw c.in-None.is at (IsFirst-from_position _ _ c.position.result (λ x. g.row.BOUND < nat_abs x) (λ x. nat_abs x ≤ g.row.BOUND) c.position.ensures.ran (YieldsList-from_slice c.args.numbers c.iter.ensures.rest) (λ x q e. search (rules, tests)) (λ x q e. search (rules, tests))) in
    elim (cases_lt k (length c.args.numbers)) [
      | inl l ↦ none k (pos 0) (omega arith) l
      | inr l ↦ let past = get_or_past c.args.numbers k (pos 0) l in omega (arith, ints)
    ]

pub invariant_of-result : goal.invariant_of-result
invariant_of-result g c = record { sized = c.from_fn.ensures.items.long; within = rw (same g c) (small g c) }

pub returns-in-None : goal.returns-in-None
returns-in-None g c = same g (goal.at.returns-in-None g c).After-from_fn
