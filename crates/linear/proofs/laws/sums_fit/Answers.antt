-- Every number is small, by its lemma.
use Rattle.linear.proofs.Small.{all_small}
use Rattle.linear.proofs.laws.sums_fit.Goals as goal

pub returns : goal.returns
returns c = all_small
