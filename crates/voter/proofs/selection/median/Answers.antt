use Rattle.std.proofs.Common.{rules}
use Rattle.voter.proofs.Voting.{mid_between}
use Rattle.voter.proofs.selection.median.Goals as goal

pub returns-clause-between : goal.returns-clause-between
returns-clause-between c = mid_between _ _ _ _ (search rules)
