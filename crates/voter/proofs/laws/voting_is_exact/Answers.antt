use Rattle.voter.proofs.Outsides.{not_both, one_outside}
use Rattle.voter.proofs.Same.{one_note}
use Rattle.voter.proofs.Voting.{one_middle}
use Rattle.voter.proofs.laws.voting_is_exact.Goals as goal

pub returns : goal.returns
returns c = record { one_middle = one_middle; one_outside = one_outside; not_both = not_both; one_note = one_note }
