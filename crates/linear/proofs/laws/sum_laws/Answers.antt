-- The laws, by their lemmas.
use Rattle.linear.proofs.SumLaws.{sum_plus, sum_times, sum_swap, sum_mono, sum_size}
use Rattle.linear.proofs.laws.sum_laws.Goals as goal

pub returns : goal.returns
returns c = record { plus = sum_plus; factor = sum_times; swapped = sum_swap; order = sum_mono; size = sum_size }
