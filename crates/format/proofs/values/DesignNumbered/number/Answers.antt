use Rattle.std.proofs.Common.{arith}
use Rattle.std.proofs.lemmas.Bool.Decides.{nat_tests}
use Rattle.format.proofs.values.DesignNumbered.number.Goals as goal

pub returns-in_default-4 : goal.returns-in_default-4
returns-in_default-4 c = grind (arith, nat_tests)
