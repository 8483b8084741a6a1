use Rattle.std.proofs.Common.{rules}
use Rattle.format.specs.Sizes.{set_count}
use Rattle.format.proofs.beats.check_form.Goals as goal

pub returns-in_err-fits-2 : goal.returns-in_err-fits-2
returns-in_err-fits-2 c = search (rules, c.of-sizes.ensures set_count)

pub returns-in-Some : goal.returns-in-Some
returns-in-Some c = search (rules, c.of-sizes.ensures set_count)
