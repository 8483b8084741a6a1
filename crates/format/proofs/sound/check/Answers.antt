use Rattle.format.specs.declared.refusal.Document.TheVariants.{Design, Set, Sheet}
use Rattle.format.proofs.sound.check.Goals as goal

pub check_design-requires : goal.check_design-requires
check_design-requires c = c.in_ok-check_lengths.ensures Design

pub check_set-requires : goal.check_set-requires
check_set-requires c = rw c.in_ok-check_design.ensures.0 (c.in_ok-check_lengths.ensures Set)

pub check_sheet-requires : goal.check_sheet-requires
check_sheet-requires c =
    let set = c.in_ok-check_set.ensures in
    rw (set.0, set.1, c.in_ok-check_design.ensures.0) (c.in_ok-check_lengths.ensures Sheet)
