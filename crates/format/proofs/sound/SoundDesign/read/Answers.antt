use Rattle.format.proofs.Designs.{whole_design, design_spells}
use Rattle.format.proofs.sound.SoundDesign.read.Goals as goal

pub invariant_of-result : goal.invariant_of-result
invariant_of-result c =
    let noise = rw c.of.ensures.noise at c.read_row-noise.ensures in
    let d = whole_design _ _ _ _ _ c.read_row-noise.result c.args.self.now.known c.natural_at-limit.ensures c.plant-plant.ensures c.law-law.ensures
    (record { each = noise.each; blank = noise.blank; above = noise.above }) in
    record { sized = d.sized; limited = d.limited; halved = d.halved; quiet = d.quiet; blank = d.blank }

pub returns-clause-spells : goal.returns-clause-spells
returns-clause-spells c =
    let noise = rw c.of.ensures.noise at c.read_row-noise.ensures in
    design_spells _ _ _ _ _ c.read_row-noise.result c.args.self.now.known c.natural_at-limit.ensures c.plant-plant.ensures c.law-law.ensures
    (record { each = noise.each; blank = noise.blank; above = noise.above })
