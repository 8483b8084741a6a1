use Rattle.format.proofs.Sets.{tops_of}
use Rattle.format.proofs.sound.SoundSet.tops.Goals as goal

pub returns : goal.returns
returns c = tops_of _ _ _ c.args.self.now.known c.read_block.result.cells c.read_block.result.sized c.read_block.ensures
