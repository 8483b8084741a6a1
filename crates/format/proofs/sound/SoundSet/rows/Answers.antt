use Rattle.std.proofs.Common.{rules}
use Rattle.format.proofs.Sets.{rows_there, rows_small, rows_of}
use Rattle.format.proofs.sound.SoundSet.rows.Goals as goal

pub read_block-requires : goal.read_block-requires
read_block-requires c = (search rules, (search rules, (rows_there _ _ _ c.args.self.now.known, rows_small _ _ _ c.args.self.now.known)))

pub returns : goal.returns
returns c = rows_of _ _ _ c.args.self.now.known c.read_block.result.cells c.read_block.result.sized c.read_block.ensures
