use Rattle.std.proofs.Common.{vec_items}
use Rattle.format.specs.Spelling.{Spells}
use Rattle.format.proofs.write.write.Given as goal

abbrev pub invariant-loop-i : goal.invariant-loop-i
invariant-loop-i g l = Spells (vec_items l.bytes) l.i (g.D.Numbered.numbers l.document)
