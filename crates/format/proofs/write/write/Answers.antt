use Rattle.std.proofs.Common.{vec_items, w64, SFits, rules}
use Rattle.std.proofs.lemmas.Int.{to_z-of_z}
use Rattle.format.proofs.Spelling.{spells_more}
use Rattle.format.proofs.write.write.Goals as goal

pub loop-i-preserved : goal.loop-i-preserved
loop-i-preserved g c =
    let fits : SFits w64 c.number.result = search rules in
    let more = spells_more (vec_items c.loop-i.bytes) c.loop-i.i _ c.number.result c.loop-i.invariant fits c.number.ensures in
    let items = c.in_ok-extend_from_slice.ensures.items in
    simp (items, c.to_le_bytes.ensures, to_z-of_z w64 c.number.result fits) more
