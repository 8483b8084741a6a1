use Rattle.std.proofs.Common.{◌/◌, ◌%◌, arith}
use Rattle.format.proofs.block.Block.slot.Goals as goal

pub number_at-requires : goal.number_at-requires
number_at-requires c =
    let b = c.args.self in
    let there = c.requires (c.args.s / b.stride) (c.args.s % b.stride) (omega arith) (omega arith) in
    omega (arith, c.place.ensures)
