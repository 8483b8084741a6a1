use Rattle.std.proofs.Common.{◌≡◌, ℕ, ◌<◌, length}
use Rattle.linear.specs.Tables.{at, Within}
use Rattle.format.specs.Slots.{slot}
use Rattle.format.proofs.cells.read_block.Given as goal

abbrev pub invariant-loop-s : goal.invariant-loop-s
invariant-loop-s g l =
    (length l.cell-items ≡ g.row.LEN)
    × Within g.row.BOUND l.cell-items
    × ((k : ℕ) → k < l.s → at l.cell-items k ≡ slot l.bytes l.block k)
