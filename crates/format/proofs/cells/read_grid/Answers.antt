use Rattle.std.proofs.Common.{◌+◌, ◌*◌, ◌/◌, ◌%◌, ◌<◌, refl, ◌∙◌, mod-lt, arith, rules}
use Rattle.std.proofs.lemmas.Nat.{div_below, mul-add-lt}
use Rattle.format.specs.Slots.{Present, Small, Above}
use Rattle.format.specs.declared.block.Block.{Block}
use Rattle.format.proofs.Tables.{each_of_grid, slot_counted, block_blank, block_above}
use Rattle.format.proofs.cells.read_grid.Goals as goal

pub read_block-requires : goal.read_block-requires
read_block-requires g c = (
  search rules,
  (
    c.requires.room.1.1.1,
    (
      each_of_grid _ _ _ (Present c.args.bytes.now) (λ k l. omega arith),
      each_of_grid _ _ _ (Small g.row.BOUND c.args.bytes.now) c.requires.small,
    ),
  ),
)

pub returns : goal.returns
returns g c =
    let rows = c.args.rows in
    let columns = c.args.columns in
    let stride = c.args.stride in
    let bytes = c.args.bytes.now in
    let table = c.read_block.result in
    let b : Block = record { base = c.args.base; rows = rows; columns = columns; pitch = columns; stride = stride; apart = omega arith } in
    record {
      each = λ k l.
          let r : k / columns < rows = div_below k columns rows (omega arith) l in
          let j : k % columns < columns = mod-lt k (omega arith) in
          let inside : k / columns * stride + k % columns < stride * rows = mul-add-lt (k / columns) stride (k % columns) rows r (omega arith) in
          let here : stride * (k / columns) + k % columns < g.row.LEN = omega arith in
          c.read_block.ensures (stride * (k / columns) + k % columns) here ∙ slot_counted bytes b k (omega arith) refl (omega arith) l;
      blank = block_blank bytes b g.row.LEN table.cells table.sized c.read_block.ensures;
      above = λ all. block_above bytes b g.row.LEN table.cells table.sized c.read_block.ensures (each_of_grid _ _ _ (Above bytes) all);
    }
