use Rattle.std.proofs.Common.{ℕ, ◌<◌, ◌≤◌, length, ℤ, nat_abs, ◌∙◌, arith, length-set, rules}
use Rattle.linear.proofs.Cells.{set_within, entries_more, narrowed}
use Rattle.format.specs.Slots.{slot}
use Rattle.format.proofs.Tables.{slot_small}
use Rattle.format.proofs.cells.read_block.Goals as goal

pub loop-s-preserved : goal.loop-s-preserved
loop-s-preserved g c =
    let f : ℕ → ℤ = slot c.args.bytes.now c.args.block in
    let small : nat_abs (f c.loop-s.s) ≤ g.row.BOUND = slot_small _ c.args.block _ c.requires.small c.loop-s.s in
    let l : c.loop-s.s < length c.loop-s.cell-items = omega arith in
    let e = narrowed c.slot.result (f c.loop-s.s) g.row.BOUND (search rules) c.slot.ensures small c.requires.narrow in
    simp e
    (length-set _ _ _ ∙ c.loop-s.invariant.0, set_within _ _ _ _ c.loop-s.invariant.1 small, entries_more f _ _ l c.loop-s.invariant.2)
