use Rattle.std.proofs.Common.{arith}
use Rattle.plans.proofs.MaskLaws.{room}
use Rattle.by_masks.proofs.Calls.{parts_small}
use Rattle.by_masks.proofs.masks_placement.MasksPlacement.address.Goals as goal

pub part-row_part-requires : goal.part-row_part-requires
part-row_part-requires c = let m = c.args.self.now in room c.args.row m.shape.rows m.row_mask m.tall.0 c.if-row-self.false m.rowbits

pub part-column_part-requires : goal.part-column_part-requires
part-column_part-requires c = let m = c.args.self.now in room c.args.column m.shape.columns m.column_mask m.broad.0 c.if-column-self.false m.columnbits

pub overflow_add-result : goal.overflow_add-result
overflow_add-result c = omega (arith, parts_small c.args.self.now c.args.row c.args.column _ _ c.part-row_part.ensures c.part-column_part.ensures)
