use Rattle.std.proofs.Common.{arith}
use Rattle.plans.proofs.MaskLaws.{owner_elsewhere, part_inside}
use Rattle.by_masks.proofs.Calls.{found, outside}
use Rattle.by_masks.specs.Fits.{masks_fit}
use Rattle.by_masks.proofs.masks_placement.MasksPlacement.owner.Goals as goal
use Rattle.by_masks.proofs.masks_placement.MasksPlacement.owner.Goals.{else-row-self-via-then-row-self+else-column-self, else-row-self-via-else-row-self}

pub returns-then-row_part-column_part : goal.returns-then-row_part-column_part
returns-then-row_part-column_part c = owner_elsewhere _ _ _ _ (masks_fit c.args.self.now) c.args.cell c.if-row_part-column_part.true

pub index_of-row-requires : goal.index_of-row-requires
index_of-row-requires c = part_inside c.args.cell _ (omega (arith, c.args.self.now.rowplaces))

pub index_of-column-requires : goal.index_of-column-requires
index_of-column-requires c = part_inside c.args.cell _ (omega (arith, c.args.self.now.columnplaces))

pub returns-then-column-self : goal.returns-then-column-self
returns-then-column-self c = found c.args.self.now c.args.cell _ _ c.if-row_part-column_part.false c.index_of-row.ensures c.index_of-column.ensures c.if-row-self.true c.if-column-self.true

pub returns-else-row-self : goal.returns-else-row-self
returns-else-row-self c =
    outside c.args.self.now c.args.cell _ _ c.if-row_part-column_part.false c.index_of-row.ensures c.index_of-column.ensures
    (λ a b. elim c.else-row-self.branch [
      | else-row-self-via-then-row-self+else-column-self w ↦ omega (arith, b, w.if-column-self.false)
      | else-row-self-via-else-row-self w ↦ omega (arith, a, w.if-row-self.false)
    ])
