use Rattle.std.proofs.Common.{arith}
use Rattle.plans.proofs.MaskLaws.{part_inside}
use Rattle.by_masks.proofs.Steps.{row_room, column_room, moved_there, moved_small}
use Rattle.by_masks.proofs.masks.Masks.moved.Goals as goal

pub overflow_sub-self : goal.overflow_sub-self
overflow_sub-self c = omega (arith, (c.owner.ensures.there c.in_ok-row.row c.in_ok-row.column c.in_ok-row.ensures.ok_part).0.0)

pub overflow_sub-self-else-rows-self : goal.overflow_sub-self-else-rows-self
overflow_sub-self-else-rows-self c = omega (arith, (c.owner.ensures.there c.in_ok-row.row c.in_ok-row.column c.in_ok-row.ensures.ok_part).0.1)

pub moved_part-row_part-requires-clause-inside : goal.moved_part-row_part-requires-clause-inside
moved_part-row_part-requires-clause-inside c = part_inside c.args.cell c.args.self.now.row_mask (omega (arith, c.args.self.now.rowplaces))

pub moved_part-column_part-requires-clause-inside : goal.moved_part-column_part-requires-clause-inside
moved_part-column_part-requires-clause-inside c = part_inside c.args.cell c.args.self.now.column_mask (omega (arith, c.args.self.now.columnplaces))

pub moved_part-row_part-requires-clause-room : goal.moved_part-row_part-requires-clause-room
moved_part-row_part-requires-clause-room c =
    let owned = (c.owner.ensures.there c.in_ok-row.row c.in_ok-row.column c.in_ok-row.ensures.ok_part) in
    row_room c.args.self.now c.args.cell c.in_ok-row.row c.in_ok-row.column owned.0 owned.1 c.args.rows c.if-rows-self.false

pub moved_part-column_part-requires-clause-room : goal.moved_part-column_part-requires-clause-room
moved_part-column_part-requires-clause-room c =
    let owned = (c.owner.ensures.there c.in_ok-row.row c.in_ok-row.column c.in_ok-row.ensures.ok_part) in
    column_room c.args.self.now c.args.cell c.in_ok-row.row c.in_ok-row.column owned.0 owned.1 c.args.columns c.if-columns-self.false

pub overflow_add-result : goal.overflow_add-result
overflow_add-result c = omega (arith, moved_small c.args.self.now c.args.cell c.args.rows c.args.columns _ _ c.moved_part-row_part.ensures c.moved_part-column_part.ensures)

pub returns : goal.returns
returns c =
    let owned = (c.owner.ensures.there c.in_ok-row.row c.in_ok-row.column c.in_ok-row.ensures.ok_part) in
    moved_there c.args.self.now c.args.cell c.in_ok-row.row c.in_ok-row.column owned.0 owned.1 c.args.rows c.args.columns _ _ c.if-rows-self.false c.if-columns-self.false c.moved_part-row_part.ensures c.moved_part-column_part.ensures
