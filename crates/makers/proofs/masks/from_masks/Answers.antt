use Rattle.std.proofs.Common.{sym, arith}
use Rattle.makers.proofs.Kept.{Made, made}
use Rattle.makers.proofs.masks.from_masks.Goals as goal
use Rattle.makers.proofs.masks.from_masks.Goals.{Else-row_mask-column_mask-ne0}

all : (c : Else-row_mask-column_mask-ne0) → Made c.args.shape.rows c.args.shape.columns c.args.row_mask c.args.column_mask c.lowest-row_mask.result c.lowest-column_mask.result
all c =
    made c.args.shape.rows c.args.shape.columns c.args.row_mask c.args.column_mask c.lowest-row_mask.result c.lowest-column_mask.result
    (sym c.if-not-is_allowed.ensures)
    (omega arith) (omega arith)
    (omega (arith, c.width-row_width.ensures.value, c.if-row_mask-row_width.false)) (omega (arith, c.width-column_width.ensures.value, c.if-column_mask-column_width.false))
    c.lowest-row_mask.ensures c.lowest-column_mask.ensures
    c.if-row_mask.false c.if-column_mask.false c.if-row_mask-column_mask-ne0.false

pub invariant_of-result : goal.invariant_of-result
invariant_of-result c =
    let f = (all c).fit in
    record { tall = f.rows_side; broad = f.columns_side; rowbits = f.row_bits; columnbits = f.column_bits; rowplaces = f.row_positions; columnplaces = f.column_positions; unshared = f.unshared }

pub returns : goal.returns
returns c =
    let m = all (goal.at.returns c).Else-row_mask-column_mask-ne0 in
    record { plan = m.plan; places = m.places }
