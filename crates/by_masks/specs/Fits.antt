-- All masks are legal: their ghost fields are the conditions.
use Rattle.plans.specs.Conditions.{MasksFit}
use Rattle.by_masks.specs.declared.masks.Masks.{Masks}

pub masks_fit : (m : Masks) → MasksFit m.shape.rows m.shape.columns m.row_mask m.column_mask
masks_fit m = record {
  rows_side = m.tall;
  columns_side = m.broad;
  row_bits = m.rowbits;
  column_bits = m.columnbits;
  row_positions = m.rowplaces;
  column_positions = m.columnplaces;
  unshared = m.unshared;
}
