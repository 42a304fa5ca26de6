-- The plan of the masks that a program holds.
use Rattle.plans.specs.Plans.{Plan, by_masks}
use Rattle.by_masks.specs.declared.masks.Masks.{Masks}

abbrev pub masks_plan : Masks → Plan
masks_plan m = by_masks m.shape.rows m.shape.columns m.row_mask m.column_mask
