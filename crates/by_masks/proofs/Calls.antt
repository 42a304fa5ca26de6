-- What spread and gather answer under the masks of a layout: they do not refuse there.
use Rattle.std.proofs.Common.{◌≡◌, ℕ, ◌+◌, ◌^◌, ◌<◌, Some, None, arith}
use lib.Bits.{bit_and}
use lib.Count.{ones}
use Rattle.fields.specs.Fields.{spread, gather}
use Rattle.fields.proofs.Fields.{spread_le, gather_below}
use Rattle.placement.specs.Sites.{Owner}
use Rattle.plans.specs.Plans.{site_of}
use Rattle.plans.proofs.MaskLaws.{part_again, both_below, owner_found, owner_outside}
use Rattle.by_masks.specs.Layouts.{masks_plan}
use Rattle.by_masks.specs.Fits.{masks_fit}
use Rattle.by_masks.specs.declared.masks.Masks.{Masks}

-- the two parts of a cell add up within the positions
pub parts_small : (m : Masks) (i j v w : ℕ) → v ≡ spread i m.row_mask → w ≡ spread j m.column_mask → v + w < 2 ^ 24
parts_small m i j v w p q =
    omega (arith, both_below m.row_mask m.column_mask m.rowplaces m.columnplaces m.unshared, spread_le i m.row_mask, spread_le j m.column_mask)

-- the row and the column that gather finds for a cell whose parts make it up
module _ (m : Masks) (at i j : ℕ) (sum : bit_and at m.row_mask + bit_and at m.column_mask ≡ at) (row : i ≡ gather (bit_and at m.row_mask) m.row_mask) (column : j ≡ gather (bit_and at m.column_mask) m.column_mask) where
  row_again : spread i m.row_mask ≡ bit_and at m.row_mask
  row_again = rw row (part_again at m.row_mask (omega (arith, m.rowplaces)))

  column_again : spread j m.column_mask ≡ bit_and at m.column_mask
  column_again = rw column (part_again at m.column_mask (omega (arith, m.columnplaces)))

  row_room : i < 2 ^ ones m.row_mask
  row_room = rw row (gather_below (bit_and at m.row_mask) m.row_mask (omega (arith, m.rowplaces)))

  column_room : j < 2 ^ ones m.column_mask
  column_room = rw column (gather_below (bit_and at m.column_mask) m.column_mask (omega (arith, m.columnplaces)))

  pub found : i < m.shape.rows → j < m.shape.columns → Owner (site_of (masks_plan m)) at (Some (i, j))
  found = owner_found _ _ _ _ (masks_fit m) at i j sum row_again column_again row_room column_room

  pub outside : (i < m.shape.rows → j < m.shape.columns → ⊥) → Owner (site_of (masks_plan m)) at None
  outside = owner_outside _ _ _ _ (masks_fit m) at i j sum row_again column_again row_room column_room
