-- Known figures, as the definitions that the contracts cite give them.
use Rattle.std.specs.Prelude.{◌≡◌, ℕ, ◌+◌, ◌<◌, ◌≤◌, [], ◌∷◌, Some, Ok, Err}
use Rattle.std.specs.List.{slice_get}
use Rattle.fields.specs.Fields.{spread}
use Rattle.masked.specs.Arithmetic.{sum_answer}
use Rattle.masked.specs.declared.refusal.Refusal.TheVariants.{Padded, Uncanonical}
use Rattle.plans.specs.Plans.{by_masks, site_of}
use Rattle.orders.specs.Orders.{Z, order_plan}
use Rattle.decoding.specs.Reading.{fault, accepted}
use Rattle.quadtree.specs.Blocks.{ahnentafel_of, level_order_of}
use Rattle.walk.specs.Walks.{sizes_of, triple, walk_of}

pub record Figures : Type 0 where
  -- a cell under two masks
  pub row_spread : spread 5 0x23 ≡ 33
  pub column_spread : spread 17 0xdc ≡ 132
  pub together : spread 5 0x23 + spread 17 0xdc ≡ 165
  -- row 4, column 8 in Z, in every table that has them
  pub in_z : (rows columns : ℕ) → 4 < rows → rows ≤ 4096 → 8 < columns → columns ≤ 4096 → (site_of (order_plan Z rows columns 0)).cell 4 8 ≡ 96
  -- sums under a mask, one that comes round and one whose carry crosses a gap
  pub sum_plain : sum_answer 33 2 0x23 ≡ Ok 35
  pub sum_round : sum_answer 33 3 0x23 ≡ Ok 0
  pub sum_over_gap : sum_answer 1 1 0x5 ≡ Ok 4
  -- level 2, Morton index 7
  pub ahnentafel : ahnentafel_of 2 7 ≡ 55
  pub level_order : level_order_of 2 7 ≡ 12
  -- the walk of 3 rows, 2 columns and 4 middle indices at order 1, and the ninth triple of 4, 4 and 4 at order 0
  pub walk_whole : walk_of (sizes_of 3 2 4 1) ≡ triple 0 0 0 ∷ triple 0 0 1 ∷ triple 1 0 1 ∷ triple 1 0 0 ∷ []
  pub walk_ninth : slice_get (walk_of (sizes_of 4 4 4 0)) 8 ≡ Some (triple 1 0 2)
  -- a stride of 16, and a stride that one row never takes: masks say both
  pub read_power : accepted (0x01 ∷ 0x0f ∷ 0x0f ∷ 0x10 ∷ []) ≡ Err (fault Uncanonical 3)
  pub read_one_row : accepted (0x01 ∷ 0x00 ∷ 0x04 ∷ 0x05 ∷ []) ≡ Err (fault Uncanonical 3)
  -- the kind 0 in two bytes
  pub read_padded : accepted (0x80 ∷ 0x00 ∷ []) ≡ Err (fault Padded 0)
  -- one entry, span 1
  pub read_one_entry : accepted (0x00 ∷ 0x00 ∷ 0x00 ∷ 0x00 ∷ 0x00 ∷ []) ≡ Ok (by_masks 1 1 0 0)
  pub one_entry_span : (site_of (by_masks 1 1 0 0)).span ≡ 1
