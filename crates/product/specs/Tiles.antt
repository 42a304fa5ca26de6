-- What the product of one tile asks of its caller.
use Rattle.std.specs.Prelude.{◌≡◌, ◌≤◌, true, List, length}
use Rattle.placement.specs.Sites.{Site}
use Rattle.walk.specs.declared.sizes.Triple.{Triple}
use Rattle.walk.specs.declared.sizes.Sizes.{Sizes}
use Rattle.walk.specs.Walks.{inside}

-- the tables are no smaller than the sizes of the product, and the store of the result no shorter than its span; those of
-- the left and the right table are held with theirs
pub record Tables {E : Type 0} (sizes : Sizes) (left right result : Site) (results : List E) : Type 0 where
  pub left_rows : sizes.rows ≤ left.rows
  pub left_columns : sizes.middle ≤ left.columns
  pub right_rows : sizes.middle ≤ right.rows
  pub right_columns : sizes.columns ≤ right.columns
  pub result_rows : sizes.rows ≤ result.rows
  pub result_columns : sizes.columns ≤ result.columns
  pub result_store : result.span ≤ length results

-- the triple is one of the product's: its tile begins inside
pub record Begins (sizes : Sizes) (t : Triple) : Type 0 where
  pub order : sizes.order ≤ 12
  pub begins : inside sizes t ≡ true
