-- The plan of the strides that a program holds.
use Rattle.plans.specs.Plans.{Plan, by_row_stride, by_column_stride}
use Rattle.by_strides.specs.declared.axis.Axis.{Ghosts}
use Rattle.by_strides.specs.declared.axis.ByRows.{ByRows}
use Rattle.by_strides.specs.declared.axis.ByColumns.{ByColumns}
use Rattle.by_strides.specs.declared.strides.Strides.{Strides}

-- along rows, and along columns
abbrev pub row_plan : {axis : Ghosts ByRows} → Strides ByRows axis → Plan
row_plan p = by_row_stride p.shape.rows p.shape.columns p.stride

abbrev pub column_plan : {axis : Ghosts ByColumns} → Strides ByColumns axis → Plan
column_plan p = by_column_stride p.shape.rows p.shape.columns p.stride
