-- All strides are legal: their ghost field is the conditions.
use Rattle.plans.specs.Conditions.{StrideFits}
use Rattle.by_strides.specs.contracts.axis.ByRowsAxis.TheImpl as by_rows
use Rattle.by_strides.specs.contracts.axis.ByColumnsAxis.TheImpl as by_columns
use Rattle.by_strides.specs.declared.axis.ByRows.{ByRows}
use Rattle.by_strides.specs.declared.axis.ByColumns.{ByColumns}
use Rattle.by_strides.specs.declared.strides.Strides.{Strides}

pub row_fits : (p : Strides ByRows by_rows.ghosts) → StrideFits p.shape.columns p.shape.rows p.stride
row_fits p = p.legal

pub column_fits : (p : Strides ByColumns by_columns.ghosts) → StrideFits p.shape.rows p.shape.columns p.stride
column_fits p = p.legal
