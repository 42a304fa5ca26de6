-- The plan of each layout that a program holds.
use Rattle.plans.specs.Plans.{Plan}
use Rattle.by_masks.specs.Layouts.{masks_plan}
use Rattle.by_strides.specs.Layouts.{row_plan, column_plan}
use Rattle.layouts.specs.declared.layout.Layout.{Layout}
use Rattle.layouts.specs.declared.layout.Layout.TheVariants as chosen

abbrev pub layout_plan : Layout → Plan
layout_plan (chosen.Masks m) = masks_plan m
layout_plan (chosen.RowStride p) = row_plan p
layout_plan (chosen.ColumnStride p) = column_plan p
