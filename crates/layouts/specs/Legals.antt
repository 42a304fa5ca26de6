-- Every layout is legal, and every legal plan is a placement.
use Rattle.std.specs.Prelude.{true, false}
use Rattle.placement.specs.Sites.{Lawful}
use Rattle.plans.specs.Plans.{Plan, by_masks, by_row_stride, by_column_stride, Legal, site_of}
use Rattle.plans.proofs.MaskLaws.{lawful_masks}
use Rattle.plans.proofs.StrideLaws.{lawful_strided}
use Rattle.by_masks.specs.Fits.{masks_fit}
use Rattle.layouts.specs.Layouts.{layout_plan}
use Rattle.layouts.specs.declared.layout.Layout.{Layout}
use Rattle.layouts.specs.declared.layout.Layout.TheVariants as chosen

pub legal_layout : (l : Layout) → Legal (layout_plan l)
legal_layout (chosen.Masks m) = masks_fit m
legal_layout (chosen.RowStride p) = p.legal
legal_layout (chosen.ColumnStride p) = p.legal

pub lawful_plan : (p : Plan) → Legal p → Lawful (site_of p)
lawful_plan (by_masks r c y x) h = lawful_masks r c y x h
lawful_plan (by_row_stride r c s) h = lawful_strided false r c s h
lawful_plan (by_column_stride r c s) h = lawful_strided true r c s h

pub lawful_layout : (l : Layout) → Lawful (site_of (layout_plan l))
lawful_layout l = lawful_plan (layout_plan l) (legal_layout l)
