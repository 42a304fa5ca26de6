-- The numbers of a layout, and the placement that they make.
use Rattle.std.specs.Prelude.{ℕ, ◌+◌, ◌-◌, ◌*◌, Bool, true, false, cond}
use Rattle.fields.specs.Fields.{spread}
use Rattle.placement.specs.Sites.{Site}
use Rattle.plans.specs.Conditions.{MasksFit, StrideFits}

pub data Plan : Type 0 where
  by_masks : (rows columns row_mask column_mask : ℕ) → Plan
  by_row_stride : (rows columns stride : ℕ) → Plan
  by_column_stride : (rows columns stride : ℕ) → Plan

-- a stride runs along lines: rows or, where rows and columns change places, columns. Of two numbers, one for rows and one
-- for columns, this is the one for lines
abbrev pub line_of : (turns : Bool) → ℕ → ℕ → ℕ
line_of turns row column = cond turns column row

-- and this the one for places in a line
abbrev pub place_of : (turns : Bool) → ℕ → ℕ → ℕ
place_of turns row column = cond turns row column

-- the plan of a stride along either
abbrev pub by_stride : (turns : Bool) → (rows columns stride : ℕ) → Plan
by_stride turns rows columns stride = cond turns (by_column_stride rows columns stride) (by_row_stride rows columns stride)

-- the conditions of a stride along either: the near side is the places in a line, and the strided side the lines
abbrev pub LinesFit : (turns : Bool) → (rows columns stride : ℕ) → Type 0
LinesFit turns rows columns stride = StrideFits (place_of turns rows columns) (line_of turns rows columns) stride

-- a plan whose conditions hold
abbrev pub Legal : Plan → Type 0
Legal (by_masks r c y x) = MasksFit r c y x
Legal (by_row_stride r c s) = LinesFit false r c s
Legal (by_column_stride r c s) = LinesFit true r c s

-- each line begins a stride after the line before it, and its places follow one another
abbrev pub strided : (turns : Bool) → (rows columns stride : ℕ) → Site
strided turns r c s = record {
  rows = r;
  columns = c;
  span = s * (line_of turns r c - 1) + (place_of turns r c - 1) + 1;
  cell = λ i j. s * line_of turns i j + place_of turns i j;
}

-- under masks the cell of row i and column j is spread(i, y) + spread(j, x), under a row stride s it is s × i + j,
-- under a column stride s × j + i; the last row and the last column have the largest
abbrev pub site_of : Plan → Site
site_of (by_masks r c y x) = record { rows = r; columns = c; span = spread (r - 1) y + spread (c - 1) x + 1; cell = λ i j. spread i y + spread j x }
site_of (by_row_stride r c s) = strided false r c s
site_of (by_column_stride r c s) = strided true r c s
