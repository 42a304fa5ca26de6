-- What the makers answer: a layout's plan, or the first refusal that applies.
use Rattle.std.specs.Prelude.{◌≡◌, ℕ, ◌-◌, ◌*◌, ◌^◌, ◌<◌, Bool, true, false, cond, ◌&&◌, ◌||◌, Ok, Err, Result, ◌==◌, bit_and, count_ones, nat_le, nat_lt}
use Rattle.fields.specs.Fields.{spread, width}
use Rattle.masked.specs.declared.refusal.Refusal.{Refusal}
use Rattle.masked.specs.declared.refusal.Refusal.TheVariants.{Shape, MaskBits, MaskPosition, MaskOverlap, Stride}
use Rattle.plans.specs.Plans.{Plan, by_masks, by_stride, line_of, place_of}

-- the refusal unless the condition holds, else what follows
abbrev pub unless : Bool → Refusal → Result Plan Refusal → Result Plan Refusal
unless holds refusal next = cond holds next (Err refusal)

-- the plan of what a maker made, or its refusal
abbrev pub planned : {X : Type 0} → (X → Plan) → Result X Refusal → Result Plan Refusal
planned plan (Ok x) = Ok (plan x)
planned plan (Err refusal) = Err refusal

-- each entry inside a made layout lies at the given cell
abbrev pub Places : {X : Type 0} → (X → ℕ → ℕ → ℕ) → (ℕ → ℕ → ℕ) → ℕ → ℕ → Result X Refusal → Type 0
Places cell given rows columns (Ok x) = (i j : ℕ) → i < rows → j < columns → cell x i j ≡ given i j
Places cell given rows columns (Err refusal) = Unit {0}

-- rows and columns are each 1 to 4,096
abbrev pub shaped : ℕ → ℕ → Bool
shaped rows columns = (nat_le 1 rows && nat_le rows 4096) && (nat_le 1 columns && nat_le columns 4096)

-- the lowest w one-bits of m
abbrev pub lowest : ℕ → ℕ → ℕ
lowest w m = spread (2 ^ w - 1) m

-- the kept bits: none above position 23, none shared
abbrev pub kept : ℕ → ℕ → ℕ → ℕ → Result Plan Refusal
kept rows columns y x =
    unless (nat_lt y (2 ^ 24) && nat_lt x (2 ^ 24)) MaskPosition
    (unless (bit_and y x == 0) MaskOverlap
    (Ok (by_masks rows columns y x)))

-- from masks: as many of the lowest one-bits of each as the last row and the last column have binary digits
abbrev pub from_masks : ℕ → ℕ → ℕ → ℕ → Result Plan Refusal
from_masks rows columns y x =
    unless (shaped rows columns) Shape
    (unless (nat_le (width (rows - 1)) (count_ones y)) MaskBits
    (unless (nat_le (width (columns - 1)) (count_ones x)) MaskBits
    (kept rows columns (lowest (width (rows - 1)) y) (lowest (width (columns - 1)) x))))

-- the bits of a side with n entries, from position 0 on
abbrev pub side_bits : ℕ → ℕ
side_bits n = 2 ^ width (n - 1) - 1

-- a stride that masks can say: a power of two, or one that is never taken
abbrev pub masked_stride : ℕ → ℕ → Bool
masked_stride strided stride = count_ones stride == 1 || strided == 1

-- by a stride: masks where they can say it, with the places' bits from position 0 and the lines' bits from the stride's
abbrev pub stride_plan : (turns : Bool) → ℕ → ℕ → ℕ → Plan
stride_plan turns rows columns stride =
    let lines = side_bits (line_of turns rows columns) * stride in
    let places = side_bits (place_of turns rows columns) in
    cond (masked_stride (line_of turns rows columns) stride) (by_masks rows columns (line_of turns lines places) (place_of turns lines places)) (by_stride turns rows columns stride)

-- by a row stride, and by a column stride
abbrev pub row_strided : ℕ → ℕ → ℕ → Plan
row_strided = stride_plan false

abbrev pub column_strided : ℕ → ℕ → ℕ → Plan
column_strided = stride_plan true

-- from a stride: not below the near side, nor above 4,096
abbrev pub from_stride : (turns : Bool) → ℕ → ℕ → ℕ → Result Plan Refusal
from_stride turns rows columns stride =
    unless (shaped rows columns) Shape
    (unless (nat_le (place_of turns rows columns) stride && nat_le stride 4096) Stride
    (Ok (stride_plan turns rows columns stride)))

abbrev pub from_row_stride : ℕ → ℕ → ℕ → Result Plan Refusal
from_row_stride = from_stride false

abbrev pub from_column_stride : ℕ → ℕ → ℕ → Result Plan Refusal
from_column_stride = from_stride true
