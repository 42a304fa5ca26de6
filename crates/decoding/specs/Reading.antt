-- How a descriptor is read: number by number, each checked fully before the next is read. The first fault is told, with its place.
use Rattle.std.specs.Prelude.{ℕ, zero, suc, ◌+◌, ◌-◌, ◌*◌, ◌%◌, ◌^◌, Bool, true, false, cond, not, ◌&&◌, ◌||◌, List, [], ◌∷◌, length, drop, Ok, Err, Result, ◌==◌, bit_and, count_ones, nat_le, nat_lt}
use Rattle.fields.specs.Fields.{width}
use Rattle.masked.specs.declared.refusal.Refusal.{Refusal}
use Rattle.masked.specs.declared.refusal.Refusal.TheVariants.{Ended, TooLong, Padded, Kind, Shape, MaskBits, MaskPosition, MaskOverlap, Stride, Uncanonical, Trailing}
use Rattle.plans.specs.Plans.{Plan, by_masks, by_stride, line_of, place_of}
use Rattle.layouts.specs.Layouts.{layout_plan}
use Rattle.layouts.specs.declared.layout.Layout.{Layout}
use Rattle.decoding.specs.declared.decoded.Number.{Number}
use Rattle.decoding.specs.declared.fault.Fault.{Fault}

-- a refusal at a place
abbrev pub fault : Refusal → ℕ → Fault
fault refusal place = record { refusal = refusal; place = place }

-- a number, and the offset of the byte after it
abbrev pub number : ℕ → ℕ → Number
number value next = record { value = value; next = next }

-- the fault, or what follows
abbrev pub and_then : {X Y : Type 0} → Result X Fault → (X → Result Y Fault) → Result Y Fault
and_then (Ok x) next = next x
and_then (Err f) next = Err f

-- the refusal at the place unless the condition holds, else what follows
abbrev pub unless : {Y : Type 0} → Bool → Refusal → ℕ → Result Y Fault → Result Y Fault
unless holds refusal place next = cond holds next (Err (fault refusal place))

-- one byte b before the rest of a number that begins at offset first. Where the rest comes to 0 it is a zero byte, and the
-- shortest form does not end in one
abbrev pub led_by : ℕ → ℕ → Result Number Fault → Result Number Fault
led_by first b rest = and_then rest (λ n. unless (not (n.value == 0)) Padded first (Ok (number (b % 128 + 128 * n.value) n.next)))

-- the number that bytes begin with, where it may have so many bytes more: the number begins at offset first, these bytes
-- at offset at, and the input ends at offset end
abbrev pub number_by : (end first bytes at : ℕ) → List ℕ → Result Number Fault
number_by end first zero at bs = Err (fault TooLong first)
number_by end first (suc k) at [] = Err (fault Ended end)
number_by end first (suc k) at (b ∷ bs) = cond (nat_lt b 128) (Ok (number b (at + 1))) (led_by first b (number_by end first k (at + 1) bs))

-- the number that begins at an offset: it has at most four bytes
unfoldable pub number_at : List ℕ → ℕ → Result Number Fault
number_at input at = number_by (length input) at 4 at (drop at input)

-- the kind
abbrev pub kind_at : List ℕ → ℕ → Result Number Fault
kind_at input at = and_then (number_at input at) (λ kind. unless (nat_le kind.value 2) Kind at (Ok kind))

-- rows less one, or columns less one
abbrev pub side_at : List ℕ → ℕ → Result Number Fault
side_at input at = and_then (number_at input at) (λ last. unless (nat_le last.value 4095) Shape at (Ok last))

-- the mask of a side with so many entries: its one-bits are counted before their positions are judged
abbrev pub mask_at : List ℕ → ℕ → ℕ → Result Number Fault
mask_at input at entries =
    and_then (number_at input at) (λ mask.
    unless (count_ones mask.value == width (entries - 1)) MaskBits at
    (unless (nat_lt mask.value (2 ^ 24)) MaskPosition at (Ok mask)))

-- the column mask, which comes after the row mask
abbrev pub column_mask_at : List ℕ → ℕ → ℕ → ℕ → Result Number Fault
column_mask_at input at columns row_mask =
    and_then (mask_at input at columns) (λ mask.
    unless (bit_and row_mask mask.value == 0) MaskOverlap at (Ok mask))

-- the stride: not below the near side, nor above 4,095, and none that masks say
abbrev pub stride_at : List ℕ → ℕ → ℕ → ℕ → Result Number Fault
stride_at input at near strided =
    and_then (number_at input at) (λ stride.
    unless (nat_le near stride.value && nat_le stride.value 4095) Stride at
    (unless (not (count_ones stride.value == 1 || strided == 1)) Uncanonical at (Ok stride)))

-- the plan, where the input ends with it
abbrev pub ended : List ℕ → ℕ → Plan → Result Plan Fault
ended input end plan = unless (nat_le (length input) end) Trailing end (Ok plan)

-- what follows the shape, by kind
abbrev pub masks_at : List ℕ → ℕ → ℕ → ℕ → Result Plan Fault
masks_at input at rows columns =
    and_then (mask_at input at rows) (λ y.
    and_then (column_mask_at input y.next columns y.value) (λ x.
    ended input x.next (by_masks rows columns y.value x.value)))

abbrev pub strides_at : (turns : Bool) → List ℕ → ℕ → ℕ → ℕ → Result Plan Fault
strides_at turns input at rows columns =
    and_then (stride_at input at (place_of turns rows columns) (line_of turns rows columns)) (λ stride.
    ended input stride.next (by_stride turns rows columns stride.value))

-- a stride along rows, and along columns
abbrev pub row_stride_at : List ℕ → ℕ → ℕ → ℕ → Result Plan Fault
row_stride_at = strides_at false

abbrev pub column_stride_at : List ℕ → ℕ → ℕ → ℕ → Result Plan Fault
column_stride_at = strides_at true

abbrev pub body_at : ℕ → List ℕ → ℕ → ℕ → ℕ → Result Plan Fault
body_at kind input at rows columns =
    cond (kind == 0) (masks_at input at rows columns)
    (cond (kind == 1) (row_stride_at input at rows columns)
    (column_stride_at input at rows columns))

-- the plan that the input describes, or its first fault
abbrev pub accepted : List ℕ → Result Plan Fault
accepted input =
    and_then (kind_at input 0) (λ kind.
    and_then (side_at input kind.next) (λ rows.
    and_then (side_at input rows.next) (λ columns.
    body_at kind.value input columns.next (rows.value + 1) (columns.value + 1))))

-- the plan of what the reader made, or its fault
abbrev pub planned : Result Layout Fault → Result Plan Fault
planned (Ok layout) = Ok (layout_plan layout)
planned (Err f) = Err f
