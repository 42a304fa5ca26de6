-- The numbers of the kinds of layout.
use Rattle.std.specs.Prelude.{◌≡◌, ℕ, ◌<◌, Ok, Err, Result}
use Rattle.masked.specs.declared.refusal.Refusal.{Refusal}
use Rattle.masked.specs.declared.refusal.Refusal.TheVariants.{Kind}
use Rattle.layouts.specs.declared.kind.LayoutKind.{LayoutKind}
use Rattle.layouts.specs.declared.kind.LayoutKind.TheVariants.{Masks, RowStride, ColumnStride}
use Rattle.layouts.specs.declared.layout.Layout.{Layout}
use Rattle.layouts.specs.declared.layout.Layout.TheVariants as chosen

abbrev pub kind_number : LayoutKind → ℕ
kind_number Masks = 0
kind_number RowStride = 1
kind_number ColumnStride = 2

-- the kind of a number, or the refusal of one that is none's
abbrev pub Numbered : ℕ → Result LayoutKind Refusal → Type 0
Numbered number (Ok kind) = kind_number kind ≡ number
Numbered number (Err refusal) = (2 < number) × (refusal ≡ Kind)

abbrev pub kind_of : Layout → LayoutKind
kind_of (chosen.Masks m) = Masks
kind_of (chosen.RowStride p) = RowStride
kind_of (chosen.ColumnStride p) = ColumnStride
