-- When the numbers of a layout are legal.
use Rattle.std.specs.Prelude.{◌≡◌, ℕ, ◌-◌, ◌^◌, ◌<◌, ◌≤◌, bit_and, count_ones}
use Rattle.fields.specs.Fields.{width}

-- rows and columns are each 1 to 4,096
abbrev pub Side : ℕ → Type 0
Side n = (1 ≤ n) × (n ≤ 4096)

-- the row mask has exactly as many one-bits as the last row has binary digits, the column mask likewise, all at
-- positions 0 to 23, none shared
pub record MasksFit (rows columns row_mask column_mask : ℕ) : Type 0 where
  pub rows_side : Side rows
  pub columns_side : Side columns
  pub row_bits : count_ones row_mask ≡ width (rows - 1)
  pub column_bits : count_ones column_mask ≡ width (columns - 1)
  pub row_positions : row_mask < 2 ^ 24
  pub column_positions : column_mask < 2 ^ 24
  pub unshared : bit_and row_mask column_mask ≡ 0

-- the near side fits into the stride, which is at most 4,095 and no power of two; the strided side has two entries or more
pub record StrideFits (near strided stride : ℕ) : Type 0 where
  pub near_side : (1 ≤ near) × (near ≤ stride)
  pub stride_limit : stride ≤ 4095
  pub strided_side : (2 ≤ strided) × (strided ≤ 4096)
  pub no_power : count_ones stride ≡ 1 → ⊥
