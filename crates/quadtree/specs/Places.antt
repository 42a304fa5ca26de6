-- The row and the column of a block among those of its level.
use Rattle.std.specs.Prelude.{◌≡◌, ℕ, ◌+◌, ◌*◌, ◌^◌, ◌<◌}
use Rattle.fields.specs.Fields.{gather}

-- the odd bits of the Morton index
abbrev pub row_of : ℕ → ℕ
row_of m = gather m 0xaaaa_aaaa

-- the even bits
abbrev pub column_of : ℕ → ℕ
column_of m = gather m 0x5555_5555

-- child 4m + 2p + q of the block at m lies in row 2r + p, where r is the row of the block
pub record ChildRows : Type 0 where
  pub child : (m p q : ℕ) → m < 4 ^ 12 → p < 2 → q < 2 → row_of (4 * m + 2 * p + q) ≡ 2 * row_of m + p

-- child 4m + 2p + q of the block at m lies in column 2c + q, where c is the column of the block
pub record ChildColumns : Type 0 where
  pub child : (m p q : ℕ) → m < 4 ^ 12 → p < 2 → q < 2 → column_of (4 * m + 2 * p + q) ≡ 2 * column_of m + q
