-- Where cubes of tiles lie.
use Rattle.std.specs.Prelude.{ℕ, ◌+◌, ◌-◌, ◌*◌, ◌^◌, ◌≤◌, min}
use Rattle.walk.specs.declared.sizes.Triple.{Triple}

-- how many of the 2^h numbers from x × 2^h on are below n
abbrev pub extent_of : ℕ → ℕ → ℕ → ℕ
extent_of n h x = min (n - x * 2 ^ h) (2 ^ h)

-- the cube of height h at t lies among the first 4,096 tiles of each side
pub record Room (h : ℕ) (t : Triple) : Type 0 where
  pub height : h ≤ 12
  pub row : (t.row + 1) * 2 ^ h ≤ 4096
  pub column : (t.column + 1) * 2 ^ h ≤ 4096
  pub middle : (t.middle + 1) * 2 ^ h ≤ 4096
