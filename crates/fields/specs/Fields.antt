-- Numbers under a mask.
use Rattle.std.specs.Prelude.{◌≡◌, ℕ, zero, suc, ◌+◌, ◌-◌, ◌*◌, ◌/◌, ◌%◌, ◌^◌, ◌<◌, ◌≤◌, length, bit_and, count_ones}
use Rattle.std.specs.Int.Digits.{digits_of}

-- how many binary digits n has: none where n is 0
unfoldable pub width : ℕ → ℕ
width n = length (digits_of 2 n)

-- w is the width of n: n is below 2^w, and not below 2^(w - 1)
pub record Wide (n w : ℕ) : Type 0 where
  pub below : n < 2 ^ w
  pub reached : 0 < w → 2 ^ (w - 1) ≤ n

-- a at a zero-bit, b at a one-bit
abbrev pub by_bit : ℕ → ℕ → ℕ → ℕ
by_bit zero a b = a
by_bit (suc _) a b = b

-- over the k lowest positions of m: at a one-bit of m the lowest bit of n goes in, at a zero-bit nothing does
unfoldable pub spread_over : ℕ → ℕ → ℕ → ℕ
spread_over zero n m = 0
spread_over (suc k) n m = by_bit (m % 2) (2 * spread_over k n (m / 2)) (2 * spread_over k (n / 2) (m / 2) + n % 2)

-- bit 0 of n at the lowest one-bit of m, bit 1 at the next, and so on
unfoldable pub spread : ℕ → ℕ → ℕ
spread n m = spread_over 32 n m

-- over the k lowest positions of m: at a one-bit of m the bit of v goes next, at a zero-bit it is passed over
unfoldable pub gather_over : ℕ → ℕ → ℕ → ℕ
gather_over zero v m = 0
gather_over (suc k) v m = by_bit (m % 2) (gather_over k (v / 2) (m / 2)) (2 * gather_over k (v / 2) (m / 2) + v % 2)

-- the bits of v at the one-bits of m, lowest first
unfoldable pub gather : ℕ → ℕ → ℕ
gather v m = gather_over 32 v m

-- bit p of n
abbrev pub bit : ℕ → ℕ → ℕ
bit p n = n / 2 ^ p % 2

-- how many one-bits m has below position p
abbrev pub ones_below : ℕ → ℕ → ℕ
ones_below p m = count_ones (m % 2 ^ p)

-- v is n spread under m: at a zero-bit of m it has 0, and at a one-bit
-- it has the bit of n whose number is how many one-bits m has below
abbrev pub Spread : ℕ → ℕ → ℕ → Type 0
Spread n m v = (v < 2 ^ 32) × ((p : ℕ) → p < 32 → bit p v ≡ by_bit (bit p m) 0 (bit (ones_below p m) n))

-- there and back under m: gather undoes spread for every number that has room, and spread undoes gather
-- for every number with no bit outside m
pub record Undone (m : ℕ) : Type 0 where
  pub gathered : (n : ℕ) → n < 2 ^ count_ones m → gather (spread n m) m ≡ n
  pub spread_again : (v : ℕ) → bit_and v m ≡ v → spread (gather v m) m ≡ v
