-- A number of 16 bits spread at the even positions, a byte at a time.
use Rattle.std.proofs.Common.{◌≡◌, ℕ, ◌+◌, ◌*◌, ◌/◌, ◌%◌, ◌^◌, refl, arith}
use lib.Count.{ones, ones_in}
use Rattle.fields.specs.Fields.{spread, spread_over}
use Rattle.fields.proofs.Spreads.{spread_le}
use Rattle.fields.proofs.Sums.{spread_over_mod, spread_split}

-- the low half of the positions
ones_low : ones 0x5555 ≡ 8
unfolding ones ones_in
ones_low = refl

halves : (n : ℕ) → spread n 0x5555_5555 ≡ spread_over 16 n 0x5555 + 2 ^ 16 * spread_over 16 (n / 2 ^ ones 0x5555) 0x5555
unfolding spread
halves n = spread_split 16 16 n 0x5555_5555

low_half : (n : ℕ) → spread n 0x5555 ≡ spread_over 16 n 0x5555
unfolding spread
low_half n =
    let s = spread_split 16 16 n 0x5555 in
    let z = spread_le 16 (n / 2 ^ ones 0x5555) 0 in
    omega arith

-- a number, byte by byte
pub dilate_split : (n : ℕ) → spread n 0x5555_5555 ≡ spread (n / 256) 0x5555 * 65536 + spread (n % 256) 0x5555
dilate_split n =
    let s : spread n 0x5555_5555 ≡ spread_over 16 n 0x5555 + 2 ^ 16 * spread_over 16 (n / 256) 0x5555 = rw ones_low at (halves n) in
    let m : spread_over 16 n 0x5555 ≡ spread_over 16 (n % 256) 0x5555 = rw ones_low at (spread_over_mod 16 n 0x5555) in
    rw (low_half (n / 256), low_half (n % 256)) (omega arith)
