-- Masks that are one run of one-bits, and masks of a single one-bit.
use Rattle.std.proofs.Common.{◌≡◌, ℕ, zero, suc, ◌+◌, ◌-◌, ◌*◌, ◌/◌, ◌%◌, ◌^◌, ◌<◌, ◌≤◌, sym, ap, ◌∙◌, arith, pow_pos, pow_mono}
use lib.Bits.{bit_and, and_shifted, shifted_half, shifted_even}
use lib.Count.{ones, ones_cat, ones-ones, ones-le}
use Rattle.fields.specs.Fields.{spread, spread_over}
use Rattle.fields.proofs.Spreads.{by_parity, pow_more, half_below, spread_zero, spread_even, spread_odd, ones_even, ones_odd}
use Rattle.fields.proofs.Lowest.{ones_none}

-- under the w lowest positions a number below 2^w stays as it is
pub spread_over_low : (k n w : ℕ) → n < 2 ^ w → w ≤ k → spread_over k n (2 ^ w - 1) ≡ n
spread_over_low k n zero h l = let z : n ≡ 0 = omega arith in rw (z, spread_zero k (2 ^ 0 - 1))
spread_over_low zero n (suc w) h l = absurd (omega arith)
spread_over_low (suc k) n (suc w) h l =
    let p = pow_pos w in
    let o : (2 ^ suc w - 1) % 2 ≡ 1 = rw (pow_more w) (omega arith) in
    let e : (2 ^ suc w - 1) / 2 ≡ 2 ^ w - 1 = rw (pow_more w) (omega arith) in
    let r = spread_over_low k (n / 2) w (half_below w n h) (omega arith) in
    rw (spread_odd k n (2 ^ suc w - 1) o, e, r) (omega arith)

-- under the w positions from l on it goes up by l
pub spread_over_run : (k n w l : ℕ) → n < 2 ^ w → w + l ≤ k → spread_over k n ((2 ^ w - 1) * 2 ^ l) ≡ n * 2 ^ l
spread_over_run k n w zero h b =
    let e : (2 ^ w - 1) * 2 ^ 0 ≡ 2 ^ w - 1 = omega arith in
    let r = spread_over_low k n w h (omega arith) in
    rw (e, r) (omega arith)
spread_over_run zero n w (suc l) h b = absurd (omega arith)
spread_over_run (suc k) n w (suc l) h b =
    let r = spread_over_run k n w l h (omega arith) in
    let d : 2 * (n * 2 ^ l) ≡ n * 2 ^ suc l = rw (pow_more l) (omega arith) in
    rw (spread_even k n ((2 ^ w - 1) * 2 ^ suc l) (shifted_even (2 ^ w - 1) l), shifted_half (2 ^ w - 1) l, r) d

pub spread_run : (n w l : ℕ) → n < 2 ^ w → w + l ≤ 32 → spread n ((2 ^ w - 1) * 2 ^ l) ≡ n * 2 ^ l
unfolding spread
spread_run n w l h b = spread_over_run 32 n w l h b

-- a number that goes up by l has the same one-bits
ones_up : (a l : ℕ) → ones (a * 2 ^ l) ≡ ones a
ones_up a l =
    let e : a * 2 ^ l + 0 ≡ a * 2 ^ l = omega arith in
    let c = ones_cat l a 0 (pow_pos l) in
    let z = ones_none in
    ap ones (sym e) ∙ c ∙ omega arith

pub ones_run : (w l : ℕ) → ones ((2 ^ w - 1) * 2 ^ l) ≡ w
ones_run w l = ones_up (2 ^ w - 1) l ∙ ones-ones w

-- a run from l on shares no bit with the u lowest positions
pub run_unshared : (v l u : ℕ) → u ≤ l → bit_and ((2 ^ v - 1) * 2 ^ l) (2 ^ u - 1) ≡ 0
run_unshared v l u h =
    let p = pow_mono h in
    let q = pow_pos u in
    and_shifted (2 ^ v - 1) l (2 ^ u - 1) (omega arith)

-- only 0 has no one-bit
pub zero_of_ones : (k s : ℕ) → s < 2 ^ k → ones s ≡ 0 → s ≡ 0
zero_of_ones zero s h e = omega arith
zero_of_ones (suc k) s h e =
    by_parity s
    (λ p.
    let o = ones_even s p in
    let r = zero_of_ones k (s / 2) (half_below k s h) (omega arith) in
    omega arith)
    (λ p. let o = ones_odd s p in absurd (omega arith))

-- a number below 2^k of a single one-bit is a power of two
pub power_below : (k s : ℕ) → s < 2 ^ k → ones s ≡ 1 → (l : ℕ) × (s ≡ 2 ^ l)
power_below zero s h e =
    let le = ones-le 0 s h in
    absurd (omega arith)
power_below (suc k) s h e =
    by_parity s
    (λ p.
    let o = ones_even s p in
    let r = power_below k (s / 2) (half_below k s h) (omega arith) in
    let is : s / 2 ≡ 2 ^ r.0 = r.1 in
    (suc r.0, rw (pow_more r.0) (omega arith)))
    (λ p.
    let o = ones_odd s p in
    let z = zero_of_ones k (s / 2) (half_below k s h) (omega arith) in
    (0, omega arith))

pub power_of_two : (s : ℕ) → s < 2 ^ 32 → ones s ≡ 1 → (l : ℕ) × (s ≡ 2 ^ l)
power_of_two s h e = power_below 32 s h e

pub ones_power : (l : ℕ) → ones (2 ^ l) ≡ 1
ones_power l =
    let e : 2 ^ l ≡ (2 ^ 1 - 1) * 2 ^ l = omega arith in
    ap ones e ∙ ones_run 1 l
