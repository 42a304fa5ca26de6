-- Sums under a mask, over any number of positions.
use Rattle.std.proofs.Common.{◌≡◌, ℕ, zero, suc, ◌+◌, ◌-◌, ◌*◌, ◌/◌, ◌%◌, ◌^◌, ◌<◌, ◌≤◌, sym, ap, ◌∙◌, div-one, arith, pow_pos, shr-shr}
use lib.Bits.{bit_and, bit_or, and_step, and_comm, and_le_r, or_disjoint}
use lib.Count.{ones}
use lib.Pow.{mod-mod-pow, field}
use Rattle.fields.specs.Fields.{spread_over, gather_over}
use Rattle.fields.proofs.Spreads.{by_parity, pow_more, half_below, spread_none, spread_even, spread_odd, gather_none, gather_even, gather_odd, ones_even, ones_odd, below_none}
use Rattle.fields.proofs.Lowest.{ones_none}

-- a number with no bit outside m is at most m; its half has no bit outside the half of m, and its lowest bit is one only where m has one
pub inside_half : (a m : ℕ) → bit_and a m ≡ a → bit_and (a / 2) (m / 2) ≡ a / 2
inside_half a m h = let s = and_step a m in omega arith

pub inside_low : (a m : ℕ) → bit_and a m ≡ a → a % 2 ≤ m % 2
inside_low a m h = let s = and_step a m in omega arith

pub inside_le : (a m : ℕ) → bit_and a m ≡ a → a ≤ m
inside_le a m h = let l = and_le_r a m in omega arith

-- only the w lowest bits of n are spread, where w is how many one-bits m has
pub spread_over_mod : (k n m : ℕ) → spread_over k n m ≡ spread_over k (n % 2 ^ ones m) m
spread_over_mod zero n m = rw (spread_none n m, spread_none (n % 2 ^ ones m) m)
spread_over_mod (suc k) n m =
    by_parity m
    (λ p. rw (spread_even k n m p, spread_even k (n % 2 ^ ones m) m p, ones_even m p) (ap (λ s. 2 * s) (spread_over_mod k n (m / 2))))
    (λ p.
    let r = spread_over_mod k (n / 2) (m / 2) in
    let e : n % 2 ^ ones m / 2 ≡ n / 2 % 2 ^ ones (m / 2) = rw (ones_odd m p) (field n (ones (m / 2)) 1) in
    let z : n % 2 ^ ones m % 2 ≡ n % 2 = rw (ones_odd m p) (mod-mod-pow n (ones (m / 2)) 1) in
    rw (spread_odd k n m p, spread_odd k (n % 2 ^ ones m) m p, e, z, r))

-- one position more
shr_more : (n j : ℕ) → n / 2 / 2 ^ j ≡ n / 2 ^ suc j
shr_more n j = let e : 1 + j ≡ suc j = omega arith in shr-shr n 1 j ∙ ap (λ i. n / 2 ^ i) e

-- the sum of a and b with a carry c, the bits outside m filled with ones: at the one-bits of m stands the sum
-- of the gathered numbers
pub sum_over : (k a b c m : ℕ) → m < 2 ^ k → bit_and a m ≡ a → bit_and b m ≡ b → c ≤ 1 → bit_and (a + (2 ^ k - 1 - m) + b + c) m ≡ spread_over k (gather_over k a m + gather_over k b m + c) m
sum_over zero a b c m h i j l =
    let z : m ≡ 0 = omega arith in
    rw (spread_none (gather_over 0 a m + gather_over 0 b m + c) m) (rw (z, and_comm (a + (2 ^ 0 - 1 - 0) + b + c) 0))
sum_over (suc k) a b c m h i j l =
    let p2 = pow_more k in
    let hm = half_below k m h in
    let ia = inside_half a m i in
    let ib = inside_half b m j in
    let la = inside_low a m i in
    let lb = inside_low b m j in
    by_parity m
    (λ p.
    let r = sum_over k (a / 2) (b / 2) c (m / 2) hm ia ib l in
    let e : (a + (2 ^ suc k - 1 - m) + b + c) / 2 ≡ a / 2 + (2 ^ k - 1 - m / 2) + b / 2 + c = omega arith in
    rw (and_step (a + (2 ^ suc k - 1 - m) + b + c) m, e, r, p, gather_even k a m p, gather_even k b m p, spread_even k (gather_over k (a / 2) (m / 2) + gather_over k (b / 2) (m / 2) + c) m p) (omega arith))
    (λ p.
    let r = sum_over k (a / 2) (b / 2) ((a % 2 + b % 2 + c) / 2) (m / 2) hm ia ib (omega arith) in
    let e : (a + (2 ^ suc k - 1 - m) + b + c) / 2 ≡ a / 2 + (2 ^ k - 1 - m / 2) + b / 2 + (a % 2 + b % 2 + c) / 2 = omega arith in
    let z : (a + (2 ^ suc k - 1 - m) + b + c) % 2 ≡ (a % 2 + b % 2 + c) % 2 = omega arith in
    let n : gather_over (suc k) a m + gather_over (suc k) b m + c ≡ 2 * (gather_over k (a / 2) (m / 2) + gather_over k (b / 2) (m / 2)) + (a % 2 + b % 2 + c) = rw (gather_odd k a m p, gather_odd k b m p) (omega arith) in
    let ne : (gather_over (suc k) a m + gather_over (suc k) b m + c) / 2 ≡ gather_over k (a / 2) (m / 2) + gather_over k (b / 2) (m / 2) + (a % 2 + b % 2 + c) / 2 = omega arith in
    let nz : (gather_over (suc k) a m + gather_over (suc k) b m + c) % 2 ≡ (a % 2 + b % 2 + c) % 2 = omega arith in
    rw (and_step (a + (2 ^ suc k - 1 - m) + b + c) m, e, z, r, p, spread_odd k (gather_over (suc k) a m + gather_over (suc k) b m + c) m p, ne, nz) (omega arith))

-- the bits of m that b lacks: they are inside m, and stand for the largest number less the one of b
pub rest_inside : (k b m : ℕ) → m < 2 ^ k → bit_and b m ≡ b → bit_and (m - b) m ≡ m - b
rest_inside zero b m h i = let z : m - b ≡ 0 = omega arith in rw z
rest_inside (suc k) b m h i =
    let le = inside_le b m i in
    let low = inside_low b m i in
    let half = inside_half b m i in
    let le2 = inside_le (b / 2) (m / 2) half in
    let r = rest_inside k (b / 2) (m / 2) (half_below k m h) half in
    let e : (m - b) / 2 ≡ m / 2 - b / 2 = omega arith in
    let z : (m - b) % 2 ≡ m % 2 - b % 2 = omega arith in
    rw (and_step (m - b) m, e, z, r) (omega arith)

pub rest_gather : (k b m : ℕ) → m < 2 ^ k → bit_and b m ≡ b → gather_over k (m - b) m + gather_over k b m + 1 ≡ 2 ^ ones m
rest_gather zero b m h i =
    let p = below_none (2 ^ ones m - 1) m h (let q = pow_pos (ones m) in omega arith) in
    let q = pow_pos (ones m) in
    rw (gather_none (m - b) m, gather_none b m) (omega arith)
rest_gather (suc k) b m h i =
    let le = inside_le b m i in
    let low = inside_low b m i in
    let half = inside_half b m i in
    let le2 = inside_le (b / 2) (m / 2) half in
    let r = rest_gather k (b / 2) (m / 2) (half_below k m h) half in
    let e : (m - b) / 2 ≡ m / 2 - b / 2 = omega arith in
    let z : (m - b) % 2 ≡ m % 2 - b % 2 = omega arith in
    by_parity m
    (λ p. rw (gather_even k (m - b) m p, gather_even k b m p, e, ones_even m p) r)
    (λ p.
    let o : ones m ≡ suc (ones (m / 2)) = ones_odd m p ∙ omega arith in
    let q = pow_more (ones (m / 2)) in
    rw (gather_odd k (m - b) m p, gather_odd k b m p, e, z, o) (omega arith))

-- a number inside m shares no bit with those outside m
pub outside_unshared : (k a m : ℕ) → m < 2 ^ k → bit_and a m ≡ a → bit_and a (2 ^ k - 1 - m) ≡ 0
outside_unshared zero a m h i = let z : a ≡ 0 = (let le = inside_le a m i in omega arith) in rw z
outside_unshared (suc k) a m h i =
    let low = inside_low a m i in
    let half = inside_half a m i in
    let r = outside_unshared k (a / 2) (m / 2) (half_below k m h) half in
    let p2 = pow_more k in
    let e : (2 ^ suc k - 1 - m) / 2 ≡ 2 ^ k - 1 - m / 2 = omega arith in
    let z : (2 ^ suc k - 1 - m) % 2 ≡ 1 - m % 2 = omega arith in
    rw (and_step a (2 ^ suc k - 1 - m), e, z, r) (omega arith)

-- so that the two together are their sum
pub filled : (k a m : ℕ) → m < 2 ^ k → bit_and a m ≡ a → bit_or a (2 ^ k - 1 - m) ≡ a + (2 ^ k - 1 - m)
filled k a m h i = or_disjoint a (2 ^ k - 1 - m) (outside_unshared k a m h i)

-- j positions, and then k more: the lower ones take as many bits of n as m has one-bits there
pub spread_split : (j k n m : ℕ) → spread_over (j + k) n m ≡ spread_over j n (m % 2 ^ j) + 2 ^ j * spread_over k (n / 2 ^ ones (m % 2 ^ j)) (m / 2 ^ j)
spread_split zero k n m =
    let e : 0 + k ≡ k = omega arith in
    let z : m % 2 ^ 0 ≡ 0 = omega arith in
    rw (e, z, spread_none n 0, ones_none, div-one n, div-one m) (omega arith)
spread_split (suc j) k n m =
    let e : suc j + k ≡ suc (j + k) = omega arith in
    let one : suc j ≡ j + 1 = omega arith in
    let half : m % 2 ^ suc j / 2 ≡ m / 2 % 2 ^ j = rw one (field m j 1) in
    let low : m % 2 ^ suc j % 2 ≡ m % 2 = rw one (mod-mod-pow m j 1) in
    let high : m / 2 ^ suc j ≡ m / 2 / 2 ^ j = sym (shr_more m j) in
    by_parity m
    (λ p.
    let q : m % 2 ^ suc j % 2 ≡ 0 = omega arith in
    let r = spread_split j k n (m / 2) in
    rw (e, spread_even (j + k) n m p, spread_even j n (m % 2 ^ suc j) q, ones_even (m % 2 ^ suc j) q, half, high, r, pow_more j) (omega arith))
    (λ p.
    let q : m % 2 ^ suc j % 2 ≡ 1 = omega arith in
    let r = spread_split j k (n / 2) (m / 2) in
    let w : ones (m % 2 ^ suc j) ≡ suc (ones (m / 2 % 2 ^ j)) = ones_odd (m % 2 ^ suc j) q ∙ rw half (omega arith) in
    let d = shr_more n (ones (m / 2 % 2 ^ j)) in
    rw (e, spread_odd (j + k) n m p, spread_odd j n (m % 2 ^ suc j) q, w, ← d, half, high, r, pow_more j) (omega arith))
