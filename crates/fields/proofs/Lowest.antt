-- The lowest one-bits of a mask: how many they are, and what is spread under them.
use Rattle.std.proofs.Common.{◌≡◌, ℕ, zero, suc, ◌+◌, ◌-◌, ◌*◌, ◌/◌, ◌%◌, ◌^◌, ◌<◌, ◌≤◌, min, sym, ap, ◌∙◌, arith, pow_pos}
use lib.Bits.{bit_and, and_step}
use lib.Count.{ones, ones-le}
use Rattle.fields.specs.Fields.{spread, spread_over}
use Rattle.fields.proofs.Spreads.{by_parity, pow_more, half_below, spread_none, spread_zero, spread_even, spread_odd, ones_even, ones_odd}

-- w + 1 one-bits have w above the lowest
all_half : (w : ℕ) → (2 ^ suc w - 1) / 2 ≡ 2 ^ w - 1
all_half w = let p = pow_pos w in rw (pow_more w) (omega arith)

all_odd : (w : ℕ) → (2 ^ suc w - 1) % 2 ≡ 1
all_odd w = let p = pow_pos w in rw (pow_more w) (omega arith)

pub ones_none : ones 0 ≡ 0
ones_none = let le = ones-le 0 0 (omega arith) in omega arith

ones_twice : (s : ℕ) → ones (2 * s) ≡ ones s
ones_twice s =
    let e : (2 * s) / 2 ≡ s = omega arith in
    ones_even (2 * s) (omega arith) ∙ ap ones e

ones_twice_one : (s : ℕ) → ones (2 * s + 1) ≡ suc (ones s)
ones_twice_one s =
    let e : (2 * s + 1) / 2 ≡ s = omega arith in
    ones_odd (2 * s + 1) (omega arith) ∙ rw e (omega arith)

-- the w + 1 lowest one-bits of an odd m: bit 0, and the w lowest of the half
spread_all_odd : (k w m : ℕ) → m % 2 ≡ 1 → spread_over (suc k) (2 ^ suc w - 1) m ≡ 2 * spread_over k (2 ^ w - 1) (m / 2) + 1
spread_all_odd k w m p = rw (spread_odd k (2 ^ suc w - 1) m p, all_half w, all_odd w)

-- the w lowest one-bits of m are w many
pub spread_over_ones : (k w m : ℕ) → m < 2 ^ k → w ≤ ones m → ones (spread_over k (2 ^ w - 1) m) ≡ w
spread_over_ones zero w m h l =
    let le = ones-le 0 m h in
    let z : w ≡ 0 = omega arith in
    rw (spread_none (2 ^ w - 1) m, z) ones_none
spread_over_ones (suc k) zero m h l = rw (spread_zero (suc k) m) ones_none
spread_over_ones (suc k) (suc w) m h l =
    by_parity m
    (λ p.
    let r = spread_over_ones k (suc w) (m / 2) (half_below k m h) (rw (ones_even m p) at l) in
    rw (spread_even k (2 ^ suc w - 1) m p, ones_twice (spread_over k (2 ^ suc w - 1) (m / 2))) r)
    (λ p.
    let o = ones_odd m p in
    let r = spread_over_ones k w (m / 2) (half_below k m h) (omega arith) in
    rw (spread_all_odd k w m p, ones_twice_one (spread_over k (2 ^ w - 1) (m / 2)), r))

-- a number below 2^w is spread under the w lowest one-bits of m as it is under m
pub spread_over_lowest : (k n w m : ℕ) → n < 2 ^ w → spread_over k n (spread_over k (2 ^ w - 1) m) ≡ spread_over k n m
spread_over_lowest zero n w m h = rw (spread_none n (spread_over 0 (2 ^ w - 1) m), spread_none n m)
spread_over_lowest (suc k) n zero m h =
    let z : n ≡ 0 = omega arith in
    rw (z, spread_zero (suc k) (spread_over (suc k) (2 ^ 0 - 1) m), spread_zero (suc k) m)
spread_over_lowest (suc k) n (suc w) m h =
    by_parity m
    (λ p.
    let r = spread_over_lowest k n (suc w) (m / 2) h in
    let e : (2 * spread_over k (2 ^ suc w - 1) (m / 2)) / 2 ≡ spread_over k (2 ^ suc w - 1) (m / 2) = omega arith in
    let z : (2 * spread_over k (2 ^ suc w - 1) (m / 2)) % 2 ≡ 0 = omega arith in
    rw (spread_even k (2 ^ suc w - 1) m p, spread_even k n (2 * spread_over k (2 ^ suc w - 1) (m / 2)) z, e, r, spread_even k n m p))
    (λ p.
    let r = spread_over_lowest k (n / 2) w (m / 2) (half_below w n h) in
    let e : (2 * spread_over k (2 ^ w - 1) (m / 2) + 1) / 2 ≡ spread_over k (2 ^ w - 1) (m / 2) = omega arith in
    let z : (2 * spread_over k (2 ^ w - 1) (m / 2) + 1) % 2 ≡ 1 = omega arith in
    rw (spread_all_odd k w m p, spread_odd k n (2 * spread_over k (2 ^ w - 1) (m / 2) + 1) z, e, r, spread_odd k n m p))

-- what is spread under masks that share no bit shares none
pub spread_over_unshared : (k v w y x : ℕ) → bit_and y x ≡ 0 → bit_and (spread_over k v y) (spread_over k w x) ≡ 0
spread_over_unshared zero v w y x d = rw (spread_none v y)
spread_over_unshared (suc k) v w y x d =
    let half : bit_and (y / 2) (x / 2) ≡ 0 = (let s = and_step y x in omega arith) in
    let low : min (y % 2) (x % 2) ≡ 0 = (let s = and_step y x in omega arith) in
    by_parity y
    (λ p.
    let a : spread_over (suc k) v y / 2 ≡ spread_over k v (y / 2) = rw (spread_even k v y p) (omega arith) in
    let az : spread_over (suc k) v y % 2 ≡ 0 = rw (spread_even k v y p) (omega arith) in
    by_parity x
    (λ q.
    let r = spread_over_unshared k v w (y / 2) (x / 2) half in
    let b : spread_over (suc k) w x / 2 ≡ spread_over k w (x / 2) = rw (spread_even k w x q) (omega arith) in
    rw (and_step (spread_over (suc k) v y) (spread_over (suc k) w x), a, b, az, r) (omega arith))
    (λ q.
    let r = spread_over_unshared k v (w / 2) (y / 2) (x / 2) half in
    let b : spread_over (suc k) w x / 2 ≡ spread_over k (w / 2) (x / 2) = rw (spread_odd k w x q) (omega arith) in
    rw (and_step (spread_over (suc k) v y) (spread_over (suc k) w x), a, b, az, r) (omega arith)))
    (λ p.
    let a : spread_over (suc k) v y / 2 ≡ spread_over k (v / 2) (y / 2) = rw (spread_odd k v y p) (omega arith) in
    by_parity x
    (λ q.
    let r = spread_over_unshared k (v / 2) w (y / 2) (x / 2) half in
    let b : spread_over (suc k) w x / 2 ≡ spread_over k w (x / 2) = rw (spread_even k w x q) (omega arith) in
    let bz : spread_over (suc k) w x % 2 ≡ 0 = rw (spread_even k w x q) (omega arith) in
    rw (and_step (spread_over (suc k) v y) (spread_over (suc k) w x), a, b, bz, r) (omega arith))
    (λ q. absurd (omega arith)))

-- all one-bits of m are m
pub spread_over_whole : (k m : ℕ) → m < 2 ^ k → spread_over k (2 ^ ones m - 1) m ≡ m
spread_over_whole zero m h = let z : m ≡ 0 = omega arith in rw (spread_none (2 ^ ones m - 1) m) (sym z)
spread_over_whole (suc k) m h =
    let r = spread_over_whole k (m / 2) (half_below k m h) in
    by_parity m
    (λ p. rw (spread_even k (2 ^ ones m - 1) m p, ones_even m p, r) (omega arith))
    (λ p.
    let e : ones m ≡ suc (ones (m / 2)) = ones_odd m p ∙ omega arith in
    let t : 2 * spread_over k (2 ^ ones (m / 2) - 1) (m / 2) + 1 ≡ m = rw r (omega arith) in
    rw (e, spread_all_odd k (ones (m / 2)) m p) t)

-- the same at the 32 positions of a mask
pub spread_ones : (w m : ℕ) → m < 2 ^ 32 → w ≤ ones m → ones (spread (2 ^ w - 1) m) ≡ w
unfolding spread
spread_ones w m h l = spread_over_ones 32 w m h l

pub spread_lowest_same : (n w m : ℕ) → m < 2 ^ 32 → w ≤ ones m → n < 2 ^ w → spread n (spread (2 ^ w - 1) m) ≡ spread n m
unfolding spread
spread_lowest_same n w m _ _ h = spread_over_lowest 32 n w m h

pub lowest_unshared : (v w y x : ℕ) → bit_and y x ≡ 0 → bit_and (spread v y) (spread w x) ≡ 0
unfolding spread
lowest_unshared v w y x d = spread_over_unshared 32 v w y x d

-- all one-bits of a mask are the mask
pub spread_whole : (m : ℕ) → m < 2 ^ 32 → spread (2 ^ ones m - 1) m ≡ m
unfolding spread
spread_whole m h = spread_over_whole 32 m h
