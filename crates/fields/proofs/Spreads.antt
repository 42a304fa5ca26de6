-- Spread and gather, over any number of positions.
use Rattle.std.proofs.Common.{◌≡◌, ℕ, zero, suc, ◌+◌, ◌-◌, ◌*◌, ◌/◌, ◌%◌, ◌^◌, ◌<◌, ◌≤◌, min, sym, refl, ◌∙◌, ⊎_elim, pow-suc, div-one, arith, pow_pos, shr-shr}
use lib.Bits.{bit_and, and_step, and_self, and_comm, and_le_l}
use lib.Count.{ones, ones_step, ones-le}
use lib.Pow.{mod-mod-pow, field}
use Rattle.std.proofs.lemmas.Bool.{cases_lt}
use Rattle.fields.specs.Fields.{by_bit, spread_over, gather_over, bit, ones_below}

-- the lowest bit is 0 or 1
pub by_parity : {P : Type 0} (m : ℕ) → (m % 2 ≡ 0 → P) → (m % 2 ≡ 1 → P) → P
by_parity m e o = ⊎_elim (λ h. e (omega arith)) (λ h. o (omega arith)) (cases_lt (m % 2) 1)

module _ (k n m : ℕ) where
  pub spread_even : m % 2 ≡ 0 → spread_over (suc k) n m ≡ 2 * spread_over k n (m / 2)
  unfolding spread_over
  spread_even h = rw h

  pub spread_odd : m % 2 ≡ 1 → spread_over (suc k) n m ≡ 2 * spread_over k (n / 2) (m / 2) + n % 2
  unfolding spread_over
  spread_odd h = rw h

  pub gather_even : m % 2 ≡ 0 → gather_over (suc k) n m ≡ gather_over k (n / 2) (m / 2)
  unfolding gather_over
  gather_even h = rw h

  pub gather_odd : m % 2 ≡ 1 → gather_over (suc k) n m ≡ 2 * gather_over k (n / 2) (m / 2) + n % 2
  unfolding gather_over
  gather_odd h = rw h

pub spread_none : (n m : ℕ) → spread_over 0 n m ≡ 0
unfolding spread_over
spread_none n m = refl

pub gather_none : (v m : ℕ) → gather_over 0 v m ≡ 0
unfolding gather_over
gather_none v m = refl

pub pow_more : (k : ℕ) → 2 ^ suc k ≡ 2 * 2 ^ k
pow_more k = rw (pow-suc 2 k) (omega arith)

pub half_below : (k m : ℕ) → m < 2 ^ suc k → m / 2 < 2 ^ k
half_below k m h = let p = pow_more k in omega arith

pub ones_even : (m : ℕ) → m % 2 ≡ 0 → ones m ≡ ones (m / 2)
ones_even m h = let s = ones_step m in omega arith

pub ones_odd : (m : ℕ) → m % 2 ≡ 1 → ones m ≡ ones (m / 2) + 1
ones_odd m h = let s = ones_step m in omega arith

-- a number below 2^(w + 1) has a half below 2^w
below_odd : (n m : ℕ) → m % 2 ≡ 1 → n < 2 ^ ones m → n / 2 < 2 ^ ones (m / 2)
below_odd n m h l =
    let e : ones m ≡ suc (ones (m / 2)) = ones_odd m h ∙ omega arith in
    half_below (ones (m / 2)) n (rw e at l)

-- under the empty mask only 0 has room
pub below_none : (n m : ℕ) → m < 2 ^ 0 → n < 2 ^ ones m → n ≡ 0
below_none n m h l =
    let le = ones-le 0 m h in
    let e : ones m ≡ 0 = omega arith in
    let r : n < 2 ^ 0 = rw e at l in
    omega arith

-- nothing is spread of nothing
pub spread_zero : (k m : ℕ) → spread_over k 0 m ≡ 0
spread_zero zero m = spread_none 0 m
spread_zero (suc k) m =
    by_parity m
    (λ h. rw (spread_even k 0 m h, spread_zero k (m / 2)))
    (λ h. rw (spread_odd k 0 m h, spread_zero k (m / 2)))

-- what is spread under m is at most m
pub spread_le : (k n m : ℕ) → spread_over k n m ≤ m
spread_le zero n m = rw (spread_none n m) (omega arith)
spread_le (suc k) n m =
    by_parity m
    (λ h. let r = spread_le k n (m / 2) in rw (spread_even k n m h) (omega arith))
    (λ h. let r = spread_le k (n / 2) (m / 2) in rw (spread_odd k n m h) (omega arith))

-- it has no bit outside m
pub spread_inside : (k n m : ℕ) → bit_and (spread_over k n m) m ≡ spread_over k n m
spread_inside zero n m = rw (spread_none n m)
spread_inside (suc k) n m =
    by_parity m
    (λ h.
    let s = spread_over k n (m / 2) in
    let r = spread_inside k n (m / 2) in
    let e : spread_over (suc k) n m / 2 ≡ s = rw (spread_even k n m h) (omega arith) in
    let z : spread_over (suc k) n m % 2 ≡ 0 = rw (spread_even k n m h) (omega arith) in
    rw (and_step (spread_over (suc k) n m) m, e, z, h, r, spread_even k n m h) (omega arith))
    (λ h.
    let s = spread_over k (n / 2) (m / 2) in
    let r = spread_inside k (n / 2) (m / 2) in
    let e : spread_over (suc k) n m / 2 ≡ s = rw (spread_odd k n m h) (omega arith) in
    let z : spread_over (suc k) n m % 2 ≡ n % 2 = rw (spread_odd k n m h) (omega arith) in
    rw (and_step (spread_over (suc k) n m) m, e, z, h, r, spread_odd k n m h) (omega arith))

-- gather undoes spread
pub gather_spread : (k n m : ℕ) → m < 2 ^ k → n < 2 ^ ones m → gather_over k (spread_over k n m) m ≡ n
gather_spread zero n m h l =
    rw (spread_none n m, gather_none 0 m) (sym (below_none n m h l))
gather_spread (suc k) n m h l =
    by_parity m
    (λ p.
    let r = gather_spread k n (m / 2) (half_below k m h) (rw (ones_even m p) at l) in
    let e : spread_over (suc k) n m / 2 ≡ spread_over k n (m / 2) = rw (spread_even k n m p) (omega arith) in
    rw (gather_even k (spread_over (suc k) n m) m p, e, r))
    (λ p.
    let r = gather_spread k (n / 2) (m / 2) (half_below k m h) (below_odd n m p l) in
    let e : spread_over (suc k) n m / 2 ≡ spread_over k (n / 2) (m / 2) = rw (spread_odd k n m p) (omega arith) in
    let z : spread_over (suc k) n m % 2 ≡ n % 2 = rw (spread_odd k n m p) (omega arith) in
    rw (gather_odd k (spread_over (suc k) n m) m p, e, z, r) (omega arith))

-- spread undoes gather, but for the bits outside m
pub spread_gather : (k v m : ℕ) → m < 2 ^ k → spread_over k (gather_over k v m) m ≡ bit_and v m
spread_gather zero v m h = let z : m ≡ 0 = omega arith in rw (spread_none (gather_over 0 v m) m, z, and_comm v 0)
spread_gather (suc k) v m h =
    by_parity m
    (λ p.
    let r = spread_gather k (v / 2) (m / 2) (half_below k m h) in
    rw (gather_even k v m p, spread_even k (gather_over k (v / 2) (m / 2)) m p, r, and_step v m, p) (omega arith))
    (λ p.
    let r = spread_gather k (v / 2) (m / 2) (half_below k m h) in
    let g = gather_over (suc k) v m in
    let e : gather_over (suc k) v m / 2 ≡ gather_over k (v / 2) (m / 2) = rw (gather_odd k v m p) (omega arith) in
    let z : gather_over (suc k) v m % 2 ≡ v % 2 = rw (gather_odd k v m p) (omega arith) in
    rw (spread_odd k (gather_over (suc k) v m) m p, e, z, r, and_step v m, p) (omega arith))

-- positions above the mask add nothing
pub gather_longer : (k v m : ℕ) → m < 2 ^ k → gather_over (suc k) v m ≡ gather_over k v m
gather_longer zero v m h =
    let e : m % 2 ≡ 0 = omega arith in
    rw (gather_even 0 v m e, gather_none (v / 2) (m / 2), gather_none v m)
gather_longer (suc k) v m h =
    let r = gather_longer k (v / 2) (m / 2) (half_below k m h) in
    by_parity m
    (λ p. rw (gather_even (suc k) v m p, gather_even k v m p, r))
    (λ p. rw (gather_odd (suc k) v m p, gather_odd k v m p, r))

-- what is gathered under m has room there
pub gather_below : (k v m : ℕ) → m < 2 ^ k → gather_over k v m < 2 ^ ones m
gather_below zero v m h = rw (gather_none v m) (pow_pos (ones m))
gather_below (suc k) v m h =
    by_parity m
    (λ p. rw (gather_even k v m p, ones_even m p) (gather_below k (v / 2) (m / 2) (half_below k m h)))
    (λ p.
    let r = gather_below k (v / 2) (m / 2) (half_below k m h) in
    let e : ones m ≡ suc (ones (m / 2)) = ones_odd m p ∙ omega arith in
    let q = pow_more (ones (m / 2)) in
    rw (gather_odd k v m p, e) (omega arith))

-- the larger number is spread to the larger
pub spread_mono : (k a b m : ℕ) → m < 2 ^ k → a < b → b < 2 ^ ones m → spread_over k a m < spread_over k b m
spread_mono zero a b m h l r =
    let z = below_none b m h r in
    absurd (omega arith)
spread_mono (suc k) a b m h l r =
    by_parity m
    (λ p.
    let i = spread_mono k a b (m / 2) (half_below k m h) l (rw (ones_even m p) at r) in
    rw (spread_even k a m p, spread_even k b m p) (omega arith))
    (λ p.
    ⊎_elim
    (λ q.
    let i = spread_mono k (a / 2) (b / 2) (m / 2) (half_below k m h) q (below_odd b m p r) in
    rw (spread_odd k a m p, spread_odd k b m p) (omega arith))
    (λ q.
    let e : a / 2 ≡ b / 2 = (let up : b / 2 ≤ a / 2 = q in omega arith) in
    rw (spread_odd k a m p, spread_odd k b m p, e) (omega arith))
    (cases_lt (a / 2) (b / 2)))

-- two numbers that are spread under masks that share no bit: each mask finds its own again
pub spread_part : (k i j y x : ℕ) → bit_and y x ≡ 0 → bit_and (spread_over k i y + spread_over k j x) y ≡ spread_over k i y
spread_part zero i j y x d = rw (spread_none i y, spread_none j x)
spread_part (suc k) i j y x d =
    let half : bit_and (y / 2) (x / 2) ≡ 0 = (let s = and_step y x in omega arith) in
    let low : min (y % 2) (x % 2) ≡ 0 = (let s = and_step y x in omega arith) in
    by_parity y
    (λ p.
    by_parity x
    (λ q.
    let r = spread_part k i j (y / 2) (x / 2) half in
    let t : spread_over (suc k) i y + spread_over (suc k) j x ≡ 2 * (spread_over k i (y / 2) + spread_over k j (x / 2)) = rw (spread_even k i y p, spread_even k j x q) (omega arith) in
    let e : (spread_over (suc k) i y + spread_over (suc k) j x) / 2 ≡ spread_over k i (y / 2) + spread_over k j (x / 2) = omega arith in
    rw (and_step (spread_over (suc k) i y + spread_over (suc k) j x) y, e, r, p, spread_even k i y p) (omega arith))
    (λ q.
    let r = spread_part k i (j / 2) (y / 2) (x / 2) half in
    let t : spread_over (suc k) i y + spread_over (suc k) j x ≡ 2 * (spread_over k i (y / 2) + spread_over k (j / 2) (x / 2)) + j % 2 = rw (spread_even k i y p, spread_odd k j x q) (omega arith) in
    let e : (spread_over (suc k) i y + spread_over (suc k) j x) / 2 ≡ spread_over k i (y / 2) + spread_over k (j / 2) (x / 2) = omega arith in
    rw (and_step (spread_over (suc k) i y + spread_over (suc k) j x) y, e, r, p, spread_even k i y p) (omega arith)))
    (λ p.
    by_parity x
    (λ q.
    let r = spread_part k (i / 2) j (y / 2) (x / 2) half in
    let t : spread_over (suc k) i y + spread_over (suc k) j x ≡ 2 * (spread_over k (i / 2) (y / 2) + spread_over k j (x / 2)) + i % 2 = rw (spread_odd k i y p, spread_even k j x q) (omega arith) in
    let e : (spread_over (suc k) i y + spread_over (suc k) j x) / 2 ≡ spread_over k (i / 2) (y / 2) + spread_over k j (x / 2) = omega arith in
    let z : (spread_over (suc k) i y + spread_over (suc k) j x) % 2 ≡ i % 2 = omega arith in
    rw (and_step (spread_over (suc k) i y + spread_over (suc k) j x) y, e, z, r, p, spread_odd k i y p) (omega arith))
    (λ q. absurd (omega arith)))

-- the mask without its lowest one-bit, as the machine finds it
abbrev pub cleared : ℕ → ℕ
cleared m = bit_and m (m - 1)

cleared_odd : (m : ℕ) → m % 2 ≡ 1 → cleared m ≡ m - 1
cleared_odd m p =
    let e : (m - 1) / 2 ≡ m / 2 = omega arith in
    let z : (m - 1) % 2 ≡ 0 = omega arith in
    rw (and_step m (m - 1), e, z, and_self (m / 2)) (omega arith)

cleared_even : (m : ℕ) → m % 2 ≡ 0 → 0 < m → cleared m ≡ 2 * cleared (m / 2)
cleared_even m p h =
    let e : (m - 1) / 2 ≡ m / 2 - 1 = omega arith in
    rw (and_step m (m - 1), e, p) (omega arith)

pub cleared_le : (m : ℕ) → cleared m ≤ m
cleared_le m = and_le_l m (m - 1)

-- the lowest bit of n goes to the lowest one-bit, the others to the mask without it
pub spread_lowest : (k n m : ℕ) → m < 2 ^ k → 0 < m → spread_over k n m ≡ (n % 2) * (m - cleared m) + spread_over k (n / 2) (cleared m)
spread_lowest zero n m h p = absurd (omega arith)
spread_lowest (suc k) n m h p =
    by_parity m
    (λ q.
    let r = spread_lowest k n (m / 2) (half_below k m h) (omega arith) in
    let c = cleared_even m q p in
    let z : cleared m % 2 ≡ 0 = omega arith in
    let e : cleared m / 2 ≡ cleared (m / 2) = omega arith in
    let le = cleared_le (m / 2) in
    let d : m - cleared m ≡ 2 * (m / 2 - cleared (m / 2)) = omega arith in
    rw (spread_even k n m q, spread_even k (n / 2) (cleared m) z, e, d, r) (omega arith))
    (λ q.
    let c = cleared_odd m q in
    let z : cleared m % 2 ≡ 0 = omega arith in
    let e : cleared m / 2 ≡ m / 2 = omega arith in
    let d : m - cleared m ≡ 1 = omega arith in
    rw (spread_odd k n m q, spread_even k (n / 2) (cleared m) z, e, d) (omega arith))

-- one one-bit fewer
pub ones_cleared : (k m : ℕ) → m < 2 ^ k → 0 < m → ones m ≡ ones (cleared m) + 1
ones_cleared zero m h p = absurd (omega arith)
ones_cleared (suc k) m h p =
    by_parity m
    (λ q.
    let r = ones_cleared k (m / 2) (half_below k m h) (omega arith) in
    let c = cleared_even m q p in
    let z : cleared m % 2 ≡ 0 = omega arith in
    let e : cleared m / 2 ≡ cleared (m / 2) = omega arith in
    rw (ones_even m q, ones_even (cleared m) z, e) r)
    (λ q.
    let c = cleared_odd m q in
    let z : cleared m % 2 ≡ 0 = omega arith in
    let e : cleared m / 2 ≡ m / 2 = omega arith in
    rw (ones_odd m q, ones_even (cleared m) z, e))

-- bits, one position up
bit_more : (p n : ℕ) → bit (suc p) n ≡ bit p (n / 2)
bit_more p n = let e : 2 ^ suc p ≡ 2 * 2 ^ p = pow_more p in let d = shr-shr n 1 p in rw d (let o : 1 + p ≡ suc p = omega arith in rw o)

ones_below_more : (p m : ℕ) → ones_below (suc p) m ≡ m % 2 + ones_below p (m / 2)
ones_below_more p m =
    let e : suc p ≡ p + 1 = omega arith in
    let s = ones_step (m % 2 ^ (p + 1)) in
    rw (e, s, mod-mod-pow m p 1, field m p 1)

bit_none : (n : ℕ) → bit 0 n ≡ n % 2
bit_none n = rw (div-one n)

-- each bit of what is spread: 0 at a zero-bit of m, and at a one-bit the bit of n whose number is how many
-- one-bits m has below
pub spread_bits : (k p n m : ℕ) → p < k → bit p (spread_over k n m) ≡ by_bit (bit p m) 0 (bit (ones_below p m) n)
spread_bits zero p n m h = absurd (omega arith)
spread_bits (suc k) zero n m h =
    let o : ones_below 0 m ≡ 0 = (let le = ones-le 0 (m % 2 ^ 0) (omega arith) in omega arith) in
    by_parity m
    (λ q. rw (bit_none m, q, bit_none (spread_over (suc k) n m), spread_even k n m q) (omega arith))
    (λ q. rw (bit_none m, q, o, bit_none (spread_over (suc k) n m), bit_none n, spread_odd k n m q) (omega arith))
spread_bits (suc k) (suc p) n m h =
    by_parity m
    (λ q.
    let r = spread_bits k p n (m / 2) (omega arith) in
    let e : spread_over (suc k) n m / 2 ≡ spread_over k n (m / 2) = rw (spread_even k n m q) (omega arith) in
    let o : ones_below (suc p) m ≡ ones_below p (m / 2) = (let s = ones_below_more p m in omega arith) in
    rw (bit_more p (spread_over (suc k) n m), e, bit_more p m, o) r)
    (λ q.
    let r = spread_bits k p (n / 2) (m / 2) (omega arith) in
    let e : spread_over (suc k) n m / 2 ≡ spread_over k (n / 2) (m / 2) = rw (spread_odd k n m q) (omega arith) in
    let o : ones_below (suc p) m ≡ suc (ones_below p (m / 2)) = (let s = ones_below_more p m in omega arith) in
    rw (bit_more p (spread_over (suc k) n m), e, bit_more p m, o, bit_more (ones_below p (m / 2)) n) r)
