-- Powers of four.
use Rattle.std.proofs.Common.{◌≡◌, ℕ, zero, suc, ◌+◌, ◌-◌, ◌*◌, ◌/◌, ◌^◌, ◌<◌, ◌≤◌, refl, pow-suc, arith}
use native.Mathlib.Nat.{pow-le-pow_right}

pub pow_more : (l : ℕ) → 4 ^ (l + 1) ≡ 4 * 4 ^ l
pow_more l = let e : l + 1 ≡ suc l = omega arith in rw (e, pow-suc 4 l) (omega arith)

-- one less is a multiple of 3
pub pow_third : (l : ℕ) → (t : ℕ) × (4 ^ l ≡ 3 * t + 1)
pow_third zero = (0, refl)
pow_third (suc l) = let r = pow_third l in let e : 4 ^ l ≡ 3 * r.0 + 1 = r.1 in (4 * r.0 + 1, rw (pow-suc 4 l) (omega arith))

-- so a level has one block more than three times all levels above it
pub level_third : (l : ℕ) → 4 ^ l ≡ 3 * ((4 ^ l - 1) / 3) + 1
level_third l = let r = pow_third l in let e : 4 ^ l ≡ 3 * r.0 + 1 = r.1 in omega arith

pub level_more : (l : ℕ) → (4 ^ (l + 1) - 1) / 3 ≡ (4 ^ l - 1) / 3 + 4 ^ l
level_more l = let p = pow_more l in let r = pow_third l in let e : 4 ^ l ≡ 3 * r.0 + 1 = r.1 in omega arith

pub pow_above : (l k : ℕ) → l < k → 4 * 4 ^ l ≤ 4 ^ k
pow_above l k h =
    let le : l + 1 ≤ k = omega arith in
    let pos : 0 < 4 = omega arith in
    let p : 4 ^ (l + 1) ≤ 4 ^ k = pow-le-pow_right pos le in
    let e = pow_more l in
    omega arith

pub pow_small : (l : ℕ) → l ≤ 12 → 4 ^ l ≤ 4 ^ 12
pow_small l h = let pos : 0 < 4 = omega arith in pow-le-pow_right pos h
