-- What one turn of the loops of spread and of gather keeps.
use Rattle.std.proofs.Common.{◌≡◌, ℕ, suc, ◌+◌, ◌-◌, ◌*◌, ◌/◌, ◌%◌, ◌^◌, ◌<◌, ◌≤◌, ◌∙◌, sym, ap, ⊎_elim, one-mul, pow-suc, zero-mul, arith, pow_mono}
use lib.Count.{ones, ones-le}
use Rattle.std.proofs.lemmas.Bool.{cases_lt}
use Rattle.std.proofs.Math.Nat.{div-div-eq-div-mul, div-eq_of_lt, div-le_self}
use Rattle.fields.specs.Fields.{spread, gather}
use Rattle.fields.proofs.Spreads.{cleared, cleared_le, ones_cleared, below_none}
use Rattle.fields.proofs.Fields.{spread_lowest, spread_le, spread_of_zero, gather_even, gather_odd, gather_below}

-- out is spread already, and bits is left to spread under left
abbrev pub Spreading : ℕ → ℕ → ℕ → ℕ → ℕ → Type 0
Spreading n mask out bits left = (out + spread bits left ≡ spread n mask) × (bits < 2 ^ ones left) × (left ≤ mask)

-- bits that are left have a one-bit to go to
pub some_left : (bits left : ℕ) → bits < 2 ^ ones left → 0 < bits → 0 < left
some_left bits left h p = ⊎_elim (λ l. l) (λ l. absurd (let z = below_none bits left (omega arith) h in omega arith)) (cases_lt 0 left)

spread_turn : (n mask out bits left : ℕ) → mask < 2 ^ 32 → 0 < bits → Spreading n mask out bits left → Spreading n mask (out + (bits % 2) * (left - cleared left)) (bits / 2) (cleared left)
spread_turn n mask out bits left small p (sum, room, le) =
    let some = some_left bits left room p in
    let s = spread_lowest bits left (omega arith) some in
    let o : ones left ≡ suc (ones (cleared left)) = ones_cleared 32 left (omega arith) some ∙ omega arith in
    let room' : bits < 2 ^ suc (ones (cleared left)) = rw o at room in
    let room'' : bits < 2 ^ ones (cleared left) * 2 = rw (pow-suc 2 (ones (cleared left))) at room' in
    let c = cleared_le left in
    (omega arith, omega arith, omega arith)

pub spread_turn_one : (n mask out bits left : ℕ) → mask < 2 ^ 32 → bits % 2 ≡ 1 → Spreading n mask out bits left → Spreading n mask (out + (left - cleared left)) (bits / 2) (cleared left)
spread_turn_one n mask out bits left small p s =
    let r = spread_turn n mask out bits left small (omega arith) s in
    let e : bits % 2 * (left - cleared left) ≡ left - cleared left = rw p (one-mul (left - cleared left)) in
    rw e at r

pub spread_turn_zero : (n mask out bits left : ℕ) → mask < 2 ^ 32 → 0 < bits → bits % 2 ≡ 0 → Spreading n mask out bits left → Spreading n mask out (bits / 2) (cleared left)
spread_turn_zero n mask out bits left small some p s =
    let r = spread_turn n mask out bits left small some s in
    let e : out + bits % 2 * (left - cleared left) ≡ out = rw (p, zero-mul (left - cleared left)) (omega arith) in
    rw e at r

-- what is out fits
pub spread_fits : (n mask out bits left : ℕ) → mask < 2 ^ 32 → Spreading n mask out bits left → out < 2 ^ 32
spread_fits n mask out bits left small (sum, _, _) = let le = spread_le n mask in omega arith

pub spread_done : (n mask out bits left : ℕ) → bits ≡ 0 → Spreading n mask out bits left → out ≡ spread n mask
spread_done n mask out bits left z (sum, _, _) =
    let none : spread bits left ≡ 0 = rw z (spread_of_zero left) in
    omega arith

-- n from position p on is half of what it is from the position below
halved : (n p : ℕ) → 0 < p → n / 2 ^ p ≡ n / 2 ^ (p - 1) / 2
halved n p some =
    let e : p ≡ suc (p - 1) = omega arith in
    let f : 2 ^ p ≡ 2 ^ (p - 1) * 2 = ap (λ k. 2 ^ k) e ∙ pow-suc 2 (p - 1) in
    rw (f, div-div-eq-div-mul n (2 ^ (p - 1)) 2)

-- nothing is gathered past the width of the mask
pub gather_begin : (v mask w : ℕ) → mask < 2 ^ w → 0 ≡ gather (v / 2 ^ w) (mask / 2 ^ w)
gather_begin v mask w small =
    let none : mask / 2 ^ w ≡ 0 = div-eq_of_lt small in
    let z = below_none (gather (v / 2 ^ w) 0) 0 (omega arith) (gather_below (v / 2 ^ w) 0 (omega arith)) in
    rw (none, z)

-- out is gathered from position p on: so it is one position further down, or it and the bit there are
module _ (v mask out p : ℕ) (small : mask < 2 ^ 32) (some : 0 < p) (gathered : out ≡ gather (v / 2 ^ p) (mask / 2 ^ p)) where
  below : mask / 2 ^ (p - 1) < 2 ^ 32
  below = let le = div-le_self mask (2 ^ (p - 1)) in omega arith

  half : out ≡ gather (v / 2 ^ (p - 1) / 2) (mask / 2 ^ (p - 1) / 2)
  half = rw (halved v p some, halved mask p some) at gathered

  pub gather_zero : (mask / 2 ^ (p - 1) % 2 ≡ 1 → ⊥) → out ≡ gather (v / 2 ^ (p - 1)) (mask / 2 ^ (p - 1))
  gather_zero zero_bit = half ∙ sym (gather_even (v / 2 ^ (p - 1)) (mask / 2 ^ (p - 1)) below (omega (arith, zero_bit)))

  pub gather_one : mask / 2 ^ (p - 1) % 2 ≡ 1 → 2 * out + v / 2 ^ (p - 1) % 2 ≡ gather (v / 2 ^ (p - 1)) (mask / 2 ^ (p - 1))
  gather_one one_bit = ap (λ g. 2 * g + v / 2 ^ (p - 1) % 2) half ∙ sym (gather_odd (v / 2 ^ (p - 1)) (mask / 2 ^ (p - 1)) below one_bit)

  -- what is out then fits
  pub gather_fits : mask / 2 ^ (p - 1) % 2 ≡ 1 → 2 * out + v / 2 ^ (p - 1) % 2 < 2 ^ 32
  gather_fits one_bit =
      let b = gather_below (v / 2 ^ (p - 1)) (mask / 2 ^ (p - 1)) below in
      let w = ones-le 32 (mask / 2 ^ (p - 1)) below in
      let m = pow_mono w in
      let e = gather_one one_bit in
      omega arith
