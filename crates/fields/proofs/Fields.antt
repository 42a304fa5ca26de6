-- Spread and gather at the 32 positions of a mask: what the crates above rest on.
use Rattle.std.proofs.Common.{◌≡◌, ℕ, ◌+◌, ◌-◌, ◌*◌, ◌/◌, ◌%◌, ◌^◌, ◌<◌, ◌≤◌, sym, ap, ◌∙◌, arith}
use lib.Bits.{bit_and}
use lib.Count.{ones}
use Rattle.fields.specs.Fields.{spread, gather, Spread, Undone}
use Rattle.fields.proofs.Spreads as over

pub spread_of_zero : (m : ℕ) → spread 0 m ≡ 0
unfolding spread
spread_of_zero m = over.spread_zero 32 m

pub spread_le : (n m : ℕ) → spread n m ≤ m
unfolding spread
spread_le n m = over.spread_le 32 n m

pub spread_inside : (n m : ℕ) → bit_and (spread n m) m ≡ spread n m
unfolding spread
spread_inside n m = over.spread_inside 32 n m

pub spread_lowest : (n m : ℕ) → m < 2 ^ 32 → 0 < m → spread n m ≡ (n % 2) * (m - over.cleared m) + spread (n / 2) (over.cleared m)
unfolding spread
spread_lowest n m h p = over.spread_lowest 32 n m h p

pub gather_spread : (n m : ℕ) → m < 2 ^ 32 → n < 2 ^ ones m → gather (spread n m) m ≡ n
unfolding spread gather
gather_spread n m h l = over.gather_spread 32 n m h l

pub spread_gather : (v m : ℕ) → m < 2 ^ 32 → spread (gather v m) m ≡ bit_and v m
unfolding spread gather
spread_gather v m h = over.spread_gather 32 v m h

pub gather_even : (v m : ℕ) → m < 2 ^ 32 → m % 2 ≡ 0 → gather v m ≡ gather (v / 2) (m / 2)
unfolding gather
gather_even v m h p = over.gather_even 31 v m p ∙ sym (over.gather_longer 31 (v / 2) (m / 2) (omega arith))

pub gather_odd : (v m : ℕ) → m < 2 ^ 32 → m % 2 ≡ 1 → gather v m ≡ 2 * gather (v / 2) (m / 2) + v % 2
unfolding gather
gather_odd v m h p = over.gather_odd 31 v m p ∙ ap (λ g. 2 * g + v % 2) (sym (over.gather_longer 31 (v / 2) (m / 2) (omega arith)))

pub gather_below : (v m : ℕ) → m < 2 ^ 32 → gather v m < 2 ^ ones m
unfolding gather
gather_below v m h = over.gather_below 32 v m h

pub spread_mono : (a b m : ℕ) → m < 2 ^ 32 → a < b → b < 2 ^ ones m → spread a m < spread b m
unfolding spread
spread_mono a b m h l r = over.spread_mono 32 a b m h l r

pub spread_part : (i j y x : ℕ) → bit_and y x ≡ 0 → bit_and (spread i y + spread j x) y ≡ spread i y
unfolding spread
spread_part i j y x d = over.spread_part 32 i j y x d

pub spread_law : (n m : ℕ) → m < 2 ^ 32 → Spread n m (spread n m)
unfolding spread
spread_law n m h = (let le = over.spread_le 32 n m in omega arith, λ p l. over.spread_bits 32 p n m l)

-- no two numbers with room are spread to one
pub spread_same : (a b m : ℕ) → m < 2 ^ 32 → a < 2 ^ ones m → b < 2 ^ ones m → spread a m ≡ spread b m → a ≡ b
spread_same a b m h l r e = sym (gather_spread a m h l) ∙ ap (λ v. gather v m) e ∙ gather_spread b m h r

pub undone : (m : ℕ) → m < 2 ^ 32 → Undone m
undone m h = record {
  gathered = λ n l. gather_spread n m h l;
  spread_again = λ v e. spread_gather v m h ∙ e;
}
