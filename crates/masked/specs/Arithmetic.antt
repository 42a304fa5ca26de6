-- Arithmetic of numbers under a mask. A number with no bit outside the mask m stands for the one that gather reads
-- off it, which is below 2^w, where w is how many one-bits m has. The arithmetic is that of those numbers, modulo 2^w.
use Rattle.std.specs.Prelude.{◌≡◌, ℕ, ◌+◌, ◌-◌, ◌^◌, ◌<◌, Bool, cond, ◌&&◌, Ok, Err, Result, ◌==◌, count_ones, nat_lt}
use Rattle.fields.specs.Arithmetic.{inside, spread_mod}
use Rattle.fields.specs.Fields.{spread, gather}
use Rattle.masked.specs.declared.refusal.Refusal.{Refusal}
use Rattle.masked.specs.declared.refusal.Refusal.TheVariants.{Field}

-- what each call answers: an operand with a bit outside the mask is refused
abbrev pub sum_answer : ℕ → ℕ → ℕ → Result ℕ Refusal
sum_answer a b m = cond (inside a m && inside b m) (Ok (spread_mod (gather a m + gather b m) m)) (Err Field)

abbrev pub difference_answer : ℕ → ℕ → ℕ → Result ℕ Refusal
difference_answer a b m = cond (inside a m && inside b m) (Ok (spread_mod (gather a m + 2 ^ count_ones m - gather b m) m)) (Err Field)

abbrev pub plus_one_answer : ℕ → ℕ → Result ℕ Refusal
plus_one_answer a m = cond (inside a m) (Ok (spread_mod (gather a m + 1) m)) (Err Field)

abbrev pub minus_one_answer : ℕ → ℕ → Result ℕ Refusal
minus_one_answer a m = cond (inside a m) (Ok (spread_mod (gather a m + 2 ^ count_ones m - 1) m)) (Err Field)

abbrev pub less_answer : ℕ → ℕ → ℕ → Result Bool Refusal
less_answer a b m = cond (inside a m && inside b m) (Ok (nat_lt (gather a m) (gather b m))) (Err Field)

abbrev pub equal_answer : ℕ → ℕ → ℕ → Result Bool Refusal
equal_answer a b m = cond (inside a m && inside b m) (Ok (gather a m == gather b m)) (Err Field)

-- what each call answers on x and y spread under m
pub record Answers (m x y : ℕ) : Type 0 where
  pub summed : sum_answer (spread x m) (spread y m) m ≡ Ok (spread_mod (x + y) m)
  pub subtracted : difference_answer (spread x m) (spread y m) m ≡ Ok (spread_mod (x + 2 ^ count_ones m - y) m)
  pub one_more : plus_one_answer (spread x m) m ≡ Ok (spread_mod (x + 1) m)
  pub one_less : minus_one_answer (spread x m) m ≡ Ok (spread_mod (x + 2 ^ count_ones m - 1) m)
  pub ordered : less_answer (spread x m) (spread y m) m ≡ Ok (nat_lt x y)
  pub compared : equal_answer (spread x m) (spread y m) m ≡ Ok (x == y)

-- the calls are the ordinary arithmetic of all numbers that have room under m
abbrev pub Ordinary : ℕ → Type 0
Ordinary m = (x y : ℕ) → x < 2 ^ count_ones m → y < 2 ^ count_ones m → Answers m x y

-- what dilate answers: a number of 16 bits goes to the even positions
abbrev pub dilate_answer : ℕ → Result ℕ Refusal
dilate_answer n = cond (nat_lt n 65536) (Ok (spread n 0x5555_5555)) (Err Field)
