-- What spread and gather answer.
use Rattle.std.specs.Prelude.{⊤, ℕ, ◌^◌, cond, Ok, Err, Result, ◌==◌, bit_and, count_ones, nat_lt}
use Rattle.fields.specs.Arithmetic.{inside}
use Rattle.fields.specs.Fields.{spread, gather}
use Rattle.masked.specs.declared.refusal.Refusal.{Refusal}
use Rattle.masked.specs.declared.refusal.Refusal.TheVariants.{Field}

-- what spread answers: n has to be below 2^w, where w is how many one-bits m has
abbrev pub spread_answer : ℕ → ℕ → Result ℕ Refusal
spread_answer n m = cond (nat_lt n (2 ^ count_ones m)) (Ok (spread n m)) (Err Field)

-- what is said of a number that has to have no bit outside m
abbrev pub inside_answer : ℕ → ℕ → Result ⊤ Refusal
inside_answer v m = cond (inside v m) (Ok tt) (Err Field)

-- what gather answers: v has to have no bit outside m
abbrev pub gather_answer : ℕ → ℕ → Result ℕ Refusal
gather_answer v m = cond (bit_and v m == v) (Ok (gather v m)) (Err Field)
