-- Operands under a mask, and numbers modulo 2^w, where w is how many one-bits the mask has.
use Rattle.std.specs.Prelude.{ℕ, ◌%◌, ◌^◌, Bool, ◌==◌, bit_and, count_ones}
use Rattle.fields.specs.Fields.{spread}

-- v has no bit outside m
abbrev pub inside : ℕ → ℕ → Bool
inside v m = bit_and v m == v

-- n modulo 2^w, spread under m
abbrev pub spread_mod : ℕ → ℕ → ℕ
spread_mod n m = spread (n % 2 ^ count_ones m) m
