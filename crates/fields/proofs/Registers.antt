-- What the register operations give under a mask, at 32 positions: the ordinary arithmetic of the gathered numbers.
use Rattle.std.proofs.Common.{◌≡◌, ℕ, ◌+◌, ◌-◌, ◌%◌, ◌^◌, ◌<◌, ◌≤◌, true, ◌&&◌, eqb, ltb, sym, refl, ap, ◌∙◌, ⊎_elim, mod-eq_of_lt, arith}
use lib.Bits.{bit_and, bit_or, and_mod, and_le_r, and_self}
use lib.Count.{ones}
use Rattle.std.proofs.lemmas.Bool.{cases_order, cases_eq, lt-ltb, le-ltb, eq-eqb, ne_eqb, and_from}
use Rattle.fields.specs.Fields.{spread, gather}
use Rattle.fields.specs.Arithmetic.{inside, spread_mod}
use Rattle.fields.proofs.Fields.{spread_of_zero, spread_mono, gather_spread, spread_gather, gather_below}
use Rattle.fields.proofs.Sums as over

-- only the w lowest bits of n are spread, where w is how many one-bits m has
pub spread_modulo : (n m : ℕ) → spread n m ≡ spread_mod n m
unfolding spread
spread_modulo n m = over.spread_over_mod 32 n m

-- what the machine drops above its 32 bits is outside every mask
wrapped : (x m : ℕ) → m < 2 ^ 32 → bit_and (x % 2 ^ 32) m ≡ bit_and x m
wrapped x m h =
    let le = and_le_r x m in
    let e : bit_and x m % 2 ^ 32 ≡ bit_and x m = mod-eq_of_lt {n = bit_and x m} {m = 2 ^ 32} (omega arith) in
    let f : m % 2 ^ 32 ≡ m = mod-eq_of_lt {n = m} {m = 2 ^ 32} h in
    let s : bit_and x m % 2 ^ 32 ≡ bit_and (x % 2 ^ 32) m = and_mod x m 32 ∙ ap (λ y. bit_and (x % 2 ^ 32) y) f in
    sym s ∙ e

-- a sum with a carry, the bits outside the mask filled with ones
carried : (a b c m : ℕ) → m < 2 ^ 32 → bit_and a m ≡ a → bit_and b m ≡ b → c ≤ 1 → bit_and ((a + (2 ^ 32 - 1 - m) + b + c) % 2 ^ 32) m ≡ spread_mod (gather a m + gather b m + c) m
unfolding spread gather
carried a b c m h i j l = wrapped (a + (2 ^ 32 - 1 - m) + b + c) m h ∙ over.sum_over 32 a b c m h i j l ∙ spread_modulo (gather a m + gather b m + c) m

gather_of_zero : (m : ℕ) → m < 2 ^ 32 → gather 0 m ≡ 0
gather_of_zero m h = rw (spread_of_zero m) at (gather_spread 0 m h (let p = gather_below 0 m h in omega arith))

gather_rest : (b m : ℕ) → m < 2 ^ 32 → bit_and b m ≡ b → gather (m - b) m + gather b m + 1 ≡ 2 ^ ones m
unfolding gather
gather_rest b m h i = over.rest_gather 32 b m h i

pub sum_is : (a b m : ℕ) → m < 2 ^ 32 → bit_and a m ≡ a → bit_and b m ≡ b → bit_and ((bit_or a (2 ^ 32 - 1 - m) + b) % 2 ^ 32) m ≡ spread_mod (gather a m + gather b m) m
sum_is a b m h i j =
    let e : a + (2 ^ 32 - 1 - m) + b + 0 ≡ a + (2 ^ 32 - 1 - m) + b = omega arith in
    let g : gather a m + gather b m + 0 ≡ gather a m + gather b m = omega arith in
    rw (over.filled 32 a m h i, ← e, ← g) (carried a b 0 m h i j (omega arith))

pub plus_one_is : (a m : ℕ) → m < 2 ^ 32 → bit_and a m ≡ a → bit_and ((bit_or a (2 ^ 32 - 1 - m) + 1) % 2 ^ 32) m ≡ spread_mod (gather a m + 1) m
plus_one_is a m h i =
    let e : a + (2 ^ 32 - 1 - m) + 0 + 1 ≡ a + (2 ^ 32 - 1 - m) + 1 = omega arith in
    let z = gather_of_zero m h in
    let g : gather a m + gather 0 m + 1 ≡ gather a m + 1 = omega arith in
    rw (over.filled 32 a m h i, ← e, ← g) (carried a 0 1 m h i refl (omega arith))

pub difference_is : (a b m : ℕ) → m < 2 ^ 32 → bit_and a m ≡ a → bit_and b m ≡ b → bit_and ((a + (2 ^ 32 - b)) % 2 ^ 32) m ≡ spread_mod (gather a m + 2 ^ ones m - gather b m) m
difference_is a b m h i j =
    let le = over.inside_le b m j in
    let e : a + (2 ^ 32 - 1 - m) + (m - b) + 1 ≡ a + (2 ^ 32 - b) = omega arith in
    let r = gather_rest b m h j in
    let g : gather a m + gather (m - b) m + 1 ≡ gather a m + 2 ^ ones m - gather b m = omega arith in
    rw (← e, ← g) (carried a (m - b) 1 m h i (over.rest_inside 32 b m h j) (omega arith))

pub minus_one_is : (a m : ℕ) → m < 2 ^ 32 → bit_and a m ≡ a → bit_and ((a + (2 ^ 32 - 1)) % 2 ^ 32) m ≡ spread_mod (gather a m + 2 ^ ones m - 1) m
minus_one_is a m h i =
    let e : a + (2 ^ 32 - 1 - m) + m + 0 ≡ a + (2 ^ 32 - 1) = omega arith in
    let r = gather_rest 0 m h refl in
    let z = gather_of_zero m h in
    let k : m - 0 ≡ m = omega arith in
    let s : gather m m + gather 0 m + 1 ≡ 2 ^ ones m = rw k at r in
    let g : gather a m + gather m m + 0 ≡ gather a m + 2 ^ ones m - 1 = omega arith in
    rw (← e, ← g) (carried a m 0 m h i (and_self m) (omega arith))

-- the numbers are in the order of the gathered ones
module _ (a b m : ℕ) (h : m < 2 ^ 32) (i : bit_and a m ≡ a) (j : bit_and b m ≡ b) where
  below : gather a m < gather b m → a < b
  below l =
      let p : spread (gather a m) m ≡ a = spread_gather a m h ∙ i in
      let q : spread (gather b m) m ≡ b = spread_gather b m h ∙ j in
      let s = spread_mono (gather a m) (gather b m) m h l (gather_below b m h) in
      omega arith

  same : gather a m ≡ gather b m → a ≡ b
  same e = sym (spread_gather a m h ∙ i) ∙ ap (λ g. spread g m) e ∙ spread_gather b m h ∙ j

pub less_is : (a b m : ℕ) → m < 2 ^ 32 → bit_and a m ≡ a → bit_and b m ≡ b → ltb a b ≡ ltb (gather a m) (gather b m)
less_is a b m h i j =
    ⊎_elim
    (λ e. let s = same a b m h i j e in let t : gather b m ≤ gather a m = (let f : gather a m ≡ gather b m = e in omega arith) in rw (le-ltb a b (omega arith), le-ltb (gather a m) (gather b m) t))
    (⊎_elim
    (λ l. rw (lt-ltb a b (below a b m h i j l), lt-ltb (gather a m) (gather b m) l))
    (λ l. let s = below b a m h j i l in let t : gather b m ≤ gather a m = (let f : gather b m < gather a m = l in omega arith) in rw (le-ltb a b (omega arith), le-ltb (gather a m) (gather b m) t)))
    (cases_order (gather a m) (gather b m))

pub equal_is : (a b m : ℕ) → m < 2 ^ 32 → bit_and a m ≡ a → bit_and b m ≡ b → eqb a b ≡ eqb (gather a m) (gather b m)
equal_is a b m h i j = ⊎_elim (λ e. rw (eq-eqb a b e, eq-eqb (gather a m) (gather b m) (ap (λ v. gather v m) e))) (λ n. rw (ne_eqb a b n, ne_eqb (gather a m) (gather b m) (λ e. n (same a b m h i j e)))) (cases_eq a b)

-- the test of two operands
pub both_inside : (a b m : ℕ) → bit_and a m ≡ a → bit_and b m ≡ b → (inside a m && inside b m) ≡ true
both_inside a b m i j = and_from (inside a m) (inside b m) (eq-eqb (bit_and a m) a i) (eq-eqb (bit_and b m) b j)
