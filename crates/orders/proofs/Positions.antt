-- The masks that a program makes by shifts, at each p up to 12.
use Rattle.std.proofs.Common.{◌≡◌, ℕ, zero, suc, ◌-◌, ◌/◌, ◌^◌, ◌<◌, ◌≤◌, Bool, true, ◌&&◌, eqb, ltb, leb, refl, arith}
use lib.Bits.{bit_and}
use lib.Count.{ones, ones_in, ones_step, ones-le}
use Rattle.std.proofs.lemmas.Bool.{ltb-true, leb-true, eqb-true}
use Rattle.std.proofs.lemmas.Bool.Decides.{Decides-below_and}
use Rattle.fields.specs.Fields.{spread, spread_over}
use Rattle.fields.proofs.Spreads.{half_below}
use Rattle.orders.specs.Positions.{column_position, row_position, mask_at, column_full, row_full}

-- a test at each number below n
abbrev pub every : (ℕ → Bool) → ℕ → Bool
every f zero = true
every f (suc n) = f n && every f n

pub every_at : (f : ℕ → Bool) (n : ℕ) → every f n ≡ true → (k : ℕ) → k < n → f k ≡ true
every_at f n e = (Decides-below_and f (λ k. f k ≡ true) (every f) (λ k. (λ h. h, λ h. h)) refl (λ _. refl) n).0 e

-- a test at each two numbers up to 12
every_two : (f : ℕ → ℕ → Bool) → every (λ p. every (f p) 13) 13 ≡ true → (p w : ℕ) → p ≤ 12 → w ≤ 12 → f p w ≡ true
every_two f e p w h l = every_at (f p) 13 (every_at (λ q. every (f q) 13) 13 e p (omega arith)) w (omega arith)

-- ---- the first w one-bits stand at the first w positions

column_kept_test : ℕ → ℕ → Bool
column_kept_test p w = eqb (spread (2 ^ w - 1) (column_full p)) (mask_at (column_position p) w)

column_kept_tested : every (λ p. every (column_kept_test p) 13) 13 ≡ true
unfolding column_kept_test spread spread_over mask_at
column_kept_tested = refl

pub column_kept : (p w : ℕ) → p ≤ 12 → w ≤ 12 → spread (2 ^ w - 1) (column_full p) ≡ mask_at (column_position p) w
unfolding column_kept_test
column_kept p w h l = eqb-true (spread (2 ^ w - 1) (column_full p)) (mask_at (column_position p) w) (every_two column_kept_test column_kept_tested p w h l)

row_kept_test : ℕ → ℕ → Bool
row_kept_test p w = eqb (spread (2 ^ w - 1) (row_full p)) (mask_at (row_position p) w)

row_kept_tested : every (λ p. every (row_kept_test p) 13) 13 ≡ true
unfolding row_kept_test spread spread_over mask_at
row_kept_tested = refl

pub row_kept : (p w : ℕ) → p ≤ 12 → w ≤ 12 → spread (2 ^ w - 1) (row_full p) ≡ mask_at (row_position p) w
unfolding row_kept_test
row_kept p w h l = eqb-true (spread (2 ^ w - 1) (row_full p)) (mask_at (row_position p) w) (every_two row_kept_test row_kept_tested p w h l)

-- ---- they stand below position 24

column_low_test : ℕ → ℕ → Bool
column_low_test p w = ltb (spread (2 ^ w - 1) (column_full p)) (2 ^ 24)

column_low_tested : every (λ p. every (column_low_test p) 13) 13 ≡ true
unfolding column_low_test spread spread_over
column_low_tested = refl

pub column_low : (p w : ℕ) → p ≤ 12 → w ≤ 12 → spread (2 ^ w - 1) (column_full p) < 2 ^ 24
unfolding column_low_test
column_low p w h l = ltb-true (spread (2 ^ w - 1) (column_full p)) (2 ^ 24) (every_two column_low_test column_low_tested p w h l)

row_low_test : ℕ → ℕ → Bool
row_low_test p w = ltb (spread (2 ^ w - 1) (row_full p)) (2 ^ 24)

row_low_tested : every (λ p. every (row_low_test p) 13) 13 ≡ true
unfolding row_low_test spread spread_over
row_low_tested = refl

pub row_low : (p w : ℕ) → p ≤ 12 → w ≤ 12 → spread (2 ^ w - 1) (row_full p) < 2 ^ 24
unfolding row_low_test
row_low p w h l = ltb-true (spread (2 ^ w - 1) (row_full p)) (2 ^ 24) (every_two row_low_test row_low_tested p w h l)

-- ---- both masks have 32 bits

column_below_tested : every (λ p. ltb (column_full p) (2 ^ 32)) 13 ≡ true
column_below_tested = refl

pub column_below : (p : ℕ) → p ≤ 12 → column_full p < 2 ^ 32
column_below p h = ltb-true (column_full p) (2 ^ 32) (every_at (λ q. ltb (column_full q) (2 ^ 32)) 13 column_below_tested p (omega arith))

row_below_tested : every (λ p. ltb (row_full p) (2 ^ 32)) 13 ≡ true
row_below_tested = refl

pub row_below : (p : ℕ) → p ≤ 12 → row_full p < 2 ^ 32
row_below p h = ltb-true (row_full p) (2 ^ 32) (every_at (λ q. ltb (row_full q) (2 ^ 32)) 13 row_below_tested p (omega arith))

-- ---- both have room for 12

-- the one-bits of a number below 2^k, counted at its k lowest positions
ones_counted : (k n : ℕ) → n < 2 ^ k → ones n ≡ ones_in k n
unfolding ones_in
ones_counted zero n h = let le = ones-le 0 n h in omega arith
ones_counted (suc k) n h = rw (ones_step n, ones_counted k (n / 2) (half_below k n h))

column_room_tested : every (λ p. leb 12 (ones_in 32 (column_full p))) 13 ≡ true
unfolding ones_in
column_room_tested = refl

pub column_room : (p : ℕ) → p ≤ 12 → 12 ≤ ones (column_full p)
column_room p h =
    let t = every_at (λ q. leb 12 (ones_in 32 (column_full q))) 13 column_room_tested p (omega arith) in
    rw (ones_counted 32 (column_full p) (column_below p h)) (leb-true 12 (ones_in 32 (column_full p)) t)

row_room_tested : every (λ p. leb 12 (ones_in 32 (row_full p))) 13 ≡ true
unfolding ones_in
row_room_tested = refl

pub row_room : (p : ℕ) → p ≤ 12 → 12 ≤ ones (row_full p)
row_room p h =
    let t = every_at (λ q. leb 12 (ones_in 32 (row_full q))) 13 row_room_tested p (omega arith) in
    rw (ones_counted 32 (row_full p) (row_below p h)) (leb-true 12 (ones_in 32 (row_full p)) t)

-- ---- they share no bit

unshared_tested : every (λ p. eqb (bit_and (row_full p) (column_full p)) 0) 13 ≡ true
unshared_tested = refl

pub full_unshared : (p : ℕ) → p ≤ 12 → bit_and (row_full p) (column_full p) ≡ 0
full_unshared p h = eqb-true (bit_and (row_full p) (column_full p)) 0 (every_at (λ q. eqb (bit_and (row_full q) (column_full q)) 0) 13 unshared_tested p (omega arith))

-- ---- with no run below, every other position from 0 and from 1 on

pub column_full_none : column_full 0 ≡ 0x5555_5555
column_full_none = refl

pub row_full_none : row_full 0 ≡ 0xaaaa_aaaa
row_full_none = refl
