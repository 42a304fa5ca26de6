-- The figures, computed.
use Rattle.std.proofs.Common.{◌≡◌, ℕ, ◌+◌, ◌-◌, ◌^◌, ◌<◌, ◌≤◌, Bool, true, eqb, refl, ⊎_elim, arith}
use lib.Count.{ones, ones_in}
use Rattle.std.proofs.lemmas.Bool.{cases_lt, eqb-true}
use Rattle.fields.specs.Fields.{spread, spread_over, gather, gather_over, width}
use Rattle.fields.proofs.Widths.{width_below, below_width}
use Rattle.orders.proofs.Positions.{every, every_at}
use Rattle.orders.specs.Positions.{mask_at, row_position, column_position}
use Rattle.decoding.specs.Reading.{number_at}
use Rattle.walk.specs.Walks.{walk, inside, least_height, height_of, reflected, allowed, walk_of}
use Rattle.figures.specs.Figures.{Figures}

-- the width of a side that has entry i is between those of i and of 4,095
row_test : ℕ → Bool
row_test k = eqb (spread 4 (mask_at (row_position 0) (3 + k))) 32

row_tested : every row_test 10 ≡ true
unfolding row_test spread spread_over mask_at
row_tested = refl

column_test : ℕ → Bool
column_test k = eqb (spread 8 (mask_at (column_position 0) (4 + k))) 64

column_tested : every column_test 9 ≡ true
unfolding column_test spread spread_over mask_at
column_tested = refl

-- the width of a side whose last entry is not below 2^k is more than k
width_over : (n k : ℕ) → 2 ^ k ≤ n → k < width n
width_over n k h =
    ⊎_elim (λ l. l) (λ l. absurd (let le : width n ≤ k = l in let b = below_width n k le in omega arith)) (cases_lt k (width n))

row_in_z : (w : ℕ) → 3 ≤ w → w ≤ 12 → spread 4 (mask_at (row_position 0) w) ≡ 32
unfolding row_test
row_in_z w a b =
    let e : 3 + (w - 3) ≡ w = omega arith in
    let t = eqb-true (spread 4 (mask_at (row_position 0) (3 + (w - 3)))) 32 (every_at row_test 10 row_tested (w - 3) (omega arith)) in
    rw e at t

column_in_z : (w : ℕ) → 4 ≤ w → w ≤ 12 → spread 8 (mask_at (column_position 0) w) ≡ 64
unfolding column_test
column_in_z w a b =
    let e : 4 + (w - 4) ≡ w = omega arith in
    let t = eqb-true (spread 8 (mask_at (column_position 0) (4 + (w - 4)))) 64 (every_at column_test 9 column_tested (w - 4) (omega arith)) in
    rw e at t

cell_in_z : (r c : ℕ) → 4 < r → r ≤ 4096 → 8 < c → c ≤ 4096 → spread 4 (mask_at (row_position 0) (width (r - 1))) + spread 8 (mask_at (column_position 0) (width (c - 1))) ≡ 96
cell_in_z r c a b d e =
    rw (
      row_in_z (width (r - 1)) (width_over (r - 1) 2 (omega arith)) (width_below (r - 1) 12 (omega arith)),
      column_in_z (width (c - 1)) (width_over (c - 1) 3 (omega arith)) (width_below (c - 1) 12 (omega arith)),
    )

pub known : Figures
unfolding spread spread_over gather gather_over ones ones_in width walk inside least_height height_of reflected allowed walk_of number_at
known = record {
  row_spread = refl;
  column_spread = refl;
  together = refl;
  in_z = cell_in_z;
  sum_plain = refl;
  sum_round = refl;
  sum_over_gap = refl;
  ahnentafel = refl;
  level_order = refl;
  walk_whole = refl;
  walk_ninth = refl;
  read_power = refl;
  read_one_row = refl;
  read_padded = refl;
  read_one_entry = refl;
  one_entry_span = refl;
}
