-- The masks that a maker keeps are legal, and put every entry where the given masks put it.
use Rattle.std.proofs.Common.{◌≡◌, ℕ, zero, suc, max, ◌+◌, ◌-◌, ◌*◌, ◌/◌, ◌^◌, ◌<◌, ◌≤◌, true, Ok, sym, ap, pow-suc, arith}
use lib.Bits.{bit_and}
use lib.Count.{ones}
use Rattle.std.proofs.lemmas.Bool.{and_parts, le-leb, leb-true, lt-ltb, eq-eqb}
use Rattle.fields.specs.Fields.{spread, width}
use Rattle.fields.proofs.Lowest.{spread_ones, spread_lowest_same}
use Rattle.fields.proofs.Widths.{wide_width, width_below, width_is}
use Rattle.std.specs.Int.{IsPowerOfTwo}
use Rattle.plans.specs.Conditions.{Side, MasksFit}
use Rattle.plans.specs.Plans.{by_masks}
use Rattle.makers.specs.Makers.{shaped, lowest, from_masks}

-- the test on the shape, and what it says
pub shaped_means : (r c : ℕ) → shaped r c ≡ true → Side r × Side c
shaped_means r c h =
    let p = and_parts _ _ h in
    let a = and_parts _ _ p.0 in
    let b = and_parts _ _ p.1 in
    ((leb-true 1 r a.0, leb-true r 4096 a.1), (leb-true 1 c b.0, leb-true c 4096 b.1))

-- a side has at most 12 bits
pub side_width : (n : ℕ) → Side n → width (n - 1) ≤ 12
side_width n h = width_below (n - 1) 12 (omega (arith, h.0, h.1))

pub side_room : (i n : ℕ) → i < n → i < 2 ^ width (n - 1)
side_room i n h = let w = (wide_width (n - 1)).below in omega arith

module _ (r c y x : ℕ) (rows : Side r) (columns : Side c) (row_32 : y < 2 ^ 32) (column_32 : x < 2 ^ 32) (row_bits : width (r - 1) ≤ ones y) (column_bits : width (c - 1) ≤ ones x) where
  pub kept_fit : lowest (width (r - 1)) y < 2 ^ 24 → lowest (width (c - 1)) x < 2 ^ 24 → bit_and (lowest (width (r - 1)) y) (lowest (width (c - 1)) x) ≡ 0 → MasksFit r c (lowest (width (r - 1)) y) (lowest (width (c - 1)) x)
  kept_fit a b d = record {
    rows_side = rows;
    columns_side = columns;
    row_bits = spread_ones (width (r - 1)) y row_32 row_bits;
    column_bits = spread_ones (width (c - 1)) x column_32 column_bits;
    row_positions = a;
    column_positions = b;
    unshared = d;
  }

  pub kept_places : (i j : ℕ) → i < r → j < c → spread i (lowest (width (r - 1)) y) + spread j (lowest (width (c - 1)) x) ≡ spread i y + spread j x
  kept_places i j a b =
      rw (spread_lowest_same i (width (r - 1)) y row_32 row_bits (side_room i r a), spread_lowest_same j (width (c - 1)) x column_32 column_bits (side_room j c b))

-- what the maker from masks makes, from the numbers that its code holds
pub record Made (r c y x ky kx : ℕ) : Type 0 where
  pub fit : MasksFit r c ky kx
  pub plan : Ok (by_masks r c ky kx) ≡ from_masks r c y x
  pub places : (i j : ℕ) → i < r → j < c → spread i ky + spread j kx ≡ spread i y + spread j x

pub made : (r c y x ky kx : ℕ) → shaped r c ≡ true → y < 2 ^ 32 → x < 2 ^ 32 → width (r - 1) ≤ ones y → width (c - 1) ≤ ones x → ky ≡ lowest (width (r - 1)) y → kx ≡ lowest (width (c - 1)) x → ky < 2 ^ 24 → kx < 2 ^ 24 → bit_and ky kx ≡ 0 → Made r c y x ky kx
made r c y x ky kx h row_32 column_32 row_bits column_bits ky_is kx_is a b d =
    let sides = shaped_means r c h in
    let a' : lowest (width (r - 1)) y < 2 ^ 24 = omega arith in
    let b' : lowest (width (c - 1)) x < 2 ^ 24 = omega arith in
    let d' : bit_and (lowest (width (r - 1)) y) (lowest (width (c - 1)) x) ≡ 0 = rw (sym ky_is, sym kx_is) d in
    rw (ky_is, kx_is) (record {
      fit = kept_fit r c y x sides.0 sides.1 row_32 column_32 row_bits column_bits a' b' d';
      plan = rw (
        h,
        le-leb (width (r - 1)) (ones y) row_bits,
        le-leb (width (c - 1)) (ones x) column_bits,
        lt-ltb (lowest (width (r - 1)) y) (2 ^ 24) a',
        lt-ltb (lowest (width (c - 1)) x) (2 ^ 24) b',
        eq-eqb (bit_and (lowest (width (r - 1)) y) (lowest (width (c - 1)) x)) 0 d',
      );
      places = kept_places r c y x sides.0 sides.1 row_32 column_32 row_bits column_bits;
    })

-- the power of two next to a side has as many binary digits above it as the last entry has
pub next_power : (n p : ℕ) → Side n → IsPowerOfTwo p → n ≤ p → p / 2 < max 1 n → p ≡ 2 ^ width (n - 1)
next_power n p h (zero, e) le below = rw e (ap (λ w. 2 ^ w) (sym (width_is (n - 1) 0 (record { below = omega arith; reached = λ l. absurd (omega (arith, l)) }))))
next_power n p h (suc k, e) le below =
    let up : 2 ^ suc k ≡ 2 ^ k * 2 = pow-suc 2 k in
    let one : suc k - 1 ≡ k = omega arith in
    let half : 2 ^ (suc k - 1) ≡ 2 ^ k = ap (λ w. 2 ^ w) one in
    rw e (ap (λ w. 2 ^ w) (sym (width_is (n - 1) (suc k) (record { below = omega (arith, h.0); reached = λ l. omega arith }))))
