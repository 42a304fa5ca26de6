-- A stride that masks can say: the masks are legal, and every entry lies where the stride puts it.
use Rattle.std.proofs.Common.{◌≡◌, ℕ, ◌+◌, ◌-◌, ◌*◌, ◌^◌, ◌<◌, ◌≤◌, Bool, true, false, eqb, ◌⊎◌, Ok, ap, ◌∙◌, ⊎_elim, mul_comm, zero-mul, arith, pow_mono}
use lib.Bits.{bit_and, and_comm}
use lib.Count.{ones}
use Rattle.std.proofs.lemmas.Nat.{mul-le}
use Rattle.std.proofs.lemmas.Bool.{cases_lt, or_left, or_right, eq-eqb, eqb-false, le-leb}
use Rattle.fields.specs.Fields.{spread, width}
use Rattle.fields.proofs.Fields.{spread_of_zero}
use Rattle.fields.proofs.Lowest.{ones_none}
use Rattle.fields.proofs.Runs.{spread_run, ones_run, run_unshared, power_of_two, ones_power}
use Rattle.fields.proofs.Widths.{width_zero, width_below}
use Rattle.plans.specs.Conditions.{Side, MasksFit, StrideFits}
use Rattle.plans.specs.Plans.{by_masks, line_of, place_of}
use Rattle.makers.specs.Makers.{shaped, side_bits, masked_stride, from_stride}
use Rattle.makers.proofs.Kept.{shaped_means, side_width, side_room}

-- the bits of a side stay below 2^12
pub side_small : (n : ℕ) → Side n → side_bits n ≤ 4095
side_small n h =
    let le = side_width n h in
    let p = pow_mono le in
    omega arith

near_bits : (n : ℕ) → ones (side_bits n) ≡ width (n - 1)
near_bits n = (let e : side_bits n ≡ (2 ^ width (n - 1) - 1) * 2 ^ 0 = omega arith in ap ones e) ∙ ones_run (width (n - 1)) 0

near_place : (j n : ℕ) → Side n → j < n → spread j (side_bits n) ≡ j
near_place j n h l =
    let e : side_bits n ≡ (2 ^ width (n - 1) - 1) * 2 ^ 0 = omega arith in
    let w = side_width n h in
    ap (spread j) e ∙ spread_run j (width (n - 1)) 0 (side_room j n l) (omega arith) ∙ omega arith

-- what holds of the strided side's bits, whichever of the two cases it is
record Bits (near strided s : ℕ) : Type 0 where
  count : ones (side_bits strided * s) ≡ width (strided - 1)
  unshared : bit_and (side_bits strided * s) (side_bits near) ≡ 0
  place : (i : ℕ) → i < strided → spread i (side_bits strided * s) ≡ s * i

-- a power of two up to 4,096
power_small : (l : ℕ) → 2 ^ l ≤ 4096 → l ≤ 12
power_small l h =
    ⊎_elim
    (λ m. let less : l < 13 = m in omega arith)
    (λ m. absurd (let le : 13 ≤ l = m in let p = pow_mono le in omega arith))
    (cases_lt l 13)

by_power : (near strided s l : ℕ) → Side near → Side strided → near ≤ s → s ≤ 4096 → s ≡ 2 ^ l → Bits near strided s
by_power near strided s l a b reach top e =
    let w = side_width strided b in
    let fits : near - 1 < 2 ^ l = omega (arith, a.0) in
    let below = width_below (near - 1) l fits in
    let small = power_small l (omega arith) in
    rw e (record {
      count = ones_run (width (strided - 1)) l;
      unshared = run_unshared (width (strided - 1)) l (width (near - 1)) below;
      place = λ i h. spread_run i (width (strided - 1)) l (side_room i strided h) (omega arith) ∙ mul_comm i (2 ^ l);
    })

by_one : (near strided s : ℕ) → strided ≡ 1 → Bits near strided s
by_one near strided s e =
    let z : side_bits strided * s ≡ 0 = rw (e, width_zero) (zero-mul s) in
    record {
      count = rw (z, e, width_zero) ones_none;
      unshared = rw z;
      place = λ i h. (let i_is : i ≡ 0 = omega arith in rw (z, i_is, spread_of_zero 0) (omega arith));
    }

bits : (near strided s : ℕ) → Side near → Side strided → near ≤ s → s ≤ 4096 → (ones s ≡ 1) ⊎ (strided ≡ 1) → Bits near strided s
bits near strided s a b reach top =
    ⊎_elim
    (λ e. let p = power_of_two s (omega arith) e in by_power near strided s p.0 a b reach top p.1)
    (by_one near strided s)

strided_small : (strided s : ℕ) → Side strided → s ≤ 4096 → side_bits strided * s < 2 ^ 24
strided_small strided s b top =
    let m = mul-le (side_bits strided) s 4095 4096 (side_small strided b) top in
    omega arith

module _ (near strided s : ℕ) (a : Side near) (b : Side strided) (reach : near ≤ s) (top : s ≤ 4096) (can : (ones s ≡ 1) ⊎ (strided ≡ 1)) where
  pub row_fit : MasksFit strided near (side_bits strided * s) (side_bits near)
  row_fit =
      let t = bits near strided s a b reach top can in
      let small = side_small near a in
      record {
        rows_side = b;
        columns_side = a;
        row_bits = t.count;
        column_bits = near_bits near;
        row_positions = strided_small strided s b top;
        column_positions = omega arith;
        unshared = t.unshared;
      }

  pub column_fit : MasksFit near strided (side_bits near) (side_bits strided * s)
  column_fit =
      let t = bits near strided s a b reach top can in
      let small = side_small near a in
      record {
        rows_side = a;
        columns_side = b;
        row_bits = near_bits near;
        column_bits = t.count;
        row_positions = omega arith;
        column_positions = strided_small strided s b top;
        unshared = and_comm (side_bits near) (side_bits strided * s) ∙ t.unshared;
      }

  pub row_places : (i j : ℕ) → i < strided → j < near → spread i (side_bits strided * s) + spread j (side_bits near) ≡ s * i + j
  row_places i j h l = rw ((bits near strided s a b reach top can).place i h, near_place j near a l)

  pub column_places : (i j : ℕ) → i < near → j < strided → spread i (side_bits near) + spread j (side_bits strided * s) ≡ s * j + i
  column_places i j h l = rw ((bits near strided s a b reach top can).place j l, near_place i near a h) (omega arith)

can_test : (strided s : ℕ) → (ones s ≡ 1) ⊎ (strided ≡ 1) → masked_stride strided s ≡ true
can_test strided s =
    ⊎_elim
    (λ e. or_left (eqb (ones s) 1) (eqb strided 1) (eq-eqb (ones s) 1 e))
    (λ e. or_right (eqb (ones s) 1) (eqb strided 1) (eq-eqb strided 1 e))

-- lines and places are each 1 to 4,096
pub sides : (turns : Bool) (r c : ℕ) → shaped r c ≡ true → Side (line_of turns r c) × Side (place_of turns r c)
sides false r c h = shaped_means r c h
sides true r c h = (let t = shaped_means r c h in (t.1, t.0))

-- what the maker from a stride makes by masks, from the numbers that its code holds
pub record StrideMade (turns : Bool) (r c s y x : ℕ) : Type 0 where
  pub fit : MasksFit r c y x
  pub plan : Ok (by_masks r c y x) ≡ from_stride turns r c s
  pub places : (i j : ℕ) → i < r → j < c → spread i y + spread j x ≡ s * line_of turns i j + place_of turns i j

pub made : (turns : Bool) (r c s u v y x : ℕ) → shaped r c ≡ true → place_of turns r c ≤ s → s ≤ 4096 → (ones s ≡ 1) ⊎ (line_of turns r c ≡ 1) → u ≡ side_bits (line_of turns r c) → v ≡ side_bits (place_of turns r c) → y ≡ line_of turns (u * s) v → x ≡ place_of turns (u * s) v → StrideMade turns r c s y x
made false r c s u v y x h reach top can eu ev ey ex =
    let t = sides false r c h in
    rw (ey, ex, eu, ev) (record {
      fit = row_fit c r s t.1 t.0 reach top can;
      plan = rw (h, le-leb c s reach, le-leb s 4096 top, can_test r s can);
      places = row_places c r s t.1 t.0 reach top can;
    })
made true r c s u v y x h reach top can eu ev ey ex =
    let t = sides true r c h in
    rw (ey, ex, eu, ev) (record {
      fit = column_fit r c s t.1 t.0 reach top can;
      plan = rw (h, le-leb r s reach, le-leb s 4096 top, can_test c s can);
      places = column_places r c s t.1 t.0 reach top can;
    })

-- 4,096 is a power of two, so a stride that is none is below it
pub stride_made : (strided near s : ℕ) → Side strided × Side near → near ≤ s → s ≤ 4096 → eqb (ones s) 1 ≡ false → (strided ≡ 1 → ⊥) → StrideFits near strided s
stride_made strided near s sides reach top no_power more =
    let other = eqb-false (ones s) 1 no_power in
    let not_top : s ≡ 4096 → ⊥ = λ e. other (ap ones e ∙ ones_power 12) in
    record {
      near_side = (sides.1.0, reach);
      stride_limit = omega arith;
      strided_side = (omega (arith, sides.0.0), sides.0.1);
      no_power = other;
    }
