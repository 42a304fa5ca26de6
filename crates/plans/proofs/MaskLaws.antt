-- Legal masks make a placement, and how the owner of a cell is found.
use Rattle.std.proofs.Common.{◌≡◌, ℕ, ◌+◌, ◌-◌, ◌^◌, ◌<◌, ◌≤◌, Some, None, sym, refl, ap, ◌∙◌, ⊎_elim, add_comm, arith}
use lib.Bits.{bit_and, and_comm, or_disjoint, or_lt}
use lib.Count.{ones}
use Rattle.std.proofs.lemmas.Bool.{cases_lt}
use Rattle.fields.specs.Fields.{spread, gather, width}
use Rattle.fields.proofs.Fields.{spread_le, spread_mono, spread_same, spread_part, spread_gather, spread_inside}
use Rattle.fields.proofs.Widths.{wide_width}
use Rattle.placement.specs.Sites.{Lawful, Owner}
use Rattle.placement.proofs.Owners.{owner_some, owner_none}
use Rattle.plans.specs.Conditions.{MasksFit}
use Rattle.plans.specs.Plans.{by_masks, site_of}

-- every row, and every column, has room under its mask
pub room : (i side mask : ℕ) → 1 ≤ side → i < side → ones mask ≡ width (side - 1) → i < 2 ^ ones mask
room i side mask some h e = rw e (let w = (wide_width (side - 1)).below in omega arith)

-- the last is spread to the largest
largest : (i side mask : ℕ) → mask < 2 ^ 32 → 1 ≤ side → i < side → ones mask ≡ width (side - 1) → spread i mask ≤ spread (side - 1) mask
largest i side mask small some h e =
    ⊎_elim
    (λ l. let m = spread_mono i (side - 1) mask small l (room (side - 1) side mask some (omega arith) e) in omega arith)
    (λ l. let up : side - 1 ≤ i = l in let s : i ≡ side - 1 = omega arith in rw s (omega arith))
    (cases_lt i (side - 1))

-- masks that share no bit add up within the positions of both
pub both_below : (y x : ℕ) → y < 2 ^ 24 → x < 2 ^ 24 → bit_and y x ≡ 0 → y + x < 2 ^ 24
both_below y x a b d = rw (sym (or_disjoint y x d)) (or_lt 24 y x a b)

module _ (r c y x : ℕ) (fit : MasksFit r c y x) where
  -- each mask finds its own part of a cell again
  pub row_part : (i j : ℕ) → bit_and (spread i y + spread j x) y ≡ spread i y
  row_part i j = spread_part i j y x fit.unshared

  pub column_part : (i j : ℕ) → bit_and (spread i y + spread j x) x ≡ spread j x
  column_part i j =
      let d : bit_and x y ≡ 0 = and_comm x y ∙ fit.unshared in
      rw (add_comm (spread i y) (spread j x)) (spread_part j i x y d)

  same_row : (i k : ℕ) → i < r → k < r → spread i y ≡ spread k y → i ≡ k
  same_row i k a b e =
      spread_same i k y (omega (arith, fit.row_positions)) (room i r y fit.rows_side.0 a fit.row_bits) (room k r y fit.rows_side.0 b fit.row_bits) e

  same_column : (j l : ℕ) → j < c → l < c → spread j x ≡ spread l x → j ≡ l
  same_column j l a b e =
      spread_same j l x (omega (arith, fit.column_positions)) (room j c x fit.columns_side.0 a fit.column_bits) (room l c x fit.columns_side.0 b fit.column_bits) e

  pub lawful_masks : Lawful (site_of (by_masks r c y x))
  lawful_masks = record {
    some_row = fit.rows_side.0;
    row_limit = fit.rows_side.1;
    some_column = fit.columns_side.0;
    column_limit = fit.columns_side.1;
    span_limit = omega (arith, both_below y x fit.row_positions fit.column_positions fit.unshared, spread_le (r - 1) y, spread_le (c - 1) x);
    below = λ i j h. omega (arith, largest i r y (omega (arith, fit.row_positions)) fit.rows_side.0 h.0 fit.row_bits, largest j c x (omega (arith, fit.column_positions)) fit.columns_side.0 h.1 fit.column_bits);
    reached = (r - 1, c - 1, (omega (arith, fit.rows_side.0), omega (arith, fit.columns_side.0)), refl);
    apart = λ i j k l h m e. (
      same_row i k h.0 m.0 (sym (row_part i j) ∙ ap (λ a. bit_and a y) e ∙ row_part k l),
      same_column j l h.1 m.1 (sym (column_part i j) ∙ ap (λ a. bit_and a x) e ∙ column_part k l),
    );
  }

  -- where the parts under the masks do not make up the cell, no entry has it
  pub owner_elsewhere : (at : ℕ) → (bit_and at y + bit_and at x ≡ at → ⊥) → Owner (site_of (by_masks r c y x)) at None
  owner_elsewhere at other =
      owner_none (site_of (by_masks r c y x)) at
      (λ i j h e. other (ap (λ a. bit_and a y + bit_and a x) (sym e) ∙ (let p = row_part i j in let q = column_part i j in omega arith) ∙ e))

-- the part of a cell under a mask has no bit outside it
pub part_inside : (at m : ℕ) → m < 2 ^ 32 → bit_and (bit_and at m) m ≡ bit_and at m
part_inside at m h = rw (sym (spread_gather at m h)) (spread_inside (gather at m) m)

-- gathered and spread again, it is the part
pub part_again : (at m : ℕ) → m < 2 ^ 32 → spread (gather (bit_and at m) m) m ≡ bit_and at m
part_again at m h = spread_gather (bit_and at m) m h ∙ part_inside at m h

module _ (r c y x : ℕ) (fit : MasksFit r c y x) (at i j : ℕ) (sum : bit_and at y + bit_and at x ≡ at) (row : spread i y ≡ bit_and at y) (column : spread j x ≡ bit_and at x) (row_room : i < 2 ^ ones y) (column_room : j < 2 ^ ones x) where
  -- an entry that has the cell is the one that was found
  only : (k l : ℕ) → (k < r) × (l < c) → spread k y + spread l x ≡ at → (i ≡ k) × (j ≡ l)
  only k l h e = (
    spread_same i k y (omega (arith, fit.row_positions)) row_room (room k r y fit.rows_side.0 h.0 fit.row_bits) (row ∙ ap (λ a. bit_and a y) (sym e) ∙ row_part r c y x fit k l),
    spread_same j l x (omega (arith, fit.column_positions)) column_room (room l c x fit.columns_side.0 h.1 fit.column_bits) (column ∙ ap (λ a. bit_and a x) (sym e) ∙ column_part r c y x fit k l),
  )

  pub owner_found : i < r → j < c → Owner (site_of (by_masks r c y x)) at (Some (i, j))
  owner_found a b = owner_some (site_of (by_masks r c y x)) at i j (lawful_masks r c y x fit) (a, b) (omega arith)

  pub owner_outside : (i < r → j < c → ⊥) → Owner (site_of (by_masks r c y x)) at None
  owner_outside out =
      owner_none (site_of (by_masks r c y x)) at
      (λ k l h e. let o = only k l h e in out (omega (arith, o.0, h.0)) (omega (arith, o.1, h.1)))
