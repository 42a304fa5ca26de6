-- A step along a row or a column, by the sum under the mask.
use Rattle.std.proofs.Common.{◌≡◌, ℕ, ◌+◌, ◌-◌, ◌%◌, ◌^◌, ◌<◌, true, is_ok, Ok, Result, sym, ap, ◌∙◌, mod-eq_of_lt, arith}
use lib.Bits.{bit_and}
use lib.Count.{ones}
use Rattle.fields.specs.Fields.{spread, gather}
use Rattle.fields.proofs.Fields.{spread_gather, gather_spread}
use Rattle.masked.specs.Arithmetic.{sum_answer}
use Rattle.masked.specs.declared.refusal.Refusal.{Refusal}
use Rattle.masked.proofs.Ordinary.{ordinary}
use Rattle.placement.specs.Sites.{Site, Lawful, Inside}
use Rattle.plans.specs.Plans.{site_of}
use Rattle.plans.proofs.MaskLaws.{room, row_part, column_part, lawful_masks}
use Rattle.by_masks.specs.Layouts.{masks_plan}
use Rattle.by_masks.specs.Moves.{Moved}
use Rattle.by_masks.specs.declared.masks.Masks.{Masks}
use Rattle.by_masks.specs.Fits.{masks_fit}
use Rattle.by_masks.proofs.Calls.{parts_small}

-- where the given cell's entry and the entry reached lie inside, the answer is the latter's cell
pub moved_inside : (s : Site) (at i j a b : ℕ) (answer : Result ℕ Refusal) → Lawful s → Inside s i j → s.cell i j ≡ at → Inside s (i + a) (j + b) → answer ≡ Ok (s.cell (i + a) (j + b)) → Moved s at a b answer
moved_inside s at i j a b answer law h e to told = record {
  reached = λ k l m f _. (let o = law.apart k l i j m h (f ∙ sym e) in rw (o.0, o.1) told);
  outside = λ k l m f out. (let o = law.apart k l i j m h (f ∙ sym e) in absurd (out (rw (o.0, o.1) to)));
  unowned = λ none. absurd (none i j h e);
}

ok_same : (a b : ℕ) (r : Result ℕ Refusal) → r ≡ Ok a → r ≡ Ok b → a ≡ b
ok_same a b r p q = cc

-- the sum of two numbers that together have room
summed : (x y m : ℕ) → m < 2 ^ 32 → x + y < 2 ^ ones m → sum_answer (spread x m) (spread y m) m ≡ Ok (spread (x + y) m)
summed x y m small h =
    let o = ordinary m small x y (omega arith) (omega arith) in
    let e : (x + y) % 2 ^ ones m ≡ x + y = mod-eq_of_lt h in
    o.summed ∙ ap (λ n. Ok (spread n m)) e

-- a number with no bit outside m, and a distance that together with what is gathered of it has room
module _ (v d m step : ℕ) (small : m < 2 ^ 32) (inside : bit_and v m ≡ v) (h : gather v m + d < 2 ^ ones m) (is : step ≡ spread d m) (sum : Result ℕ Refusal) (f : sum ≡ sum_answer v step m) where
  moved : sum ≡ Ok (spread (gather v m + d) m)
  moved =
      let again : spread (gather v m) m ≡ v = spread_gather v m small ∙ inside in
      f ∙ rw is (ap (λ a. sum_answer a (spread d m) m) (sym again) ∙ summed (gather v m) d m small h)

  pub sum_accepted : is_ok sum ≡ true
  sum_accepted = ap is_ok moved

  pub sum_told : (w : ℕ) → sum ≡ Ok w → w ≡ spread (gather v m + d) m
  sum_told w p = ok_same w (spread (gather v m + d) m) sum p moved

-- the two parts of the cell reached add up within the positions
pub moved_small : (m : Masks) (at a b v w : ℕ) → v ≡ spread (gather (bit_and at m.row_mask) m.row_mask + a) m.row_mask → w ≡ spread (gather (bit_and at m.column_mask) m.column_mask + b) m.column_mask → v + w < 2 ^ 24
moved_small m at a b v w p q = parts_small m (gather (bit_and at m.row_mask) m.row_mask + a) (gather (bit_and at m.column_mask) m.column_mask + b) v w p q

-- the entry that lies at a cell, and how far it can be moved inside
module _ (m : Masks) (at i j : ℕ) (h : Inside (site_of (masks_plan m)) i j) (e : spread i m.row_mask + spread j m.column_mask ≡ at) where
  row_index : gather (bit_and at m.row_mask) m.row_mask ≡ i
  row_index =
      let part = ap (λ a. bit_and a m.row_mask) (sym e) ∙ row_part _ _ m.row_mask m.column_mask (masks_fit m) i j in
      ap (λ v. gather v m.row_mask) part ∙ gather_spread i m.row_mask (omega (arith, m.rowplaces)) (room i m.shape.rows m.row_mask m.tall.0 h.0 m.rowbits)

  column_index : gather (bit_and at m.column_mask) m.column_mask ≡ j
  column_index =
      let part = ap (λ a. bit_and a m.column_mask) (sym e) ∙ column_part _ _ m.row_mask m.column_mask (masks_fit m) i j in
      ap (λ v. gather v m.column_mask) part ∙ gather_spread j m.column_mask (omega (arith, m.columnplaces)) (room j m.shape.columns m.column_mask m.broad.0 h.1 m.columnbits)

  pub row_room : (a : ℕ) → a < m.shape.rows - i → gather (bit_and at m.row_mask) m.row_mask + a < 2 ^ ones m.row_mask
  row_room a l = rw row_index (room (i + a) m.shape.rows m.row_mask m.tall.0 (omega arith) m.rowbits)

  pub column_room : (b : ℕ) → b < m.shape.columns - j → gather (bit_and at m.column_mask) m.column_mask + b < 2 ^ ones m.column_mask
  column_room b l = rw column_index (room (j + b) m.shape.columns m.column_mask m.broad.0 (omega arith) m.columnbits)

  pub moved_there : (a b v w : ℕ) → a < m.shape.rows - i → b < m.shape.columns - j → v ≡ spread (gather (bit_and at m.row_mask) m.row_mask + a) m.row_mask → w ≡ spread (gather (bit_and at m.column_mask) m.column_mask + b) m.column_mask → Moved (site_of (masks_plan m)) at a b (Ok (v + w))
  moved_there a b v w k l p q =
      moved_inside (site_of (masks_plan m)) at i j a b (Ok (v + w)) (lawful_masks _ _ _ _ (masks_fit m)) h e
      (omega arith, omega arith)
      (rw (p, q, row_index, column_index))
