-- The named orders by masks: there the maker from masks refuses nothing but the shape.
use Rattle.std.proofs.Common.{◌≡◌, ℕ, ◌-◌, ◌^◌, ◌<◌, ◌≤◌, ◌⊎◌, true, Ok, Result, ap, ◌∙◌, ⊎_elim, inl, inr, arith}
use lib.Bits.{bit_and, and_comm}
use lib.Count.{ones}
use Rattle.std.proofs.lemmas.Bool.{cases_Bool, le-leb, lt-ltb, eq-eqb}
use Rattle.fields.specs.Fields.{width}
use Rattle.fields.proofs.Lowest.{lowest_unshared}
use Rattle.masked.specs.declared.refusal.Refusal.{Refusal}
use Rattle.masked.specs.declared.refusal.Refusal.TheVariants.{Shape}
use Rattle.plans.specs.Plans.{Plan}
use Rattle.makers.specs.Makers.{unless, shaped, lowest, from_masks}
use Rattle.makers.proofs.Kept.{shaped_means, side_width}
use Rattle.orders.specs.Orders.{at_positions, Z, N, H, named_order}
use Rattle.orders.specs.Positions.{column_position, row_position, mask_at, column_full, row_full}
use Rattle.orders.proofs.Positions.{column_kept, row_kept, column_low, row_low, column_room, row_room, full_unshared}

-- masks with room for 12 that share no bit, whose kept bits stand below position 24
module _ (r c y x : ℕ) (row column : ℕ → ℕ) (row_ones : 12 ≤ ones y) (column_ones : 12 ≤ ones x) (row_kept' : (w : ℕ) → w ≤ 12 → lowest w y ≡ mask_at row w) (column_kept' : (w : ℕ) → w ≤ 12 → lowest w x ≡ mask_at column w) (row_low' : (w : ℕ) → w ≤ 12 → lowest w y < 2 ^ 24) (column_low' : (w : ℕ) → w ≤ 12 → lowest w x < 2 ^ 24) (unshared : bit_and y x ≡ 0) where
  settled : shaped r c ≡ true → from_masks r c y x ≡ Ok (at_positions r c row column)
  settled h =
      let sides = shaped_means r c h in
      let a = side_width r sides.0 in
      let b = side_width c sides.1 in
      let d : bit_and (lowest (width (r - 1)) y) (lowest (width (c - 1)) x) ≡ 0 = lowest_unshared _ _ y x unshared in
      rw (
        h,
        le-leb (width (r - 1)) (ones y) (omega arith),
        le-leb (width (c - 1)) (ones x) (omega arith),
        lt-ltb (lowest (width (r - 1)) y) (2 ^ 24) (row_low' (width (r - 1)) a),
        lt-ltb (lowest (width (c - 1)) x) (2 ^ 24) (column_low' (width (c - 1)) b),
        eq-eqb (bit_and (lowest (width (r - 1)) y) (lowest (width (c - 1)) x)) 0 d,
        row_kept' (width (r - 1)) a,
        column_kept' (width (c - 1)) b,
      )

  pub positions_made : from_masks r c y x ≡ unless (shaped r c) Shape (Ok (at_positions r c row column))
  positions_made =
      ⊎_elim
      (λ e. settled e ∙ rw e)
      (λ e. rw e)
      (cases_Bool (shaped r c))

-- rows and columns by turns above runs of p
pub inner_made : (r c p : ℕ) → p ≤ 12 → from_masks r c (row_full p) (column_full p) ≡ unless (shaped r c) Shape (Ok (at_positions r c (row_position p) (column_position p)))
inner_made r c p h =
    positions_made r c (row_full p) (column_full p) (row_position p) (column_position p)
    (row_room p h) (column_room p h)
    (λ w l. row_kept p w h l) (λ w l. column_kept p w h l)
    (λ w l. row_low p w h l) (λ w l. column_low p w h l)
    (full_unshared p h)

-- the other way about
pub turned_made : (r c p : ℕ) → p ≤ 12 → from_masks r c (column_full p) (row_full p) ≡ unless (shaped r c) Shape (Ok (at_positions r c (column_position p) (row_position p)))
turned_made r c p h =
    positions_made r c (column_full p) (row_full p) (column_position p) (row_position p)
    (column_room p h) (row_room p h)
    (λ w l. column_kept p w h l) (λ w l. row_kept p w h l)
    (λ w l. column_low p w h l) (λ w l. row_low p w h l)
    (and_comm (column_full p) (row_full p) ∙ full_unshared p h)

-- the inner width is allowed: up to 12 under H, 0 under the others
abbrev pub Allowed : ℕ → ℕ → Type 0
Allowed l p = ((l ≡ H) × (p ≤ 12)) ⊎ ((l ≡ H → ⊥) × (p ≤ 0))

none : (l p : ℕ) → Allowed l p → (l ≡ H → ⊥) → p ≡ 0
none l p allowed other = ⊎_elim (λ h. absurd (other h.0)) (λ h. omega (arith, h.1)) allowed

up_to_twelve : (l p : ℕ) → Allowed l p → p ≤ 12
up_to_twelve l p = ⊎_elim (λ h. h.1) (λ h. omega (arith, h.1))

-- what the arms of the maker of named orders answer, from the numbers that its code holds
module _ (l r c p y x : ℕ) (answer : Result Plan Refusal) (allowed : Allowed l p) (ey : y ≡ row_full p) (ex : x ≡ column_full p) where
  pub order_turns : answer ≡ from_masks r c y x → (l ≡ H) ⊎ (l ≡ Z) → answer ≡ named_order l r c p
  order_turns told (inl el) = let h = up_to_twelve l p allowed in rw (told, ey, ex, el, le-leb p 12 h) (inner_made r c p h)
  order_turns told (inr el) =
      let ep = none l p allowed (λ e. omega (arith, e, el)) in
      rw (told, ey ∙ ap row_full ep, ex ∙ ap column_full ep, el, ep) (inner_made r c 0 (omega arith))

  pub order_other_way : answer ≡ from_masks r c x y → l ≡ N → answer ≡ named_order l r c p
  order_other_way told el =
      let ep = none l p allowed (λ e. omega (arith, e, el)) in
      rw (told, ey ∙ ap row_full ep, ex ∙ ap column_full ep, el, ep) (turned_made r c 0 (omega arith))
