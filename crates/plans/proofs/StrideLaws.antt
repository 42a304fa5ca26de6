-- Legal strides make placements, and how the owner of a cell is found.
use Rattle.std.proofs.Common.{◌≡◌, ℕ, ◌+◌, ◌-◌, ◌*◌, ◌/◌, ◌%◌, ◌<◌, ◌≤◌, Bool, true, false, Some, None, sym, refl, ap, ◌∙◌, mul_comm, arith}
use Rattle.std.proofs.lemmas.Nat.{mul-le, div-mul-add, mod-mul-add}
use Rattle.placement.specs.Sites.{Lawful, Owner}
use Rattle.placement.proofs.Owners.{owner_some, owner_none}
use Rattle.plans.specs.Conditions.{StrideFits}
use Rattle.plans.specs.Plans.{LinesFit, line_of, place_of, strided}

module _ (near far s : ℕ) (fit : StrideFits near far s) where
  quotient : (f n : ℕ) → n < near → (s * f + n) / s ≡ f
  quotient f n h = rw (mul_comm s f) (div-mul-add f s n (omega (arith, fit.near_side.1)))

  remainder : (f n : ℕ) → n < near → (s * f + n) % s ≡ n
  remainder f n h = rw (mul_comm s f) (mod-mul-add f s n (omega (arith, fit.near_side.1)))

  -- stretches of one stride do not meet
  apart : (f n g m : ℕ) → n < near → m < near → s * f + n ≡ s * g + m → (f ≡ g) × (n ≡ m)
  apart f n g m a b e = (
    sym (quotient f n a) ∙ ap (λ z. z / s) e ∙ quotient g m b,
    sym (remainder f n a) ∙ ap (λ z. z % s) e ∙ remainder g m b,
  )

  below : (f n : ℕ) → f < far → n < near → s * f + n < s * (far - 1) + (near - 1) + 1
  below f n a b =
      let m = mul-le s f s (far - 1) (omega arith) (omega arith) in
      omega arith

  limit : s * (far - 1) + (near - 1) + 1 ≤ 16777216
  limit =
      let m = mul-le s (far - 1) 4095 4095 fit.stride_limit (omega (arith, fit.strided_side.1)) in
      omega (arith, fit.near_side, fit.stride_limit)

  -- the cell is a stretch and a place in it
  whole : (at : ℕ) → s * (at / s) + at % s ≡ at
  whole at = omega arith

pub lawful_strided : (turns : Bool) (r c s : ℕ) → LinesFit turns r c s → Lawful (strided turns r c s)
lawful_strided false r c s fit = record {
  some_row = omega (arith, fit.strided_side.0);
  row_limit = fit.strided_side.1;
  some_column = fit.near_side.0;
  column_limit = omega (arith, fit.near_side.1, fit.stride_limit);
  span_limit = limit c r s fit;
  below = λ i j h. below c r s fit i j h.0 h.1;
  reached = (r - 1, c - 1, (omega (arith, fit.strided_side.0), omega (arith, fit.near_side.0)), refl);
  apart = λ i j k l h m e. apart c r s fit i j k l h.1 m.1 e;
}
lawful_strided true r c s fit = record {
  some_row = fit.near_side.0;
  row_limit = omega (arith, fit.near_side.1, fit.stride_limit);
  some_column = omega (arith, fit.strided_side.0);
  column_limit = fit.strided_side.1;
  span_limit = limit r c s fit;
  below = λ i j h. below r c s fit j i h.1 h.0;
  reached = (r - 1, c - 1, (omega (arith, fit.near_side.0), omega (arith, fit.strided_side.0)), refl);
  apart = λ i j k l h m e. (let p = apart r c s fit j i l k h.0 m.0 e in (p.1, p.0));
}

-- the entry of a cell's line and place has the cell
pub owner_strided : (turns : Bool) (r c s : ℕ) → LinesFit turns r c s → (at i j : ℕ) → i ≡ line_of turns (at / s) (at % s) → j ≡ place_of turns (at / s) (at % s) → i < r → j < c → Owner (strided turns r c s) at (Some (i, j))
owner_strided false r c s fit at i j ei ej a b = owner_some (strided false r c s) at i j (lawful_strided false r c s fit) (a, b) (rw (ei, ej) (whole c r s fit at))
owner_strided true r c s fit at i j ei ej a b = owner_some (strided true r c s) at i j (lawful_strided true r c s fit) (a, b) (rw (ei, ej) (whole r c s fit at))

-- no other has
pub no_owner_strided : (turns : Bool) (r c s : ℕ) → LinesFit turns r c s → (at i j : ℕ) → i ≡ line_of turns (at / s) (at % s) → j ≡ place_of turns (at / s) (at % s) → (i < r → j < c → ⊥) → Owner (strided turns r c s) at None
no_owner_strided false r c s fit at i j ei ej out =
    owner_none (strided false r c s) at
    (λ k l h e. out (rw (ei, sym e, quotient c r s fit k l h.1) h.0) (rw (ej, sym e, remainder c r s fit k l h.1) h.1))
no_owner_strided true r c s fit at i j ei ej out =
    owner_none (strided true r c s) at
    (λ k l h e. out (rw (ei, sym e, remainder r c s fit l k h.0) h.0) (rw (ej, sym e, quotient r c s fit l k h.0) h.1))
