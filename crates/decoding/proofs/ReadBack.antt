-- What was written is read: a descriptor of a legal plan passes every check.
use Rattle.std.proofs.Common.{◌≡◌, ℕ, ◌+◌, ◌-◌, ◌^◌, ◌<◌, ◌≤◌, true, false, eqb, ltb, leb, List, [], ◌++◌, length, drop, Ok, Result, sym, refl, ap, ◌∙◌, arith}
use lib.Bits.{bit_and}
use lib.Count.{ones}
use Rattle.std.proofs.lemmas.List.{length-drop}
use Rattle.std.proofs.lemmas.Bool.{le-leb, lt-ltb, eq-eqb, ne_eqb}
use Rattle.fields.specs.Fields.{width}
use Rattle.masked.specs.declared.refusal.Refusal.TheVariants.{MaskOverlap}
use Rattle.plans.specs.Conditions.{MasksFit, StrideFits}
use Rattle.plans.specs.Plans.{Plan, by_masks, by_row_stride, by_column_stride, Legal}
use Rattle.writer.specs.Descriptors.{bytes_of}
use Rattle.writer.specs.Numbers.{groups}
use Rattle.decoding.specs.Reading.{and_then, unless, number, kind_at, side_at, mask_at, column_mask_at, stride_at, ended, masks_at, row_stride_at, column_stride_at, body_at, accepted}
use Rattle.decoding.specs.declared.decoded.Number.{Number}
use Rattle.decoding.specs.declared.fault.Fault.{Fault}
use Rattle.decoding.proofs.Readings.{read_here}

-- the chain goes on
goes : {X Y : Type 0} (r : Result X Fault) (next : X → Result Y Fault) (x : X) → r ≡ Ok x → and_then r next ≡ next x
goes r next x e = ap (λ (z : Result _ Fault). and_then z next) e

-- the number n stands in the input from an offset on, and passes its checks
module _ (input : List ℕ) (at n : ℕ) (rest : List ℕ) (here : drop at input ≡ groups n ++ rest) where
  past : n < 2 ^ 28 → drop (at + length (groups n)) input ≡ rest
  past h = (read_here input at n rest here h).1

  kind_here : n ≤ 2 → kind_at input at ≡ Ok (number n (at + length (groups n)))
  kind_here h =
      let e = (read_here input at n rest here (omega arith)).0 in
      let t : leb n 2 ≡ true = le-leb n 2 h in
      rw (e, t)

  side_here : n ≤ 4095 → side_at input at ≡ Ok (number n (at + length (groups n)))
  side_here h =
      let e = (read_here input at n rest here (omega arith)).0 in
      let t : leb n 4095 ≡ true = le-leb n 4095 h in
      rw (e, t)

  mask_here : (entries : ℕ) → ones n ≡ width (entries - 1) → n < 2 ^ 24 → mask_at input at entries ≡ Ok (number n (at + length (groups n)))
  mask_here entries bits small =
      let e = (read_here input at n rest here (omega arith)).0 in
      let t : eqb (ones n) (width (entries - 1)) ≡ true = eq-eqb (ones n) (width (entries - 1)) bits in
      let u : ltb n (2 ^ 24) ≡ true = lt-ltb n (2 ^ 24) small in
      rw (e, t, u)

  column_mask_here : (columns row_mask : ℕ) → ones n ≡ width (columns - 1) → n < 2 ^ 24 → bit_and row_mask n ≡ 0 → column_mask_at input at columns row_mask ≡ Ok (number n (at + length (groups n)))
  column_mask_here columns row_mask bits small unshared =
      let e = mask_here columns bits small in
      let t : eqb (bit_and row_mask n) 0 ≡ true = eq-eqb (bit_and row_mask n) 0 unshared in
      ap (λ r. and_then r (λ mask. unless (eqb (bit_and row_mask mask.value) 0) MaskOverlap at (Ok mask))) e ∙ rw t

  stride_here : (near strided : ℕ) → StrideFits near strided n → stride_at input at near strided ≡ Ok (number n (at + length (groups n)))
  stride_here near strided fits =
      let e = (read_here input at n rest here (omega (arith, fits.stride_limit))).0 in
      let t : leb near n ≡ true = le-leb near n fits.near_side.1 in
      let u : leb n 4095 ≡ true = le-leb n 4095 fits.stride_limit in
      let v : eqb (ones n) 1 ≡ false = ne_eqb (ones n) 1 fits.no_power in
      let w : eqb strided 1 ≡ false = ne_eqb strided 1 (λ one. omega (arith, fits.strided_side.0)) in
      rw (e, t, u, v, w)

ended_here : (input : List ℕ) (end : ℕ) (plan : Plan) → drop end input ≡ [] → ended input end plan ≡ Ok plan
ended_here input end plan e =
    let none : length input - end ≡ 0 = sym (length-drop end input) ∙ ap length e in
    let t : leb (length input) end ≡ true = le-leb (length input) end (omega arith) in
    rw t

-- the shape is read, and what follows it is left
shape_here : (input : List ℕ) (k m n : ℕ) (rest : List ℕ) → input ≡ groups k ++ (groups m ++ (groups n ++ rest)) → k ≤ 2 → m ≤ 4095 → n ≤ 4095 → (at : ℕ) × (drop at input ≡ rest) × (accepted input ≡ body_at k input at (m + 1) (n + 1))
shape_here input k m n rest e small tall broad =
    let a : ℕ = 0 + length (groups k) in
    let b : ℕ = a + length (groups m) in
    let second : drop a input ≡ groups m ++ (groups n ++ rest) = past input 0 k (groups m ++ (groups n ++ rest)) e (omega arith) in
    let third : drop b input ≡ groups n ++ rest = past input a m (groups n ++ rest) second (omega arith) in (
      b + length (groups n),
      past input b n rest third (omega arith),
      reads (kind_at input 0) (side_at input) (body input) (number k a) (number m b) (number n (b + length (groups n)))
          (kind_here input 0 k (groups m ++ (groups n ++ rest)) e small)
          (side_here input a m (groups n ++ rest) second tall)
          (side_here input b n rest third broad),
    )
  where
    body : List ℕ → Number → Number → Number → Result Plan Fault
    body input kind rows columns = body_at kind.value input columns.next (rows.value + 1) (columns.value + 1)

    reads : (kind : Result Number Fault) (side : ℕ → Result Number Fault) (then : Number → Number → Number → Result Plan Fault) (k m n : Number) → kind ≡ Ok k → side k.next ≡ Ok m → side m.next ≡ Ok n →
        and_then kind (λ k. and_then (side k.next) (λ m. and_then (side m.next) (λ n. then k m n))) ≡ then k m n
    reads kind side then k m n p q r = rw (p, q, r)

masks_here : (input : List ℕ) (at r c y x : ℕ) → drop at input ≡ groups y ++ (groups x ++ []) → MasksFit r c y x → masks_at input at r c ≡ Ok (by_masks r c y x)
masks_here input at r c y x here fit =
    let a : ℕ = at + length (groups y) in
    let b : ℕ = a + length (groups x) in
    let second : drop a input ≡ groups x ++ [] = past input at y (groups x ++ []) here (omega (arith, fit.row_positions)) in
    let end : drop b input ≡ [] = past input a x [] second (omega (arith, fit.column_positions)) in
    goes (mask_at input at r) _ (number y a) (mask_here input at y (groups x ++ []) here r fit.row_bits fit.row_positions)
    ∙ goes (column_mask_at input a c y) _ (number x b) (column_mask_here input a x [] second c y fit.column_bits fit.column_positions fit.unshared)
    ∙ ended_here input b (by_masks r c y x) end

row_stride_here : (input : List ℕ) (at r c s : ℕ) → drop at input ≡ groups s ++ [] → StrideFits c r s → row_stride_at input at r c ≡ Ok (by_row_stride r c s)
row_stride_here input at r c s here fits =
    let a : ℕ = at + length (groups s) in
    goes (stride_at input at c r) _ (number s a) (stride_here input at s [] here c r fits)
    ∙ ended_here input a (by_row_stride r c s) (past input at s [] here (omega (arith, fits.stride_limit)))

column_stride_here : (input : List ℕ) (at r c s : ℕ) → drop at input ≡ groups s ++ [] → StrideFits r c s → column_stride_at input at r c ≡ Ok (by_column_stride r c s)
column_stride_here input at r c s here fits =
    let a : ℕ = at + length (groups s) in
    goes (stride_at input at r c) _ (number s a) (stride_here input at s [] here r c fits)
    ∙ ended_here input a (by_column_stride r c s) (past input at s [] here (omega (arith, fits.stride_limit)))

-- a side and its last entry
back : (n : ℕ) → 1 ≤ n → n - 1 + 1 ≡ n
back n h = omega arith

-- the writer's bytes are read as the plan that was written
pub read_back : (p : Plan) → Legal p → accepted (bytes_of p) ≡ Ok p
read_back (by_masks r c y x) h =
    let t = shape_here (bytes_of (by_masks r c y x)) 0 (r - 1) (c - 1) (groups y ++ (groups x ++ [])) refl (omega arith) (omega (arith, h.rows_side.1)) (omega (arith, h.columns_side.1)) in
    t.2
    ∙ ap (λ n. masks_at (bytes_of (by_masks r c y x)) t.0 n (c - 1 + 1)) (back r h.rows_side.0)
    ∙ ap (λ n. masks_at (bytes_of (by_masks r c y x)) t.0 r n) (back c h.columns_side.0)
    ∙ masks_here (bytes_of (by_masks r c y x)) t.0 r c y x t.1 h
read_back (by_row_stride r c s) h =
    let t = shape_here (bytes_of (by_row_stride r c s)) 1 (r - 1) (c - 1) (groups s ++ []) refl (omega arith) (omega (arith, h.strided_side.1)) (omega (arith, h.near_side.1, h.stride_limit)) in
    t.2
    ∙ ap (λ n. row_stride_at (bytes_of (by_row_stride r c s)) t.0 n (c - 1 + 1)) (back r (omega (arith, h.strided_side.0)))
    ∙ ap (λ n. row_stride_at (bytes_of (by_row_stride r c s)) t.0 r n) (back c h.near_side.0)
    ∙ row_stride_here (bytes_of (by_row_stride r c s)) t.0 r c s t.1 h
read_back (by_column_stride r c s) h =
    let t = shape_here (bytes_of (by_column_stride r c s)) 2 (r - 1) (c - 1) (groups s ++ []) refl (omega arith) (omega (arith, h.near_side.1, h.stride_limit)) (omega (arith, h.strided_side.1)) in
    t.2
    ∙ ap (λ n. column_stride_at (bytes_of (by_column_stride r c s)) t.0 n (c - 1 + 1)) (back r h.near_side.0)
    ∙ ap (λ n. column_stride_at (bytes_of (by_column_stride r c s)) t.0 r n) (back c (omega (arith, h.strided_side.0)))
    ∙ column_stride_here (bytes_of (by_column_stride r c s)) t.0 r c s t.1 h
