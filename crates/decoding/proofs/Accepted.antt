-- What follows where a number, a check or a whole reading went well.
use Rattle.std.proofs.Common.{◌≡◌, ℕ, ◌-◌, ◌^◌, ◌<◌, ◌≤◌, Bool, true, false, not, ◌&&◌, ◌||◌, eqb, ltb, leb, List, length, Ok, Err, Result, sym, refl, ap, ◌∙◌, arith}
use lib.Bits.{bit_and}
use lib.Count.{ones}
use Rattle.std.proofs.lemmas.Bool.{leb-true, ltb-true, eqb-true, eqb-false, and_parts, or_parts, not-true}
use Rattle.fields.specs.Fields.{width}
use Rattle.masked.specs.declared.refusal.Refusal.{Refusal}
use Rattle.masked.specs.declared.refusal.Refusal.TheVariants.{Kind, Shape, MaskBits, MaskPosition, MaskOverlap, Stride, Uncanonical, Trailing}
use Rattle.plans.specs.Plans.{Plan}
use Rattle.decoding.specs.Reading.{fault, and_then, unless, number_at, kind_at, side_at, mask_at, column_mask_at, stride_at, ended}
use Rattle.decoding.specs.declared.decoded.Number.{Number}
use Rattle.decoding.specs.declared.fault.Fault.{Fault}

pub no_err : {X Y : Type 0} (f : Fault) (x : X) → ◌≡◌ {A = Result X Fault} (Err f) (Ok x) → Y
no_err f x e = absurd (let z : ◌≡◌ {A = ℕ} 0 1 = cc in omega arith)

pub and_then_ok : {X Y : Type 0} (r : Result X Fault) (next : X → Result Y Fault) (y : Y) → and_then r next ≡ Ok y → (x : X) × (r ≡ Ok x) × (next x ≡ Ok y)
and_then_ok (Ok x) next y e = (x, refl, e)
and_then_ok (Err f) next y e = no_err f y e

pub unless_ok : {Y : Type 0} (holds : Bool) (refusal : Refusal) (place : ℕ) (r : Result Y Fault) (y : Y) → unless holds refusal place r ≡ Ok y → (holds ≡ true) × (r ≡ Ok y)
unless_ok true refusal place r y e = (refl, e)
unless_ok false refusal place r y e = no_err (fault refusal place) y e

pub ok_same : {X : Type 0} (x y : X) → ◌≡◌ {A = Result X Fault} (Ok x) (Ok y) → x ≡ y
ok_same x y e = cc

-- a number that passed one check, or two
pub one_check : (r : Result Number Fault) (test : Number → Bool) (refusal : Refusal) (place : ℕ) (m : Number) → and_then r (λ n. unless (test n) refusal place (Ok n)) ≡ Ok m → (r ≡ Ok m) × (test m ≡ true)
one_check (Err f) test refusal place m e = no_err f m e
one_check (Ok n) test refusal place m e =
    let u = unless_ok (test n) refusal place (Ok n) m e in
    let same = ok_same n m u.1 in
    (u.1, ap test (sym same) ∙ u.0)

pub two_checks : (r : Result Number Fault) (test also : Number → Bool) (refusal other : Refusal) (place : ℕ) (m : Number) → and_then r (λ n. unless (test n) refusal place (unless (also n) other place (Ok n))) ≡ Ok m → (r ≡ Ok m) × (test m ≡ true) × (also m ≡ true)
two_checks (Err f) test also refusal other place m e = no_err f m e
two_checks (Ok n) test also refusal other place m e =
    let u = unless_ok (test n) refusal place (unless (also n) other place (Ok n)) m e in
    let v = unless_ok (also n) other place (Ok n) m u.1 in
    let same = ok_same n m v.1 in
    (v.1, ap test (sym same) ∙ u.0, ap also (sym same) ∙ v.0)

-- a mask that was read
pub record MaskRead (input : List ℕ) (at entries : ℕ) (mask : Number) : Type 0 where
  pub is : number_at input at ≡ Ok mask
  pub bits : ones mask.value ≡ width (entries - 1)
  pub positions : mask.value < 2 ^ 24

pub mask_read : (input : List ℕ) (at entries : ℕ) (mask : Number) → mask_at input at entries ≡ Ok mask → MaskRead input at entries mask
mask_read input at entries mask e =
    let t = two_checks (number_at input at) (λ n. eqb (ones n.value) (width (entries - 1))) (λ n. ltb n.value (2 ^ 24)) MaskBits MaskPosition at mask e in
    record { is = t.0; bits = eqb-true (ones mask.value) (width (entries - 1)) t.1; positions = ltb-true mask.value (2 ^ 24) t.2 }

-- a column mask that was read
pub record ColumnMaskRead (input : List ℕ) (at columns row_mask : ℕ) (mask : Number) : Type 0 where
  pub mask_is : MaskRead input at columns mask
  pub unshared : bit_and row_mask mask.value ≡ 0

pub column_mask_read : (input : List ℕ) (at columns row_mask : ℕ) (mask : Number) → column_mask_at input at columns row_mask ≡ Ok mask → ColumnMaskRead input at columns row_mask mask
column_mask_read input at columns row_mask mask e =
    let t = one_check (mask_at input at columns) (λ n. eqb (bit_and row_mask n.value) 0) MaskOverlap at mask e in
    record { mask_is = mask_read input at columns mask t.0; unshared = eqb-true (bit_and row_mask mask.value) 0 t.1 }

-- a stride that was read
pub record StrideRead (input : List ℕ) (at near strided : ℕ) (stride : Number) : Type 0 where
  pub is : number_at input at ≡ Ok stride
  pub reach : near ≤ stride.value
  pub limit : stride.value ≤ 4095
  pub no_power : ones stride.value ≡ 1 → ⊥
  pub more_than_one : strided ≡ 1 → ⊥

pub stride_read : (input : List ℕ) (at near strided : ℕ) (stride : Number) → stride_at input at near strided ≡ Ok stride → StrideRead input at near strided stride
stride_read input at near strided stride e =
    let t = two_checks (number_at input at) (λ n. leb near n.value && leb n.value 4095) (λ n. not (eqb (ones n.value) 1 || eqb strided 1)) Stride Uncanonical at stride e in
    let a = and_parts (leb near stride.value) (leb stride.value 4095) t.1 in
    let b = or_parts (eqb (ones stride.value) 1) (eqb strided 1) (not-true (eqb (ones stride.value) 1 || eqb strided 1) t.2) in
    record {
      is = t.0;
      reach = leb-true near stride.value a.0;
      limit = leb-true stride.value 4095 a.1;
      no_power = eqb-false (ones stride.value) 1 b.0;
      more_than_one = eqb-false strided 1 b.1;
    }

pub kind_read : (input : List ℕ) (at : ℕ) (kind : Number) → kind_at input at ≡ Ok kind → (number_at input at ≡ Ok kind) × (kind.value ≤ 2)
kind_read input at kind e =
    let t = one_check (number_at input at) (λ n. leb n.value 2) Kind at kind e in
    (t.0, leb-true kind.value 2 t.1)

pub side_read : (input : List ℕ) (at : ℕ) (last : Number) → side_at input at ≡ Ok last → (number_at input at ≡ Ok last) × (last.value ≤ 4095)
side_read input at last e =
    let t = one_check (number_at input at) (λ n. leb n.value 4095) Shape at last e in
    (t.0, leb-true last.value 4095 t.1)

pub ended_read : (input : List ℕ) (end : ℕ) (plan p : Plan) → ended input end plan ≡ Ok p → (plan ≡ p) × (length input ≤ end)
ended_read input end plan p e =
    let t = unless_ok (leb (length input) end) Trailing end (Ok plan) p e in
    (ok_same plan p t.1, leb-true (length input) end t.0)
