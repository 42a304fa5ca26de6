-- The reader looks at no more than thirteen bytes: of two inputs that are longer and begin alike it says the same.
use Rattle.std.proofs.Common.{◌≡◌, ℕ, zero, suc, ◌+◌, ◌*◌, ◌%◌, ◌^◌, ◌<◌, ◌≤◌, false, cond, not, eqb, ltb, leb, List, [], ◌∷◌, ◌++◌, length, get_or, drop, Ok, Err, Result, sym, refl, ap, ◌∙◌, inl, inr, pow-suc, arith, length-append}
use Rattle.std.proofs.lemmas.List.{drop_more, get_or_append_left}
use Rattle.std.proofs.lemmas.Bool.{cases_Bool, cond-true, cond-false, lt-leb, eqb-false, not-true}
use Rattle.masked.specs.declared.refusal.Refusal.TheVariants.{Ended, TooLong, Padded}
use Rattle.plans.specs.Plans.{Plan, by_masks, by_row_stride, by_column_stride}
use Rattle.decoding.specs.Laws as laws
use Rattle.decoding.specs.Reading.{fault, number, and_then, led_by, number_by, number_at, kind_at, side_at, mask_at, column_mask_at, stride_at, ended, masks_at, row_stride_at, column_stride_at, body_at, accepted}
use Rattle.decoding.specs.declared.decoded.Number.{Number}
use Rattle.decoding.specs.declared.fault.Fault.{Fault}
use Rattle.decoding.proofs.Accepted.{no_err, ok_same, and_then_ok, unless_ok, kind_read, side_read, mask_read, column_mask_read, stride_read}

-- ---- how far a number reaches

-- one byte more before a number that is not 0
further : (j at v next whole end low : ℕ) → (v ≡ 0 → ⊥) → low + 128 * v ≡ whole → next ≡ end → whole < 128 ^ suc j → ((i : ℕ) → v < 128 ^ suc i → next ≤ at + 1 + suc i) → end ≤ at + suc j
further zero at v next whole end low some e d h r = absurd (omega (arith, some))
further (suc j) at v next whole end low some e d h r =
    let p = pow-suc 128 (suc j) in
    let l = r j (omega arith) in
    omega arith

-- a small number is short
reach_by : (end first k j at : ℕ) (bs : List ℕ) (n : Number) → number_by end first k at bs ≡ Ok n → n.value < 128 ^ suc j → n.next ≤ at + suc j
reach_by end first zero j at bs n e h = no_err (fault TooLong first) n e
reach_by end first (suc k) j at [] n e h = no_err (fault Ended end) n e
reach_by end first (suc k) j at (b ∷ bs) n e h =
    elim (cases_Bool (ltb b 128)) [
      | inl t ↦
          let same = ok_same (number b (at + 1)) n (sym (cond-true (ltb b 128) _ _ t) ∙ e) in
          let next_is : at + 1 ≡ n.next = ap (λ (m : Number). m.next) same in
          omega arith
      | inr t ↦
          let a = and_then_ok (number_by end first k (at + 1) bs) _ n (sym (cond-false (ltb b 128) _ _ t) ∙ e) in
          let m : Number = a.0 in
          let v : Number = number (b % 128 + 128 * m.value) m.next in
          let u = unless_ok (not (eqb m.value 0)) Padded first (Ok v) n a.2 in
          let some = eqb-false m.value 0 (not-true (eqb m.value 0) u.0) in
          let same = ok_same v n u.1 in
          let value_is : b % 128 + 128 * m.value ≡ n.value = ap (λ (z : Number). z.value) same in
          let next_is : m.next ≡ n.next = ap (λ (z : Number). z.next) same in
          further j at m.value m.next n.value n.next (b % 128) some value_is next_is h (λ i l. reach_by end first k i (at + 1) bs m a.1 l)
    ]

reach : (input : List ℕ) (at j : ℕ) (n : Number) → number_at input at ≡ Ok n → n.value < 128 ^ suc j → n.next ≤ at + suc j
unfolding number_at
reach input at j n e h = reach_by (length input) at 4 j at (drop at input) n e h

-- ---- the chain agrees where each step does

and_then_same : {X Y : Type 0} (r s : Result X Fault) (f g : X → Result Y Fault) → r ≡ s → ((x : X) → r ≡ Ok x → f x ≡ g x) → and_then r f ≡ and_then s g
and_then_same (Ok x) s f g e h = h x refl ∙ ap (λ (z : Result _ Fault). and_then z g) e
and_then_same (Err z) s f g e h = ap (λ (z : Result _ Fault). and_then z g) e

-- ---- two inputs that begin alike

module _ (front u v : List ℕ) where
  step_by : (w : List ℕ) (end first k at : ℕ) → at < length front → number_by end first (suc k) at (drop at (front ++ w)) ≡ cond (ltb (get_or front at 0) 128) (Ok (number (get_or front at 0) (at + 1))) (led_by first (get_or front at 0) (number_by end first k (at + 1) (drop (at + 1) (front ++ w))))
  step_by w end first k at h =
      let longer : at < length (front ++ w) = rw (length-append front w) (omega arith) in
      ap (number_by end first (suc k) at) (drop_more (front ++ w) at 0 longer ∙ ap (λ (b : ℕ). b ∷ drop (at + 1) (front ++ w)) (get_or_append_left front w 0 at h))

  same_by : (end other first k at : ℕ) → at + k ≤ length front → number_by end first k at (drop at (front ++ u)) ≡ number_by other first k at (drop at (front ++ v))
  same_by end other first zero at h = refl
  same_by end other first (suc k) at h =
      step_by u end first k at (omega arith)
      ∙ ap (λ (r : Result Number Fault). cond (ltb (get_or front at 0) 128) (Ok (number (get_or front at 0) (at + 1))) (led_by first (get_or front at 0) r)) (same_by end other first k (at + 1) (omega arith))
      ∙ sym (step_by v other first k at (omega arith))

  number_same : (at : ℕ) → at + 4 ≤ length front → number_at (front ++ u) at ≡ number_at (front ++ v) at
  unfolding number_at
  number_same at h = same_by (length (front ++ u)) (length (front ++ v)) at 4 at h

-- the inputs a and b are longer than thirteen bytes, and a number that begins within the first ten is the same in both
module _ (a b : List ℕ) (longer : 13 < length a) (longer' : 13 < length b) (alike : (at : ℕ) → at ≤ 9 → number_at a at ≡ number_at b at) where
  kind_same : kind_at a 0 ≡ kind_at b 0
  kind_same = and_then_same (number_at a 0) (number_at b 0) _ _ (alike 0 (omega arith)) (λ n e. refl)

  side_same : (at : ℕ) → at ≤ 9 → side_at a at ≡ side_at b at
  side_same at h = and_then_same (number_at a at) (number_at b at) _ _ (alike at h) (λ n e. refl)

  mask_same : (at entries : ℕ) → at ≤ 9 → mask_at a at entries ≡ mask_at b at entries
  mask_same at entries h = and_then_same (number_at a at) (number_at b at) _ _ (alike at h) (λ n e. refl)

  column_mask_same : (at columns row_mask : ℕ) → at ≤ 9 → column_mask_at a at columns row_mask ≡ column_mask_at b at columns row_mask
  column_mask_same at columns row_mask h = and_then_same (mask_at a at columns) (mask_at b at columns) _ _ (mask_same at columns h) (λ n e. refl)

  stride_same : (at near strided : ℕ) → at ≤ 9 → stride_at a at near strided ≡ stride_at b at near strided
  stride_same at near strided h = and_then_same (number_at a at) (number_at b at) _ _ (alike at h) (λ n e. refl)

  ended_same : (end : ℕ) (p : Plan) → end ≤ 13 → ended a end p ≡ ended b end p
  ended_same end p h =
      let t : leb (length a) end ≡ false = lt-leb (length a) end (omega arith) in
      let s : leb (length b) end ≡ false = lt-leb (length b) end (omega arith) in
      rw (t, s)

  masks_same : (at r c : ℕ) → at ≤ 5 → masks_at a at r c ≡ masks_at b at r c
  masks_same at r c h =
      and_then_same (mask_at a at r) (mask_at b at r) _ _ (mask_same at r (omega arith)) (λ y e.
      let row = mask_read a at r y e in
      let far : y.next ≤ at + 4 = reach a at 3 y row.is (omega (arith, row.positions)) in
      and_then_same (column_mask_at a y.next c y.value) (column_mask_at b y.next c y.value) _ _ (column_mask_same y.next c y.value (omega arith)) (λ x d.
      let column = column_mask_read a y.next c y.value x d in
      let end : x.next ≤ y.next + 4 = reach a y.next 3 x column.mask_is.is (omega (arith, column.mask_is.positions)) in
      ended_same x.next (by_masks r c y.value x.value) (omega arith)))

  stride_end : (at near strided : ℕ) (s : Number) → at ≤ 5 → stride_at a at near strided ≡ Ok s → s.next ≤ 13
  stride_end at near strided s h e =
      let t = stride_read a at near strided s e in
      let end : s.next ≤ at + 2 = reach a at 1 s t.is (omega (arith, t.limit)) in
      omega arith

  row_stride_same : (at r c : ℕ) → at ≤ 5 → row_stride_at a at r c ≡ row_stride_at b at r c
  row_stride_same at r c h =
      and_then_same (stride_at a at c r) (stride_at b at c r) _ _ (stride_same at c r (omega arith)) (λ s e.
      ended_same s.next (by_row_stride r c s.value) (stride_end at c r s h e))

  column_stride_same : (at r c : ℕ) → at ≤ 5 → column_stride_at a at r c ≡ column_stride_at b at r c
  column_stride_same at r c h =
      and_then_same (stride_at a at r c) (stride_at b at r c) _ _ (stride_same at r c (omega arith)) (λ s e.
      ended_same s.next (by_column_stride r c s.value) (stride_end at r c s h e))

  body_same : (k at r c : ℕ) → at ≤ 5 → body_at k a at r c ≡ body_at k b at r c
  body_same k at r c h =
      ap (λ (z : Result Plan Fault). cond (eqb k 0) z (cond (eqb k 1) (row_stride_at a at r c) (column_stride_at a at r c))) (masks_same at r c h)
      ∙ ap (λ (z : Result Plan Fault). cond (eqb k 0) (masks_at b at r c) (cond (eqb k 1) z (column_stride_at a at r c))) (row_stride_same at r c h)
      ∙ ap (λ (z : Result Plan Fault). cond (eqb k 0) (masks_at b at r c) (cond (eqb k 1) (row_stride_at b at r c) z)) (column_stride_same at r c h)

  accepted_same : accepted a ≡ accepted b
  accepted_same =
      and_then_same (kind_at a 0) (kind_at b 0) _ _ kind_same (λ kind e.
      let first = kind_read a 0 kind e in
      let one : kind.next ≤ 0 + 1 = reach a 0 0 kind first.0 (omega (arith, first.1)) in
      and_then_same (side_at a kind.next) (side_at b kind.next) _ _ (side_same kind.next (omega arith)) (λ rows d.
      let second = side_read a kind.next rows d in
      let two : rows.next ≤ kind.next + 2 = reach a kind.next 1 rows second.0 (omega (arith, second.1)) in
      and_then_same (side_at a rows.next) (side_at b rows.next) _ _ (side_same rows.next (omega arith)) (λ columns f.
      let third = side_read a rows.next columns f in
      let two' : columns.next ≤ rows.next + 2 = reach a rows.next 1 columns third.0 (omega (arith, third.1)) in
      body_same kind.value columns.next (rows.value + 1) (columns.value + 1) (omega arith))))

pub bounded : laws.Bounded
bounded front s t x y h =
    accepted_same (front ++ x ∷ s) (front ++ y ∷ t)
    (rw (length-append front (x ∷ s)) (omega arith)) (rw (length-append front (y ∷ t)) (omega arith))
    (λ at l. number_same front (x ∷ s) (y ∷ t) at (omega arith))
