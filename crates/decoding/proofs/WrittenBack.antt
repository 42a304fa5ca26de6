-- What was read is written again: the input is the descriptor of the plan, which is legal.
use Rattle.std.proofs.Common.{◌≡◌, ℕ, zero, suc, ◌+◌, ◌-◌, ◌≤◌, List, [], ◌++◌, length, drop, Ok, ap, ◌∙◌, subst, arith}
use Rattle.std.proofs.lemmas.List.{drop_all}
use Rattle.plans.specs.Conditions.{StrideFits}
use Rattle.plans.specs.Plans.{Plan, by_masks, by_row_stride, by_column_stride, Legal}
use Rattle.writer.specs.Descriptors.{bytes_of}
use Rattle.writer.specs.Numbers.{groups}
use Rattle.decoding.specs.Laws.{Bytes}
use Rattle.decoding.specs.Reading.{kind_at, side_at, mask_at, column_mask_at, stride_at, masks_at, row_stride_at, column_stride_at, body_at, accepted}
use Rattle.decoding.specs.declared.decoded.Number.{Number}
use Rattle.decoding.proofs.Accepted.{and_then_ok, kind_read, side_read, mask_read, column_mask_read, StrideRead, stride_read, ended_read}
use Rattle.decoding.proofs.Readings.{written_here}

-- the plan is legal, and the input is what the writer writes of it
pub record Written (input : List ℕ) (p : Plan) : Type 0 where
  pub legal : Legal p
  pub again : input ≡ bytes_of p

-- rows and columns, from their last entries
less_one : (m : ℕ) → m + 1 - 1 ≡ m
less_one m = omega arith

side : (m : ℕ) → m ≤ 4095 → (1 ≤ m + 1) × (m + 1 ≤ 4096)
side m h = (omega arith, omega arith)

-- the input up to the shape, with what follows it
record Begun (input : List ℕ) (k m n at : ℕ) : Type 0 where
  tall : m ≤ 4095
  broad : n ≤ 4095
  front : input ≡ groups k ++ (groups m ++ (groups n ++ drop at input))

-- the whole input, once what follows the shape is known
whole : (input : List ℕ) (k m n at : ℕ) (tail : List ℕ) → Begun input k m n at → drop at input ≡ tail → input ≡ groups k ++ (groups (m + 1 - 1) ++ (groups (n + 1 - 1) ++ tail))
whole input k m n at tail b e = rw (less_one m, less_one n) (b.front ∙ ap (λ (t : List ℕ). groups k ++ (groups m ++ (groups n ++ t))) e)

masks_again : (input : List ℕ) (m n at : ℕ) (p : Plan) → Bytes input → Begun input 0 m n at → masks_at input at (m + 1) (n + 1) ≡ Ok p → Written input p
masks_again input m n at p h b e =
    let s = and_then_ok (mask_at input at (m + 1)) _ p e in
    let y : Number = s.0 in
    let t = and_then_ok (column_mask_at input y.next (n + 1) y.value) _ p s.2 in
    let x : Number = t.0 in
    let row = mask_read input at (m + 1) y s.1 in
    let column = column_mask_read input y.next (n + 1) y.value x t.1 in
    let plan = by_masks (m + 1) (n + 1) y.value x.value in
    let end = ended_read input x.next plan p t.2 in
    let tail : drop at input ≡ groups y.value ++ (groups x.value ++ []) =
    written_here input at y h row.is
    ∙ ap (λ (z : List ℕ). groups y.value ++ z) (written_here input y.next x h column.mask_is.is ∙ ap (λ (z : List ℕ). groups x.value ++ z) (drop_all x.next input end.1)) in
    subst (Written input) end.0 (record {
      legal = record {
        rows_side = side m b.tall;
        columns_side = side n b.broad;
        row_bits = row.bits;
        column_bits = column.mask_is.bits;
        row_positions = row.positions;
        column_positions = column.mask_is.positions;
        unshared = column.unshared;
      };
      again = whole input 0 m n at (groups y.value ++ (groups x.value ++ [])) b tail;
    })

-- a stride and the end of the input
stride_tail : (input : List ℕ) (at near strided : ℕ) (stride : Number) → Bytes input → StrideRead input at near strided stride → length input ≤ stride.next → drop at input ≡ groups stride.value ++ []
stride_tail input at near strided stride h r end = written_here input at stride h r.is ∙ ap (λ (z : List ℕ). groups stride.value ++ z) (drop_all stride.next input end)

stride_legal : (input : List ℕ) (at near strided : ℕ) (stride : Number) → 1 ≤ near → (1 ≤ strided) × (strided ≤ 4096) → StrideRead input at near strided stride → StrideFits near strided stride.value
stride_legal input at near strided stride some sides r = record {
  near_side = (some, r.reach);
  stride_limit = r.limit;
  strided_side = (omega (arith, sides.0, r.more_than_one), sides.1);
  no_power = r.no_power;
}

row_stride_again : (input : List ℕ) (m n at : ℕ) (p : Plan) → Bytes input → Begun input 1 m n at → row_stride_at input at (m + 1) (n + 1) ≡ Ok p → Written input p
row_stride_again input m n at p h b e =
    let s = and_then_ok (stride_at input at (n + 1) (m + 1)) _ p e in
    let stride : Number = s.0 in
    let r = stride_read input at (n + 1) (m + 1) stride s.1 in
    let end = ended_read input stride.next (by_row_stride (m + 1) (n + 1) stride.value) p s.2 in
    subst (Written input) end.0 (record {
      legal = stride_legal input at (n + 1) (m + 1) stride (omega arith) (side m b.tall) r;
      again = whole input 1 m n at (groups stride.value ++ []) b (stride_tail input at (n + 1) (m + 1) stride h r end.1);
    })

column_stride_again : (input : List ℕ) (m n at : ℕ) (p : Plan) → Bytes input → Begun input 2 m n at → column_stride_at input at (m + 1) (n + 1) ≡ Ok p → Written input p
column_stride_again input m n at p h b e =
    let s = and_then_ok (stride_at input at (m + 1) (n + 1)) _ p e in
    let stride : Number = s.0 in
    let r = stride_read input at (m + 1) (n + 1) stride s.1 in
    let end = ended_read input stride.next (by_column_stride (m + 1) (n + 1) stride.value) p s.2 in
    subst (Written input) end.0 (record {
      legal = stride_legal input at (m + 1) (n + 1) stride (omega arith) (side n b.broad) r;
      again = whole input 2 m n at (groups stride.value ++ []) b (stride_tail input at (m + 1) (n + 1) stride h r end.1);
    })

by_kind : (input : List ℕ) (k m n at : ℕ) (p : Plan) → Bytes input → k ≤ 2 → Begun input k m n at → body_at k input at (m + 1) (n + 1) ≡ Ok p → Written input p
by_kind input zero m n at p h l b e = masks_again input m n at p h b e
by_kind input (suc zero) m n at p h l b e = row_stride_again input m n at p h b e
by_kind input (suc (suc zero)) m n at p h l b e = column_stride_again input m n at p h b e
by_kind input (suc (suc (suc k))) m n at p h l b e = absurd (omega arith)

pub written_back : (input : List ℕ) (p : Plan) → Bytes input → accepted input ≡ Ok p → Written input p
written_back input p h e =
    let s = and_then_ok (kind_at input 0) _ p e in
    let kind : Number = s.0 in
    let t = and_then_ok (side_at input kind.next) _ p s.2 in
    let rows : Number = t.0 in
    let u = and_then_ok (side_at input rows.next) _ p t.2 in
    let columns : Number = u.0 in
    let first = kind_read input 0 kind s.1 in
    let second = side_read input kind.next rows t.1 in
    let third = side_read input rows.next columns u.1 in
    by_kind input kind.value rows.value columns.value columns.next p h first.1
    (record {
      tall = second.1;
      broad = third.1;
      front =
          written_here input 0 kind h first.0
          ∙ ap (λ (z : List ℕ). groups kind.value ++ z) (written_here input kind.next rows h second.0
          ∙ ap (λ (z : List ℕ). groups rows.value ++ z) (written_here input rows.next columns h third.0));
    })
    u.2
