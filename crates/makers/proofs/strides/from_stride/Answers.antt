use Rattle.std.proofs.Common.{◌≤◌, rules, sym, ◌∙◌, inl, inr, arith}
use lib.Count.{ones}
use Rattle.std.proofs.lemmas.Nat.{mul-le}
use Rattle.std.proofs.lemmas.Bool.{eqb-true}
use Rattle.makers.proofs.Strided.{side_small, sides, StrideMade, made, stride_made}
use Rattle.makers.proofs.strides.from_stride.Goals as goal
use Rattle.makers.proofs.strides.from_stride.Goals.{Else-not-contains, After-turned-row_mask, then-is_power_of_two-via-then-is_power_of_two, then-is_power_of_two-via-else-is_power_of_two+then-lines-eq1}

-- the places reach no further than the stride, and that no further than 4,096
within : (g : _) (c : Else-not-contains g) → (c.turned-lines.result.1 ≤ c.args.stride) × (c.args.stride ≤ 4096)
within g c = (search rules, search rules)

pub overflow_mul-side_bits : goal.overflow_mul-side_bits
overflow_mul-side_bits g c =
    let t = sides g.A.Axis.turns c.args.shape.rows c.args.shape.columns (sym c.if-not-is_allowed.ensures) in
    let w = within g (goal.at.overflow_mul-side_bits g c).Else-not-contains in
    let small = side_small c.turned-lines.result.0 (rw c.turned-lines.ensures.line t.0) in
    omega (arith, mul-le c.side_bits.result c.args.stride 4095 4096 (omega (arith, c.side_bits.ensures)) (omega arith))

all : (g : _) (c : After-turned-row_mask g) → StrideMade g.A.Axis.turns c.args.shape.rows c.args.shape.columns c.args.stride c.turned-row_mask.result.0 c.turned-row_mask.result.1
all g c =
    let w = within g (goal.at.After-turned-row_mask g c).Else-not-contains in
    made g.A.Axis.turns c.args.shape.rows c.args.shape.columns c.args.stride _ _ _ _
    (sym c.if-not-is_allowed.ensures) (omega (arith, c.turned-lines.ensures.place, w.0)) w.1
    (elim c.then-is_power_of_two.branch [
      | then-is_power_of_two-via-then-is_power_of_two w ↦ inl (eqb-true (ones c.args.stride) 1 (sym c.is_power_of_two.ensures ∙ w.if-is_power_of_two.true))
      | then-is_power_of_two-via-else-is_power_of_two+then-lines-eq1 w ↦ inr (sym c.turned-lines.ensures.line ∙ w.if-lines-eq1.true)
    ])
    (rw (sym c.turned-lines.ensures.line) c.side_bits.ensures) (rw (sym c.turned-lines.ensures.place) c.side_bits-then-is_power_of_two.ensures)
    c.turned-row_mask.ensures.line c.turned-row_mask.ensures.place

pub invariant_of-result : goal.invariant_of-result
invariant_of-result g c =
    let f = (all g c).fit in
    record { tall = f.rows_side; broad = f.columns_side; rowbits = f.row_bits; columnbits = f.column_bits; rowplaces = f.row_positions; columnplaces = f.column_positions; unshared = f.unshared }

pub returns-then-is_power_of_two-clause-places : goal.returns-then-is_power_of_two-clause-places
returns-then-is_power_of_two-clause-places g c = (all g (goal.at.returns-then-is_power_of_two-clause-places g c).After-turned-row_mask).places

pub layout-requires : goal.layout-requires
layout-requires g c =
    let w = within g (goal.at.layout-requires g c).Else-not-contains in
    stride_made _ _ c.args.stride
    (sides g.A.Axis.turns c.args.shape.rows c.args.shape.columns (sym c.if-not-is_allowed.ensures))
    (omega (arith, c.turned-lines.ensures.place, w.0)) w.1 (sym c.if-is_power_of_two.ensures)
    (λ e. c.if-lines-eq1.false (c.turned-lines.ensures.line ∙ e))
