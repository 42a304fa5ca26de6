use native.Mathlib.Omega.{arith}
use Rattle.plans.proofs.StrideLaws.{owner_strided, no_owner_strided}
use Rattle.by_strides.proofs.strides_placement.StridesPlacement.owner.Goals as goal
use Rattle.by_strides.proofs.strides_placement.StridesPlacement.owner.Goals.{else-row-self-via-then-row-self+else-column-self, else-row-self-via-else-row-self}

pub returns-then-column-self : goal.returns-then-column-self
returns-then-column-self g c =
    let p = c.args.self.now in
    owner_strided g.A.Axis.turns _ _ _ p.legal c.args.cell _ _ c.turned-row.ensures.line c.turned-row.ensures.place c.if-row-self.true c.if-column-self.true

pub returns-else-row-self : goal.returns-else-row-self
returns-else-row-self g c =
    let p = c.args.self.now in
    no_owner_strided g.A.Axis.turns _ _ _ p.legal c.args.cell _ _ c.turned-row.ensures.line c.turned-row.ensures.place
    (λ a b. elim c.else-row-self.branch [
      | else-row-self-via-then-row-self+else-column-self w ↦ omega (arith, b, w.if-column-self.false)
      | else-row-self-via-else-row-self w ↦ omega (arith, a, w.if-row-self.false)
    ])
