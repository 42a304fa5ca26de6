use Rattle.std.proofs.Common.{◌≡◌, ◌*◌, arith}
use Rattle.placement.proofs.Cells.{idle_total}
use Rattle.placement.proofs.idle.Goals as goal

pub overflow_sub-result : goal.overflow_sub-result
overflow_sub-result g c =
    let s = g.P.Placement.site c.args.placement.now in
    let t = idle_total s (g.met.P.Placement.lawful c.args.placement.now) in
    let e : c.shape-shape.result.rows * c.shape-shape.result.columns ≡ s.rows * s.columns =
    rw (c.shape-shape.ensures.rows, c.shape-shape.ensures.columns) in
    omega (arith, t.0, c.span.ensures)

pub returns : goal.returns
returns g c =
    let s = g.P.Placement.site c.args.placement.now in
    let t = idle_total s (g.met.P.Placement.lawful c.args.placement.now) in
    let e : c.shape-shape.result.rows * c.shape-shape.result.columns ≡ s.rows * s.columns =
    rw (c.shape-shape.ensures.rows, c.shape-shape.ensures.columns) in
    record { value = omega (arith, t.1, c.span.ensures); total = omega (arith, t.0, c.span.ensures) }
