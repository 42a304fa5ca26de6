use Rattle.std.proofs.Common.{◌≡◌, ◌<◌, arith}
use Rattle.trio.proofs.Fills.{first_column, column_next, first_row, row_next, all_rows}
use Rattle.trio.proofs.resting.fill.Goals as goal

pub loop-row-init : goal.loop-row-init
loop-row-init g c = λ f k. first_row (g.P.Placement.site c.args.placement.now) f c.args.store.now

pub loop-column-init : goal.loop-column-init
loop-column-init g c = λ f k. first_column (g.P.Placement.site c.args.placement.now) f c.loop-row.row c.loop-row.store

pub loop-column-preserved : goal.loop-column-preserved
loop-column-preserved g c =
    let p = g.P.Placement.site c.args.placement.now in
    let row : c.loop-row.row < p.rows = omega (arith, c.loop-row-test.true, c.shape-shape.ensures.rows) in
    let column : c.loop-column.column < p.columns = omega (arith, c.loop-column-test.true, c.shape-shape.ensures.columns) in
    λ f k. column_next p f c.loop-row.store c.loop-column.store c.put_entry.new.store c.loop-row.row c.loop-column.column c.entry.result
    (row, column) (c.loop-column.invariant f k) c.put_entry.ensures.cells (k c.loop-row.row c.loop-column.column c.entry.result (row, column) c.entry.ensures)

pub loop-row-preserved : goal.loop-row-preserved
loop-row-preserved g c =
    let p = g.P.Placement.site c.args.placement.now in
    let over : c.loop-column.column ≡ p.columns = omega (arith, c.loop-column-test.false, c.loop-column.auto.column-end, c.shape-shape.ensures.columns) in
    λ f k. row_next p f c.args.store.now c.loop-row.store c.loop-column.store c.loop-row.row c.loop-column.column (c.loop-row.invariant f k) (c.loop-column.invariant f k) over

pub returns : goal.returns
returns g c =
    let p = g.P.Placement.site c.args.placement.now in
    let over : c.loop-row.row ≡ p.rows = omega (arith, c.loop-row-test.false, c.loop-row.auto.row-end, c.shape-shape.ensures.rows) in
    λ f k. all_rows p f c.args.store.now c.loop-row.store c.loop-row.row (c.loop-row.invariant f k) over
