use Rattle.std.proofs.Common.{◌≡◌, ◌<◌, ◌≤◌, ℕ, length, ap, refl, ◌∙◌, arith}
use Rattle.std.specs.declared.ops.Range.{Range}
use Rattle.laws.specs.Stores.{stored_terms}
use Rattle.product.proofs.Rooms.{room}
use Rattle.product.proofs.Steps.{sums, no_column, no_row, column_more, row_more, all_rows}
use Rattle.product.proofs.tile.tile_product.Goals as goal

pub covered-rows-requires-clause-tile : goal.covered-rows-requires-clause-tile
covered-rows-requires-clause-tile g c =
    let r = room (g.met.L.Placement.lawful c.args.left.placement.now) (g.met.R.Placement.lawful c.args.right.placement.now) c.requires.tables c.requires.triple in
    omega arith

pub covered-columns-requires-clause-tile : goal.covered-columns-requires-clause-tile
covered-columns-requires-clause-tile g c =
    let r = room (g.met.L.Placement.lawful c.args.left.placement.now) (g.met.R.Placement.lawful c.args.right.placement.now) c.requires.tables c.requires.triple in
    omega arith

pub covered-middle-requires-clause-tile : goal.covered-middle-requires-clause-tile
covered-middle-requires-clause-tile g c =
    let r = room (g.met.L.Placement.lawful c.args.left.placement.now) (g.met.R.Placement.lawful c.args.right.placement.now) c.requires.tables c.requires.triple in
    omega arith

pub loop-row-init : goal.loop-row-init
loop-row-init g c =
    let p = g.S.Placement.site c.args.target.now in
    let change = sums g.E.Kind (g.L.Placement.site c.args.left.placement.now) (g.R.Placement.site c.args.right.placement.now) c.args.left.store.now c.args.right.store.now c.covered-middle.result.start c.covered-middle.result.end in
    (refl, omega arith, λ h. h, no_row p (g.met.S.Placement.lawful c.args.target.now) g.E.Kind.nought change c.args.results.now c.requires.tables.result_store c.into_iter-row-iterator.result.start c.covered-columns.result.start c.covered-columns.result.end)

pub loop-column-init : goal.loop-column-init
loop-column-init g c =
    let p = g.S.Placement.site c.args.target.now in
    let change = sums g.E.Kind (g.L.Placement.site c.args.left.placement.now) (g.R.Placement.site c.args.right.placement.now) c.args.left.store.now c.args.right.store.now c.covered-middle.result.start c.covered-middle.result.end in
    let long : p.span ≤ length c.loop-row.results = omega (arith, c.requires.tables.result_store, c.loop-row.auto.results) in
    no_column p (g.met.S.Placement.lawful c.args.target.now) g.E.Kind.nought change c.loop-row.results long c.in-Some.row c.covered-columns.result.start

pub entry_sum-requires-clause-order : goal.entry_sum-requires-clause-order
entry_sum-requires-clause-order g c =
    let r = room (g.met.L.Placement.lawful c.args.left.placement.now) (g.met.R.Placement.lawful c.args.right.placement.now) c.requires.tables c.requires.triple in
    let m = r.middle in
    omega (arith, m, c.covered-middle.ensures.start, c.covered-middle.ensures.end)

pub loop-column-preserved : goal.loop-column-preserved
loop-column-preserved g c =
    let p = g.S.Placement.site c.args.target.now in
    let change = sums g.E.Kind (g.L.Placement.site c.args.left.placement.now) (g.R.Placement.site c.args.right.placement.now) c.args.left.store.now c.args.right.store.now c.covered-middle.result.start c.covered-middle.result.end in
    let long : p.span ≤ length c.loop-row.results = omega (arith, c.requires.tables.result_store, c.loop-row.auto.results) in
    let last = ap (λ (r : Range ℕ). r.end) c.into_iter-row-iterator.ensures.into_iter_gives in
    let row : c.in-Some.row < p.rows = omega (arith, c.requires.tables.result_rows, c.covered-rows.ensures.end, last, c.loop-row.invariant.0, c.in-Some.ensures.steps) in
    let column : c.loop-column.column < p.columns = omega (arith, c.requires.tables.result_columns, c.covered-columns.ensures.end, c.loop-column-test.true) in
    column_more p (g.met.S.Placement.lawful c.args.target.now) g.E.Kind.nought change c.loop-row.results long c.loop-column.results
    c.in-Some.row c.covered-columns.result.start c.loop-column.column c.cell_at-cell.result c.index-results-cell.result c.entry_sum.result
    (row, column) c.loop-column.auto.column c.loop-column.invariant c.cell_at-cell.ensures.value c.index-results-cell.is c.entry_sum.ensures

pub loop-row-preserved : goal.loop-row-preserved
loop-row-preserved g c =
    let p = g.S.Placement.site c.args.target.now in
    let change = sums g.E.Kind (g.L.Placement.site c.args.left.placement.now) (g.R.Placement.site c.args.right.placement.now) c.args.left.store.now c.args.right.store.now c.covered-middle.result.start c.covered-middle.result.end in
    let r = room (g.met.L.Placement.lawful c.args.left.placement.now) (g.met.R.Placement.lawful c.args.right.placement.now) c.requires.tables c.requires.triple in
    let over : c.loop-column.column ≡ c.covered-columns.result.end =
    let m = r.column in let k = c.loop-column.auto.column-end (omega (arith, m, c.covered-columns.ensures.start, c.covered-columns.ensures.end)) in omega (arith, c.loop-column-test.false) in
    let steps = c.in-Some.ensures.steps in
    let m = r.row in
    let kept = c.loop-row.invariant in
    let above : c.into_iter-row-iterator.result.start ≤ c.next.new.self.start = omega (arith, kept.1, steps) in (
      steps.0 ∙ kept.0,
      above,
      λ _. omega (arith, kept.0, steps),
      row_more p (g.met.S.Placement.lawful c.args.target.now) g.E.Kind.nought change c.args.results.now c.requires.tables.result_store c.loop-row.results c.loop-column.results
          c.into_iter-row-iterator.result.start c.loop-row.row-iterator.start c.covered-columns.result.start c.covered-columns.result.end c.loop-column.column c.in-Some.row c.next.new.self.start
          kept.1 over steps.1.1 steps.1.2 kept.3 c.loop-column.invariant,
    )

pub returns : goal.returns
returns g c =
    let r = room (g.met.L.Placement.lawful c.args.left.placement.now) (g.met.R.Placement.lawful c.args.right.placement.now) c.requires.tables c.requires.triple in
    let m = r.row in
    let kept = c.loop-row.invariant in
    let first = ap (λ (r : Range ℕ). r.start) c.into_iter-row-iterator.ensures.into_iter_gives in
    let last = ap (λ (r : Range ℕ). r.end) c.into_iter-row-iterator.ensures.into_iter_gives in
    let k = kept.2 (omega (arith, m, first, last, c.covered-rows.ensures.start, c.covered-rows.ensures.end)) in
    let over : c.loop-row.row-iterator.start ≡ c.covered-rows.result.end = omega (arith, k, last, kept.0, c.in-None.ensures.steps) in
    all_rows (g.S.Placement.site c.args.target.now) (g.met.S.Placement.lawful c.args.target.now) g.E.Kind.nought g.E.Kind.joined
    (stored_terms g.E.Kind (g.L.Placement.site c.args.left.placement.now) (g.R.Placement.site c.args.right.placement.now) c.args.left.store.now c.args.right.store.now)
    c.args.sizes c.args.triple c.args.results.now c.loop-row.results c.requires.tables.result_store
    c.into_iter-row-iterator.result.start c.covered-rows.result.end c.loop-row.row-iterator.start c.covered-columns.result.start c.covered-columns.result.end c.covered-middle.result.start c.covered-middle.result.end
    (first ∙ c.covered-rows.ensures.start) c.covered-rows.ensures.end c.covered-columns.ensures.start c.covered-columns.ensures.end c.covered-middle.ensures.start c.covered-middle.ensures.end
    over kept.3
