use Rattle.std.proofs.Common.{◌≡◌, ◌+◌, ◌≤◌}
use Rattle.laws.specs.Stores.{entry_of, stored}
use Rattle.product.proofs.Steps.{changed, sums}
use Rattle.product.proofs.tile.tile_product.Given as goal

abbrev pub invariant-loop-row : goal.invariant-loop-row
invariant-loop-row g l =
    let p = g.S.Placement.site l.target in
    let change = sums g.E.Kind (g.L.Placement.site l.left.placement.now) (g.R.Placement.site l.right.placement.now) l.left.store.now l.right.store.now l.middle.start l.middle.end in
    let rows = l.initial.row-iterator in
    (l.row-iterator.end ≡ rows.end) × (rows.start ≤ l.row-iterator.start) × (rows.start ≤ rows.end → l.row-iterator.start ≤ rows.end)
    × (l.results ≡ stored p (changed change rows.start l.row-iterator.start l.columns.start l.columns.end (entry_of p g.E.Kind.nought l.initial.results)) l.initial.results)

abbrev pub invariant-loop-column : goal.invariant-loop-column
invariant-loop-column g l =
    let p = g.S.Placement.site l.target in
    let change = sums g.E.Kind (g.L.Placement.site l.left.placement.now) (g.R.Placement.site l.right.placement.now) l.left.store.now l.right.store.now l.middle.start l.middle.end in
    l.results ≡ stored p (changed change l.row (l.row + 1) l.columns.start l.column (entry_of p g.E.Kind.nought l.initial.results)) l.initial.results
