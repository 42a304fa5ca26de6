use Rattle.std.proofs.Common.{◌≡◌}
use Rattle.laws.specs.Products.{Table}
use Rattle.laws.specs.Stores.{row_stored, rows_stored}
use Rattle.trio.specs.Trios.{Computes}
use Rattle.trio.proofs.resting.fill.Given as goal

abbrev pub invariant-loop-column : goal.invariant-loop-column
invariant-loop-column g l =
    let p = g.P.Placement.site l.placement in
    (f : Table g.row.E.Denot) → Computes p (goal.F-post g l.entry) f → l.store ≡ row_stored (p.cell l.row) (f l.row) l.initial.store l.column

abbrev pub invariant-loop-row : goal.invariant-loop-row
invariant-loop-row g l =
    let p = g.P.Placement.site l.placement in
    (f : Table g.row.E.Denot) → Computes p (goal.F-post g l.entry) f → l.store ≡ rows_stored p f l.initial.store l.row
