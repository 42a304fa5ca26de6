use Rattle.std.proofs.Common.{◌≡◌}
use Rattle.laws.specs.Products.{added_between}
use Rattle.laws.specs.Stores.{stored_terms}
use Rattle.product.proofs.entries.entry_sum.Given as goal

abbrev pub invariant-loop-middle : goal.invariant-loop-middle
invariant-loop-middle g l =
    l.sum ≡ added_between g.E.Kind.joined l.initial.sum (stored_terms g.E.Kind (g.L.Placement.site l.left.placement.now) (g.R.Placement.site l.right.placement.now) l.left.store.now l.right.store.now l.row l.column) l.middles.start l.middle
