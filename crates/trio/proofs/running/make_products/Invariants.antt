use Rattle.std.proofs.Common.{◌≡◌, ◌-◌, take, drop}
use Rattle.laws.specs.Stores.{run_stored}
use Rattle.walk.specs.Walks.{walk_of}
use Rattle.trio.proofs.running.make_products.Given as goal

abbrev pub invariant-loop-n : goal.invariant-loop-n
invariant-loop-n g l =
    l.results ≡ run_stored g.E.Kind l.sizes (g.L.Placement.site l.left.placement.now) (g.R.Placement.site l.right.placement.now) (g.S.Placement.site l.target) l.left.store.now l.right.store.now l.initial.results (take (l.n - l.from) (drop l.from (walk_of l.sizes)))
