use Rattle.laws.specs.Stores.{entry_of}
use Rattle.product.proofs.Steps.{term_more}
use Rattle.product.proofs.entries.entry_sum.Goals as goal

pub loop-middle-preserved : goal.loop-middle-preserved
loop-middle-preserved g c =
    term_more g.E.Kind.joined g.E.Kind.chained
    (entry_of (g.L.Placement.site c.args.left.placement.now) g.E.Kind.nought c.args.left.store.now)
    (entry_of (g.R.Placement.site c.args.right.placement.now) g.E.Kind.nought c.args.right.store.now)
    c.args.row c.args.column c.args.entry c.args.middles.now.start c.loop-middle.middle
    c.loop-middle.sum c.entry.result c.entry-in-loop-middle.result c.plus_term-sum.result
    c.loop-middle.invariant c.entry.ensures c.entry-in-loop-middle.ensures c.plus_term-sum.ensures c.loop-middle.auto.middle
