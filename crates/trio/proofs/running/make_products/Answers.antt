use Rattle.std.proofs.Common.{sym, ◌∙◌}
use Rattle.trio.proofs.Products.{begins_at, product_next}
use Rattle.trio.proofs.running.make_products.Goals as goal

pub tile_product-requires-clause-triple : goal.tile_product-requires-clause-triple
tile_product-requires-clause-triple g c = begins_at c.args.sizes c.loop-n.n c.unwrap-triple.result (sym c.triple_at.ensures.value ∙ c.unwrap-triple.ensures)

pub loop-n-preserved : goal.loop-n-preserved
loop-n-preserved g c =
    product_next g.E.Kind c.args.sizes (g.L.Placement.site c.args.left.placement.now) (g.R.Placement.site c.args.right.placement.now) (g.S.Placement.site c.args.target.now)
    c.args.left.store.now c.args.right.store.now c.args.results.now c.loop-n.results c.tile_product.new.results
    c.args.from c.loop-n.n c.args.to c.unwrap-triple.result c.loop-n.auto.n c.loop-n-test.true c.requires.within
    (sym c.triple_at.ensures.value ∙ c.unwrap-triple.ensures) c.loop-n.invariant c.tile_product.ensures
