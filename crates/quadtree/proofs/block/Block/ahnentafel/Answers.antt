use Rattle.std.proofs.Common.{arith}
use Rattle.quadtree.proofs.Indices.{started, start_small}
use Rattle.quadtree.proofs.block.Block.ahnentafel.Goals as goal

pub overflow_add-result : goal.overflow_add-result
overflow_add-result c =
    let s = started c.args.self.level c.args.self.morton _ c.in_ok-start.ensures in
    omega (arith, start_small c.args.self.level c.args.self.morton _ s.0 s.1)
