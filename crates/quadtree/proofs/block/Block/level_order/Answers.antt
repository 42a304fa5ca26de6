use Rattle.std.proofs.Common.{arith}
use Rattle.std.proofs.lemmas.Result.{err_from_is_err_and}
use Rattle.quadtree.specs.Blocks.{level_order_of}
use Rattle.quadtree.proofs.Indices.{level_order_law, started, refused, index_given}
use Rattle.quadtree.proofs.block.Block.level_order.Goals as goal

pub returns-in_err-start : goal.returns-in_err-start
returns-in_err-start c =
    let p = err_from_is_err_and c.from_residual.result c.from_residual.ensures.1 in
    record {
      value = rw (p.1, p.2) (refused level_order_of c.args.self.level c.args.self.morton _ c.in_err-start.ensures);
      law = level_order_law;
    }

pub returns : goal.returns
returns c =
    let s = started c.args.self.level c.args.self.morton _ c.in_ok-start.ensures in
    record {
      value = index_given level_order_of c.args.self.level c.args.self.morton _ s.0 (omega (arith, s.1));
      law = level_order_law;
    }
