use Rattle.std.proofs.Common.{◌≡◌, ◌+◌, ◌-◌, ◌/◌, ◌^◌, sym, ◌∙◌, arith}
use Rattle.quadtree.specs.Blocks.{level_order_of}
use Rattle.quadtree.proofs.Powers.{level_more}
use Rattle.quadtree.proofs.Starts.{start_is}
use Rattle.quadtree.proofs.Indices.{level_order_ordered, level_order_apart, found, missing, past, there_and_back}
use Rattle.quadtree.proofs.block.Block.from_level_order.Goals as goal

pub returns-then-morton-blocks : goal.returns-then-morton-blocks
returns-then-morton-blocks c =
    let s = start_is c.loop-level.level c.loop-level-test.true in
    record {
      value = found level_order_of level_order_ordered level_order_apart _ c.args.index ((omega arith, omega (arith, c.if-morton-blocks.true)), c.loop-level.invariant);
      law = there_and_back level_order_of level_order_ordered level_order_apart;
    }

pub loop-level-preserved : goal.loop-level-preserved
loop-level-preserved c =
    let s = start_is c.loop-level.level c.loop-level-test.true in
    let e = level_more c.loop-level.level in
    omega (arith, c.if-morton-blocks.false, c.loop-level.invariant)

pub returns : goal.returns
returns c =
    let all : c.loop-level.level ≡ 13 = omega arith in
    let inv : (4 ^ c.loop-level.level - 1) / 3 + c.loop-level.morton ≡ c.args.index = c.loop-level.invariant in
    let end : (4 ^ 13 - 1) / 3 + c.loop-level.morton ≡ c.args.index = rw all at inv in
    record {
      value = missing level_order_of c.args.index (λ b h. past b.level b.morton c.loop-level.morton h.0 (h.1 ∙ sym end));
      law = there_and_back level_order_of level_order_ordered level_order_apart;
    }
