use Rattle.std.proofs.Common.{◌≡◌, ◌+◌, ◌-◌, ◌/◌, ◌^◌}
use Rattle.quadtree.proofs.block.Block.from_level_order.Given as goal

-- the blocks of the levels so far are taken off the index
abbrev pub invariant-loop-level : goal.invariant-loop-level
invariant-loop-level l = (4 ^ l.level - 1) / 3 + l.morton ≡ l.index
