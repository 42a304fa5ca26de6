use Rattle.std.proofs.Common.{◌≡◌, ℕ, ◌+◌, ◌*◌, ◌^◌, ◌<◌}
use Rattle.quadtree.proofs.block.Block.from_ahnentafel.Given as goal

-- no block of the levels so far has the index
abbrev pub invariant-loop-level : goal.invariant-loop-level
invariant-loop-level l = (k m : ℕ) → k < l.level → m < 4 ^ k → 3 * 4 ^ k + m ≡ l.index → ⊥
