-- The laws of the two indices: how those of a block's children come from its own, and that each belongs to one block.
use Rattle.std.specs.Prelude.{◌≡◌, ℕ, ◌+◌, ◌*◌, ◌/◌, ◌<◌, Ok, Result}
use Rattle.masked.specs.declared.refusal.Refusal.{Refusal}
use Rattle.quadtree.specs.declared.block.Block.{Block}
use Rattle.quadtree.specs.Blocks.{IsBlock, HasIndex, BlockAt, ahnentafel_of, level_order_of, index_answer}

-- the root is the one block of level 0; the children of the block with the Morton index m are the blocks
-- 4m to 4m + 3 one level down, and every block below the root is a child of a block
pub record Tree : Type 0 where
  pub root : IsBlock 0 0
  pub only : (m : ℕ) → IsBlock 0 m → m ≡ 0
  pub down : (l m q : ℕ) → l < 12 → q < 4 → IsBlock l m → IsBlock (l + 1) (4 * m + q)
  pub up : (l m : ℕ) → IsBlock (l + 1) m → IsBlock l (m / 4)

-- the root has index 3, and the children of block a are 4a to 4a + 3
pub record Ahnentafel : Type 0 where
  pub root : ahnentafel_of 0 0 ≡ 3
  pub child : (l m q : ℕ) → q < 4 → ahnentafel_of (l + 1) (4 * m + q) ≡ 4 * ahnentafel_of l m + q

-- the root has index 0, and the children of block i are 4i + 1 to 4i + 4
pub record LevelOrder : Type 0 where
  pub root : level_order_of 0 0 ≡ 0
  pub child : (l m q : ℕ) → q < 4 → level_order_of (l + 1) (4 * m + q) ≡ 4 * level_order_of l m + 1 + q

-- no two blocks have one index, and what comes back for the index of a block is that block
pub record ThereAndBack (index_of : ℕ → ℕ → ℕ) : Type 0 where
  pub one : (b c : Block) (i : ℕ) → HasIndex index_of b i → HasIndex index_of c i → b ≡ c
  pub same : (b : Block) (i : ℕ) (answer : Result Block Refusal) → index_answer index_of b.level b.morton ≡ Ok i → BlockAt index_of i answer → answer ≡ Ok b
