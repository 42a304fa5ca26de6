-- The blocks of a quadtree of levels 0 to 12, and their two indices.
use Rattle.std.specs.Prelude.{◌≡◌, ℕ, ◌+◌, ◌-◌, ◌*◌, ◌/◌, ◌^◌, ◌<◌, ◌≤◌, Bool, cond, ◌&&◌, Ok, Err, Result, nat_le, nat_lt}
use Rattle.masked.specs.declared.refusal.Refusal.{Refusal}
use Rattle.masked.specs.declared.refusal.Refusal.TheVariants.{Block as NoBlock}
use Rattle.quadtree.specs.declared.block.Block.{Block}

-- level l has 4^l blocks, with the Morton indices 0 to 4^l - 1
abbrev pub IsBlock : ℕ → ℕ → Type 0
IsBlock l m = (l ≤ 12) × (m < 4 ^ l)

-- the test of it
abbrev pub is_block : ℕ → ℕ → Bool
is_block l m = nat_le l 12 && nat_lt m (4 ^ l)

abbrev pub ahnentafel_of : ℕ → ℕ → ℕ
ahnentafel_of l m = 3 * 4 ^ l + m

abbrev pub level_order_of : ℕ → ℕ → ℕ
level_order_of l m = (4 ^ l - 1) / 3 + m

-- the index of a block, and the refusal for what is none
abbrev pub index_answer : (ℕ → ℕ → ℕ) → ℕ → ℕ → Result ℕ Refusal
index_answer index_of l m = cond (is_block l m) (Ok (index_of l m)) (Err NoBlock)

-- the Ahnentafel index at which the level of a block starts, and the refusal for what is none
abbrev pub start_answer : ℕ → ℕ → Result ℕ Refusal
start_answer l m = cond (is_block l m) (Ok (3 * 4 ^ l)) (Err NoBlock)

-- b is a block, and i is its index
abbrev pub HasIndex : (ℕ → ℕ → ℕ) → Block → ℕ → Type 0
HasIndex index_of b i = IsBlock b.level b.morton × (index_of b.level b.morton ≡ i)

-- the answer for the index i: the block that has it, or the refusal where no block has it
pub record BlockAt (index_of : ℕ → ℕ → ℕ) (i : ℕ) (answer : Result Block Refusal) : Type 0 where
  pub there : (b : Block) → HasIndex index_of b i → answer ≡ Ok b
  pub back : (b : Block) → answer ≡ Ok b → HasIndex index_of b i
  pub none : (e : Refusal) → answer ≡ Err e → (e ≡ NoBlock) × ((b : Block) → HasIndex index_of b i → ⊥)
