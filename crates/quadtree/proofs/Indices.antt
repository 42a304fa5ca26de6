-- The two indices: their laws, what a call answers, and what comes back.
use Rattle.std.proofs.Common.{◌≡◌, ℕ, ◌+◌, ◌*◌, ◌^◌, ◌<◌, true, ltb, leb, Ok, Err, sym, refl, ap, ◌∙◌, ⊎_elim, arith}
use Rattle.std.proofs.lemmas.Bool.{cases_order, cases_Bool, and_from, and_parts, le-leb, lt-ltb, leb-true, ltb-true}
use Rattle.masked.specs.declared.refusal.Refusal.{Refusal}
use Rattle.masked.specs.declared.refusal.Refusal.TheVariants.{Block as NoBlock}
use Rattle.quadtree.specs.declared.block.Block.{Block}
use Rattle.quadtree.specs.Blocks.{IsBlock, is_block, ahnentafel_of, level_order_of, index_answer, start_answer, HasIndex, BlockAt}
use Rattle.quadtree.specs.Laws.{Tree, LevelOrder, ThereAndBack}
use Rattle.quadtree.proofs.Powers.{pow_more, level_third, level_more, pow_above, pow_small}

pub tree : Tree
tree = record {
  root = (omega arith, omega arith);
  only = λ m h. omega (arith, h.1);
  down = λ l m q less small h. (let p = pow_more l in (omega arith, omega (arith, h.1)));
  up = λ l m h. (let p = pow_more l in (omega (arith, h.0), omega (arith, h.1)));
}

pub level_order_law : LevelOrder
level_order_law = record {
  root = refl;
  child = λ l m q h. (let e = level_more l in let t = level_third l in omega arith);
}

-- the test of a block
pub block_true : (l m : ℕ) → IsBlock l m → is_block l m ≡ true
block_true l m (h, k) = and_from (leb l 12) (ltb m (4 ^ l)) (le-leb l 12 h) (lt-ltb m (4 ^ l) k)

pub true_block : (l m : ℕ) → is_block l m ≡ true → IsBlock l m
true_block l m e = let p = and_parts (leb l 12) (ltb m (4 ^ l)) e in (leb-true l 12 p.0, ltb-true m (4 ^ l) p.1)

-- what a caller learns of a level start that is answered, and of a refusal
pub started : (l m s : ℕ) → Ok s ≡ start_answer l m → IsBlock l m × (s ≡ 3 * 4 ^ l)
started l m s e =
    ⊎_elim
    (λ t. let w : Ok s ≡ Ok (3 * 4 ^ l) = rw t at e in let same : s ≡ 3 * 4 ^ l = cc in (true_block l m t, same))
    (λ f. let w : Ok s ≡ Err NoBlock = rw f at e in let z : ◌≡◌ {A = ℕ} 0 1 = cc in absurd (omega arith))
    (cases_Bool (is_block l m))

pub refused : (index_of : ℕ → ℕ → ℕ) (l m : ℕ) (r : Refusal) → Err r ≡ start_answer l m → Err r ≡ index_answer index_of l m
refused index_of l m r e =
    ⊎_elim
    (λ t. let w : Err r ≡ Ok (3 * 4 ^ l) = rw t at e in let z : ◌≡◌ {A = ℕ} 0 1 = cc in absurd (omega arith))
    (λ f. let w : Err r ≡ Err NoBlock = rw f at e in rw f w)
    (cases_Bool (is_block l m))

-- the index from the level start, and that it fits
pub start_small : (l m s : ℕ) → IsBlock l m → s ≡ 3 * 4 ^ l → s + m < 2 ^ 32
start_small l m s h e = let p = pow_small l h.0 in omega (arith, h.1)

pub index_given : (index_of : ℕ → ℕ → ℕ) (l m i : ℕ) → IsBlock l m → i ≡ index_of l m → Ok i ≡ index_answer index_of l m
index_given index_of l m i h e = rw (block_true l m h) (ap Ok e)

-- an index that is answered is that of a block
answered : (index_of : ℕ → ℕ → ℕ) (l m i : ℕ) → index_answer index_of l m ≡ Ok i → IsBlock l m × (index_of l m ≡ i)
answered index_of l m i e =
    ⊎_elim
    (λ t. let w : Ok (index_of l m) ≡ Ok i = rw t at e in let same : index_of l m ≡ i = cc in (true_block l m t, same))
    (λ f. let w : Err NoBlock ≡ Ok i = rw f at e in let z : ◌≡◌ {A = ℕ} 0 1 = cc in absurd (omega arith))
    (cases_Bool (is_block l m))

-- the indices of a level lie below those of the next, and those of one level apart
abbrev pub Ordered : (ℕ → ℕ → ℕ) → Type 0
Ordered index_of = (l m k n : ℕ) → m < 4 ^ l → l < k → index_of l m < index_of k n

abbrev pub ToldApart : (ℕ → ℕ → ℕ) → Type 0
ToldApart index_of = (l m n : ℕ) → index_of l m ≡ index_of l n → m ≡ n

pub ahnentafel_ordered : Ordered ahnentafel_of
ahnentafel_ordered l m k n h less = let p = pow_above l k less in omega arith

pub level_order_ordered : Ordered level_order_of
level_order_ordered l m k n h less = let p = pow_above l k less in let t = level_third l in omega arith

pub ahnentafel_apart : ToldApart ahnentafel_of
ahnentafel_apart l m n e = omega arith

pub level_order_apart : ToldApart level_order_of
level_order_apart l m n e = omega arith

-- the level-order indices end with level 12
pub past : (l m n : ℕ) → IsBlock l m → level_order_of l m ≡ level_order_of 13 n → ⊥
past l m n (h, k) e = let o = level_order_ordered l m 13 n k (omega arith) in omega arith

-- a block is its level and its Morton index
same_block : (b c : Block) → b.level ≡ c.level → b.morton ≡ c.morton → b ≡ c
same_block b c p q =
    let at : ℕ → ℕ → Block = λ l m. record { level = l; morton = m } in
    ap (λ (l : ℕ). at l b.morton) p ∙ ap (λ (m : ℕ). at c.level m) q

module _ (index_of : ℕ → ℕ → ℕ) (ordered : Ordered index_of) (apart : ToldApart index_of) where
  pub one_block : (b c : Block) (i : ℕ) → HasIndex index_of b i → HasIndex index_of c i → b ≡ c
  one_block b c i (p, e) (q, f) =
      ⊎_elim
      (λ same.
      let g : index_of c.level b.morton ≡ index_of c.level c.morton = rw same at (e ∙ sym f) in
      same_block b c same (apart c.level b.morton c.morton g))
      (⊎_elim
      (λ less. absurd (let h = ordered b.level b.morton c.level c.morton p.1 less in omega arith))
      (λ less. absurd (let h = ordered c.level c.morton b.level b.morton q.1 less in omega arith)))
      (cases_order b.level c.level)

  pub found : (b : Block) (i : ℕ) → HasIndex index_of b i → BlockAt index_of i (Ok b)
  found b i h = record {
    there = λ c k. ap Ok (one_block b c i h k);
    back = λ c e. (let same : b ≡ c = cc in rw same at h);
    none = λ e k. (let z : ◌≡◌ {A = ℕ} 0 1 = cc in absurd (omega arith));
  }

  pub there_and_back : ThereAndBack index_of
  there_and_back = record {
    one = one_block;
    same = λ b i answer e at. at.there b (answered index_of b.level b.morton i e);
  }

pub missing : (index_of : ℕ → ℕ → ℕ) (i : ℕ) → ((b : Block) → HasIndex index_of b i → ⊥) → BlockAt index_of i (Err NoBlock)
missing index_of i no_one = record {
  there = λ b h. absurd (no_one b h);
  back = λ b e. (let z : ◌≡◌ {A = ℕ} 0 1 = cc in absurd (omega arith));
  none = λ e k. (let same : e ≡ NoBlock = cc in (same, no_one));
}
