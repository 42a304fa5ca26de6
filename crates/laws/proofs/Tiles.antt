-- The product law.
use Rattle.std.proofs.Common.{◌≡◌, ℕ, zero, suc, ◌+◌, ◌-◌, ◌*◌, ◌/◌, ◌%◌, ◌^◌, ◌<◌, ◌≤◌, min, Bool, true, false, cond, ◌&&◌, eqb, ltb, leb, ◌⊎◌, List, [], ◌∷◌, take, sym, refl, ap, ◌∙◌, inl, inr, mod-lt, arith}
use Rattle.std.proofs.lemmas.Nat.{pow_pos, mul-le}
use Rattle.std.proofs.lemmas.List.Sums.{fold_more}
use Rattle.std.proofs.lemmas.Bool.{cases_order, cases_lt, lt-ltb, le-ltb, eq-eqb, ne_eqb}
use Rattle.std.proofs.lemmas.Bool.Decides.{nat_tests}
use Rattle.walk.specs.declared.sizes.Triple.{Triple}
use Rattle.walk.specs.declared.sizes.Sizes.{Sizes}
use Rattle.walk.specs.Walks.{Walks, inside, same, triple}
use Rattle.laws.specs.Products.{Table, Adds, added, added_between, full_sum, terms, first_of, past_of, covers, covered, tile, after, tile_table, table_after, ProductLaw, EntryLaw, PartLaw}
use Rattle.laws.proofs.Adding.{added_added, between_none, right_neutral, summed_first, total, total_same, total_plus, total_nought, total_counted}

-- the tile that covers an index of the side is the one with the quotient for its number
pub covers_only : (n t b i : ℕ) → i < n → covers n t b i ≡ eqb (i / 2 ^ t) b
covers_only n t b i h =
    let p = pow_pos t in
    let m = mod-lt i p in
    by (2 ^ t) (i / 2 ^ t) (i % 2 ^ t) (omega arith) m (cases_order (i / 2 ^ t) b)
  where
    by : (P I R : ℕ) → i ≡ I * P + R → R < P → (I ≡ b) ⊎ ((I < b) ⊎ (b < I)) → (leb (b * P) i && ltb i (min n (b * P + P))) ≡ eqb I b
    by P I R e l (inl o) = let s : I * P ≡ b * P = ap (λ (x : ℕ). x * P) o in grind (arith, nat_tests)
    by P I R e l (inr (inl o)) = let s = mul-le (I + 1) P b P (omega arith) (omega arith) in let u : b * P ≤ i → ⊥ = λ v. omega arith in grind (arith, nat_tests)
    by P I R e l (inr (inr o)) = let s = mul-le (b + 1) P I P (omega arith) (omega arith) in let u : i < b * P + P → ⊥ = λ v. omega arith in grind (arith, nat_tests)

-- a tile's sum of terms, alone
abbrev block : {E : Type 0} → (E → E → E) → E → Sizes → (ℕ → E) → ℕ → E
block plus nought s f b = added_between plus nought f (first_of s.order b) (past_of s.middle s.order b)

module _ {E : Type 0} (plus : E → E → E) (nought : E) (laws : Adds plus nought) (s : Sizes) (f : ℕ → E) where
  -- a tile past the edge has no terms
  no_block : (b : ℕ) → s.middle ≤ b * 2 ^ s.order → block plus nought s f b ≡ nought
  no_block b h =
      between_none plus nought f (first_of s.order b) (past_of s.middle s.order b) (omega arith)

  -- the first n blocks have the terms before the next one
  blocks : (n : ℕ) → added plus nought (block plus nought s f) n ≡ added plus nought f (min s.middle (n * 2 ^ s.order))
  blocks zero = let e : 0 ≡ min s.middle (0 * 2 ^ s.order) = omega arith in ap (added plus nought f) e
  blocks (suc n) = ap (λ (y : E). plus y (block plus nought s f n)) (blocks n) ∙ by (cases_lt (n * 2 ^ s.order) s.middle)
    where
      by : (n * 2 ^ s.order < s.middle) ⊎ (s.middle ≤ n * 2 ^ s.order)
          → plus (added plus nought f (min s.middle (n * 2 ^ s.order))) (block plus nought s f n) ≡ added plus nought f (min s.middle (suc n * 2 ^ s.order))
      by (inl l) =
          let m = n * 2 ^ s.order in
          let w = past_of s.middle s.order n - m in
          let a : min s.middle m ≡ m = omega arith in
          let b : m + w ≡ min s.middle (suc n * 2 ^ s.order) = omega arith in
          ap (λ (k : ℕ). plus (added plus nought f k) (block plus nought s f n)) a
          ∙ sym (summed_first plus nought laws (added plus nought f m) (λ k. f (m + k)) w)
          ∙ sym (added_added plus nought f m w)
          ∙ ap (added plus nought f) b
      by (inr l) =
          let a : min s.middle (n * 2 ^ s.order) ≡ min s.middle (suc n * 2 ^ s.order) = omega arith in
          ap (plus (added plus nought f (min s.middle (n * 2 ^ s.order)))) (no_block n l)
          ∙ right_neutral plus nought laws (added plus nought f (min s.middle (n * 2 ^ s.order)))
          ∙ ap (added plus nought f) a

  -- all of them have all terms
  all_blocks : added plus nought (block plus nought s f) s.middle ≡ added plus nought f s.middle
  all_blocks =
      let p = pow_pos s.order in
      let m = mul-le s.middle 1 s.middle (2 ^ s.order) (omega arith) (omega arith) in
      let e : min s.middle (s.middle * 2 ^ s.order) ≡ s.middle = omega arith in
      blocks s.middle ∙ ap (added plus nought f) e

  module _ (i j : ℕ) (hi : i < s.rows) (hj : j < s.columns) where
    -- what a triple adds, and the same where only the tiles of middle indices below n count
    adds : Triple → E
    adds t = cond (covered s t i j) (block plus nought s f t.middle) nought

    adds_below : ℕ → Triple → E
    adds_below n t = cond (covered s t i j && ltb t.middle n) (block plus nought s f t.middle) nought

    tile_adds : (x : E) (t : Triple) → tile plus s f i j x t ≡ plus x (adds t)
    unfolding tile adds
    tile_adds x t = by (covered s t i j)
      where
        by : (b : Bool) → cond b (added_between plus x f (first_of s.order t.middle) (past_of s.middle s.order t.middle)) x ≡ plus x (cond b (block plus nought s f t.middle) nought)
        by true =
            summed_first plus nought laws x (λ k. f (first_of s.order t.middle + k)) (past_of s.middle s.order t.middle - first_of s.order t.middle)
        by false = sym (right_neutral plus nought laws x)

    after_adds : (ts : List Triple) (x : E) → after plus s f i j ts x ≡ plus x (total plus nought laws adds ts)
    unfolding total
    after_adds [] x = sym (right_neutral plus nought laws x)
    after_adds (t ∷ ts) x =
        after_adds ts (tile plus s f i j x t)
        ∙ ap (λ (y : E). plus y (total plus nought laws adds ts)) (tile_adds x t)
        ∙ laws.associative x (adds t) (total plus nought laws adds ts)

    all_below : (t : Triple) → adds t ≡ adds_below s.middle t
    unfolding adds adds_below
    all_below t = by (cases_lt t.middle s.middle) (covered s t i j)
      where
        by : (t.middle < s.middle) ⊎ (s.middle ≤ t.middle) → (b : Bool) → cond b (block plus nought s f t.middle) nought ≡ cond (b && ltb t.middle s.middle) (block plus nought s f t.middle) nought
        by (inl l) true = rw (lt-ltb t.middle s.middle l)
        by (inr l) true =
            let p = pow_pos s.order in
            let m = mul-le t.middle 1 t.middle (2 ^ s.order) (omega arith) (omega arith) in
            rw (le-ltb t.middle s.middle l) (no_block t.middle (omega arith))
        by c false = refl

    -- the triple of the entry's row and column tiles and the middle tile n
    own : ℕ → Triple
    own n = triple (i / 2 ^ s.order) (j / 2 ^ s.order) n

    none_below : (t : Triple) → adds_below 0 t ≡ nought
    unfolding adds_below
    none_below t = by (covered s t i j)
      where
        by : (b : Bool) → cond (b && ltb t.middle 0) (block plus nought s f t.middle) nought ≡ nought
        by true = rw (le-ltb t.middle 0 (omega arith))
        by false = refl

    one_below : (n : ℕ) (t : Triple) → adds_below (suc n) t ≡ plus (adds_below n t) (cond (same (own n) t) (block plus nought s f n) nought)
    unfolding adds_below own
    one_below n t =
        rw (covers_only s.rows s.order t.row i hi, covers_only s.columns s.order t.column j hj)
        (by (eqb (i / 2 ^ s.order) t.row) (eqb (j / 2 ^ s.order) t.column) (cases_order t.middle n))
      where
        B : ℕ → E
        B m = block plus nought s f m

        by : (a b : Bool) → (t.middle ≡ n) ⊎ ((t.middle < n) ⊎ (n < t.middle)) → cond ((a && b) && ltb t.middle (suc n)) (B t.middle) nought ≡ plus (cond ((a && b) && ltb t.middle n) (B t.middle) nought) (cond (a && (b && eqb n t.middle)) (B n) nought)
        by true true (inl e) =
            rw (lt-ltb t.middle (suc n) (omega arith), le-ltb t.middle n (omega arith), eq-eqb n t.middle (sym e), e) (sym (laws.neutral (B n)))
        by true true (inr (inl l)) =
            rw (lt-ltb t.middle (suc n) (omega arith), lt-ltb t.middle n l, ne_eqb n t.middle (λ e. omega arith)) (sym (right_neutral plus nought laws (B t.middle)))
        by true true (inr (inr l)) =
            rw (le-ltb t.middle (suc n) l, le-ltb t.middle n (omega arith), ne_eqb n t.middle (λ e. omega arith)) (sym (laws.neutral nought))
        by true false c = sym (laws.neutral nought)
        by false b c = sym (laws.neutral nought)

    module _ (ts : List Triple) (walks : Walks s ts) where
      -- the triple of a middle tile stands in the walk once where its first index is inside; elsewhere its block has no terms
      own_once : (n : ℕ) → total plus nought laws (λ t. cond (same (own n) t) (block plus nought s f n) nought) ts ≡ block plus nought s f n
      unfolding inside own
      own_once n =
          total_counted plus nought laws (same (own n)) (block plus nought s f n) ts
          ∙ ap (added plus nought (λ _. block plus nought s f n)) (walks (own n))
          ∙ by (cases_lt (n * 2 ^ s.order) s.middle)
        where
          rows : ltb (i / 2 ^ s.order * 2 ^ s.order) s.rows ≡ true
          rows = lt-ltb (i / 2 ^ s.order * 2 ^ s.order) s.rows (omega arith)

          columns : ltb (j / 2 ^ s.order * 2 ^ s.order) s.columns ≡ true
          columns = lt-ltb (j / 2 ^ s.order * 2 ^ s.order) s.columns (omega arith)

          by : (n * 2 ^ s.order < s.middle) ⊎ (s.middle ≤ n * 2 ^ s.order) → added plus nought (λ _. block plus nought s f n) (cond (inside s (own n)) 1 0) ≡ block plus nought s f n
          by (inl l) = rw (rows, columns, lt-ltb (n * 2 ^ s.order) s.middle l) (laws.neutral (block plus nought s f n))
          by (inr l) = rw (rows, columns, le-ltb (n * 2 ^ s.order) s.middle l) (sym (no_block n l))

      below : (n : ℕ) → total plus nought laws (adds_below n) ts ≡ added plus nought (block plus nought s f) n
      below zero = total_nought plus nought laws (adds_below 0) none_below ts
      below (suc n) =
          let own_adds : Triple → E = λ t. cond (same (own n) t) (block plus nought s f n) nought in
          total_same plus nought laws (adds_below (suc n)) (λ t. plus (adds_below n t) (own_adds t)) (one_below n) ts
          ∙ total_plus plus nought laws (adds_below n) own_adds ts
          ∙ ap (λ (y : E). plus y (total plus nought laws own_adds ts)) (below n)
          ∙ ap (plus (added plus nought (block plus nought s f) n)) (own_once n)

      pub whole : (x : E) → after plus s f i j ts x ≡ plus x (full_sum plus nought f s.middle)
      whole x =
          after_adds ts x
          ∙ ap (plus x) (total_same plus nought laws adds (adds_below s.middle) all_below ts ∙ below s.middle ∙ all_blocks)

-- ---- the laws

pub entry_law : (E : Type 0) → EntryLaw E
entry_law E plus nought laws f x s ts walks i j hi hj = whole plus nought laws s f i j hi hj ts walks x

-- an entry of the table is what the triples make of that entry alone
pub one_entry : {E : Type 0} (plus : E → E → E) (s : Sizes) (f : ℕ → ℕ → ℕ → E) (ts : List Triple) (old : Table E) (i j : ℕ) → table_after plus s f ts old i j ≡ after plus s (f i j) i j ts (old i j)
one_entry plus s f [] old i j = refl
one_entry plus s f (t ∷ ts) old i j = one_entry plus s f ts (tile_table plus s f old t) i j

pub product_law : (E : Type 0) → ProductLaw E
product_law E plus nought laws times left right old s ts walks i j hi hj =
    one_entry plus s (terms times left right) ts old i j
    ∙ whole plus nought laws s (terms times left right i j) i j hi hj ts walks (old i j)

pub part_law : (E : Type 0) → PartLaw E
part_law E plus f old s ts n i j = (
  one_entry plus s f (take n ts) old i j,
  λ d h. ap (λ (a : Table E). a i j) (fold_more (tile_table plus s f) old ts n d h),
)
