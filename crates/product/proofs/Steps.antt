-- How the loops go on: the entries of some rows and columns are changed, and one more column, and then one more row.
use Rattle.std.proofs.Common.{◌≡◌, ℕ, ◌+◌, ◌≤◌, Bool, true, false, cond, ◌&&◌, ltb, leb, ◌⊎◌, List, length, get_or, set, sym, refl, ap, ◌∙◌, inl, inr, arith}
use Rattle.std.proofs.lemmas.Bool.{cases_eq}
use Rattle.std.proofs.lemmas.Bool.Decides.{nat_tests}
use Rattle.kinds.specs.declared.kind.Kind.{Ghosts as Kinds}
use Rattle.placement.specs.Sites.{Site, Lawful, Inside}
use Rattle.walk.specs.declared.sizes.Triple.{Triple}
use Rattle.walk.specs.declared.sizes.Sizes.{Sizes}
use Rattle.laws.specs.Products.{Table, added_between, terms, first_of, past_of, tile, tile_table}
use Rattle.laws.specs.Stores.{entry_of, stored, stored_terms}
use Rattle.laws.proofs.Adding.{between_more}
use Rattle.laws.proofs.Stored.{stored_entry, stored_none, stored_same, stored_more, stored_stored}

-- one term more
pub term_more : {E : Type 0} (plus times : E → E → E) (left right : Table E) (i j : ℕ) (x : E) (from k : ℕ) (sum a b v : E)
    → sum ≡ added_between plus x (terms times left right i j) from k → a ≡ left i k → b ≡ right k j → v ≡ plus sum (times a b) → from ≤ k
    → v ≡ added_between plus x (terms times left right i j) from (k + 1)
term_more plus times left right i j x from k sum a b v es ea eb ev h =
    ev ∙ rw (es, ea, eb) (sym (between_more plus x (terms times left right i j) from k h))

-- the table in which the entries of the rows from a to b and the columns from c to d are changed by g
abbrev pub within : ℕ → ℕ → ℕ → Bool
within a b i = leb a i && ltb i b

abbrev pub changed : {E : Type 0} → (ℕ → ℕ → E → E) → (a b c d : ℕ) → Table E → Table E
changed g a b c d old i j = cond (within a b i && within c d j) (g i j (old i j)) (old i j)

-- the change that a tile makes
abbrev pub summed : {E : Type 0} → (E → E → E) → (ℕ → ℕ → ℕ → E) → ℕ → ℕ → ℕ → ℕ → E → E
summed plus f from to i j x = added_between plus x (f i j) from to

-- the same of the terms that two stores hold
abbrev pub sums : {E : Type 0} → Kinds E → (left right : Site) (lefts rights : List E) → ℕ → ℕ → ℕ → ℕ → E → E
sums kind left right lefts rights = summed kind.joined (stored_terms kind left right lefts rights)

-- ---- ranges

no_columns : (b : Bool) (c j : ℕ) → (b && within c c j) ≡ false
no_columns true c j = grind (arith, nat_tests)
no_columns false c j = refl

no_rows : (a i : ℕ) → within a a i ≡ false
no_rows a i = grind (arith, nat_tests)

one_row : (r i : ℕ) → within r (r + 1) i ≡ true → i ≡ r
one_row r i e = grind (arith, nat_tests)

row_in : (r : ℕ) → within r (r + 1) r ≡ true
row_in r = grind (arith, nat_tests)

not_yet : (a r : ℕ) → within a r r ≡ false
not_yet a r = grind (arith, nat_tests)

just_now : (a r : ℕ) → a ≤ r → within a (r + 1) r ≡ true
just_now a r h = grind (arith, nat_tests)

other_place : (a r i : ℕ) → a ≤ r → (i ≡ r → ⊥) → within a (r + 1) i ≡ within a r i
other_place a r i h ne = grind (arith, nat_tests)

other_row : (r i : ℕ) → (i ≡ r → ⊥) → within r (r + 1) i ≡ false
other_row r i ne = grind (arith, nat_tests)

-- ---- one column more in a row, and one row more

module _ {E : Type 0} (g : ℕ → ℕ → E → E) (old : Table E) where
  before : (r c j : ℕ) → changed g r (r + 1) c j old r j ≡ old r j
  before r c j = rw (row_in r, not_yet c j)

  made : (r c j : ℕ) → c ≤ j → changed g r (r + 1) c (j + 1) old r j ≡ g r j (old r j)
  made r c j le = rw (row_in r, just_now c j le)

  unmade : (r c j k l : ℕ) → c ≤ j → ((k ≡ r) × (l ≡ j) → ⊥) → changed g r (r + 1) c (j + 1) old k l ≡ changed g r (r + 1) c j old k l
  unmade r c j k l le ne = by (cases_eq k r)
    where
      by : (k ≡ r) ⊎ (k ≡ r → ⊥) → changed g r (r + 1) c (j + 1) old k l ≡ changed g r (r + 1) c j old k l
      by (inl e) = rw (other_place c j l le (λ o. ne (e, o)))
      by (inr e) = rw (other_row r k e)

  -- a row that is changed after those before it
  row_made : (a r c d i j : ℕ) (y : E) → a ≤ r → y ≡ changed g a r c d old i j → cond (within r (r + 1) i && within c d j) (g i j y) y ≡ changed g a (r + 1) c d old i j
  row_made a r c d i j y le e = by (cases_eq i r)
    where
      by : (i ≡ r) ⊎ (i ≡ r → ⊥) → cond (within r (r + 1) i && within c d j) (g i j y) y ≡ changed g a (r + 1) c d old i j
      by (inl o) =
          let plain : changed g a r c d old i j ≡ old i j = rw (o, not_yet a r) in
          rw (e ∙ plain, o, row_in r, just_now a r le)
      by (inr o) = rw (other_row r i o, e, other_place a r i le o)

module _ {E : Type 0} (p : Site) (law : Lawful p) (nought : E) (g : ℕ → ℕ → E → E) (s : List E) (long : p.span ≤ length s) where
  pub no_column : (r c : ℕ) → s ≡ stored p (changed g r (r + 1) c c (entry_of p nought s)) s
  no_column r c =
      stored_none p law s long (changed g r (r + 1) c c (entry_of p nought s)) nought
      (λ i j h. rw (no_columns (within r (r + 1) i) c j))

  pub no_row : (a c d : ℕ) → s ≡ stored p (changed g a a c d (entry_of p nought s)) s
  no_row a c d =
      stored_none p law s long (changed g a a c d (entry_of p nought s)) nought
      (λ i j h. rw (no_rows a i))

  pub column_more : (later : List E) (r c j a : ℕ) (x v : E) → Inside p r j → c ≤ j
      → later ≡ stored p (changed g r (r + 1) c j (entry_of p nought s)) s
      → a ≡ p.cell r j → x ≡ get_or later a x → v ≡ g r j x
      → set later a v ≡ stored p (changed g r (r + 1) c (j + 1) (entry_of p nought s)) s
  column_more later r c j a x v h le e ea ex ev =
      let old = entry_of p nought s in
      let f = changed g r (r + 1) c j old in
      let f' = changed g r (r + 1) c (j + 1) old in
      let read : x ≡ old r j = ex ∙ rw (e, ea) (stored_entry p law s long f r j x h ∙ before g old r c j) in
      let value : v ≡ f' r j = ev ∙ ap (g r j) read ∙ sym (made g old r c j le) in
      rw (value, ea, e) (stored_more p law s long f f' r j h (λ k l w ne. unmade g old r c j k l le ne))

  pub row_more : (now later : List E) (a r c d j row next : ℕ) → a ≤ r → j ≡ d → row ≡ r → next ≡ r + 1
      → now ≡ stored p (changed g a r c d (entry_of p nought s)) s
      → later ≡ stored p (changed g row (row + 1) c j (entry_of p nought now)) now
      → later ≡ stored p (changed g a next c d (entry_of p nought s)) s
  row_more now later a r c d j row next le ej er en e e' =
      let old = entry_of p nought s in
      let f = changed g a r c d old in
      let f' = changed g r (r + 1) c d (entry_of p nought (stored p f s)) in
      e' ∙ rw (ej, er, en, e) (stored_stored p law s long f f' ∙ stored_same p law s long f' (changed g a (r + 1) c d old)
      (λ i j h. row_made g old a r c d i j (get_or (stored p f s) (p.cell i j) nought) le (stored_entry p law s long f i j nought h)))

-- the change of the tile's rows and columns is what the triple makes of the table
pub all_rows : {E : Type 0} (p : Site) → Lawful p → (nought : E) (plus : E → E → E) (f : ℕ → ℕ → ℕ → E) (sizes : Sizes) (t : Triple) (s later : List E) → p.span ≤ length s
    → (a b i c d from to : ℕ)
    → a ≡ first_of sizes.order t.row → b ≡ past_of sizes.rows sizes.order t.row
    → c ≡ first_of sizes.order t.column → d ≡ past_of sizes.columns sizes.order t.column
    → from ≡ first_of sizes.order t.middle → to ≡ past_of sizes.middle sizes.order t.middle
    → i ≡ b → later ≡ stored p (changed (summed plus f from to) a i c d (entry_of p nought s)) s
    → later ≡ stored p (tile_table plus sizes f (entry_of p nought s) t) s
unfolding tile
all_rows p law nought plus f sizes t s later long a b i c d from to ea eb ec ed ef et ei e =
    e ∙ stored_same p law s long (changed (summed plus f from to) a i c d (entry_of p nought s)) (tile_table plus sizes f (entry_of p nought s) t)
    (λ k l h. rw (ei, ea, eb, ec, ed, ef, et))
