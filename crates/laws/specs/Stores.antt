-- What a call does to a store: the entries of a table are written, and every other cell is as it was.
use Rattle.std.specs.Prelude.{◌≡◌, ℕ, zero, suc, ◌<◌, ◌≤◌, List, length, fold, ◌≢◌, slice_index_or, slice_set}
use Rattle.kinds.specs.declared.kind.Kind.{Ghosts as Kinds}
use Rattle.placement.specs.Sites.{Site, Lawful, Inside}
use Rattle.walk.specs.declared.sizes.Triple.{Triple}
use Rattle.walk.specs.declared.sizes.Sizes.{Sizes}
use Rattle.walk.specs.Walks.{Walks}
use Rattle.laws.specs.Products.{Table, terms, full_sum, tile_table, table_after}

-- the entry at row i and column j of the table that a store holds: the element at the entry's cell
abbrev pub entry_of : {E : Type 0} → Site → E → List E → Table E
entry_of p nought s i j = slice_index_or s (p.cell i j) nought

-- the first n columns of a row written into a store, and the first n rows
unfoldable pub row_stored : {E : Type 0} → (ℕ → ℕ) → (ℕ → E) → List E → ℕ → List E
row_stored cell f s zero = s
row_stored cell f s (suc n) = slice_set (row_stored cell f s n) (cell n) (f n)

unfoldable pub rows_stored : {E : Type 0} → Site → Table E → List E → ℕ → List E
rows_stored p f s zero = s
rows_stored p f s (suc n) = row_stored (p.cell n) (f n) (rows_stored p f s n) p.columns

-- the store in which each entry (i, j) of the table is f i j, and every other cell is as it was
unfoldable pub stored : {E : Type 0} → Site → Table E → List E → List E
stored p f s = rows_stored p f s p.rows

-- what that is: the length is kept, each entry is f i j, and a cell that no entry has is as it was
pub record Holds {E : Type 0} (p : Site) (f : Table E) (before later : List E) : Type 0 where
  pub size : length later ≡ length before
  pub entries : (i j : ℕ) (d : E) → Inside p i j → slice_index_or later (p.cell i j) d ≡ f i j
  pub others : (a : ℕ) (d : E) → ((i j : ℕ) → Inside p i j → p.cell i j ≢ a) → slice_index_or later a d ≡ slice_index_or before a d

-- In a store no shorter than the span, `stored` is such a store, and there is no other.
abbrev pub StoreLaw : Type 0 → Type 0
StoreLaw E =
    (p : Site) (f : Table E) (s : List E) → Lawful p → p.span ≤ length s
    → Holds p f s (stored p f s) × ((later : List E) → Holds p f s later → later ≡ stored p f s)

-- the terms of each entry of a product, read from the stores of the left and the right table
abbrev pub stored_terms : {E : Type 0} → Kinds E → (left right : Site) (lefts rights : List E) → ℕ → ℕ → ℕ → E
stored_terms kind left right lefts rights =
    terms kind.chained (entry_of left kind.nought lefts) (entry_of right kind.nought rights)

-- the result's store after the product of one tile: each entry of the result is what the triple makes of it
abbrev pub tile_stored : {E : Type 0} → Kinds E → Sizes → (left right result : Site) (lefts rights results : List E) → Triple → List E
tile_stored kind sizes left right result lefts rights results t =
    stored result (tile_table kind.joined sizes (stored_terms kind left right lefts rights) (entry_of result kind.nought results) t) results

-- and after the products of a list of tiles, one after the other
abbrev pub run_stored : {E : Type 0} → Kinds E → Sizes → (left right result : Site) (lefts rights results : List E) → List Triple → List E
run_stored kind sizes left right result lefts rights results ts =
    fold (tile_stored kind sizes left right result lefts rights) results ts

-- Whatever triples are taken, the store then holds the table that they make, and every other cell is as it was.
abbrev pub RunLaw : {E : Type 0} → Kinds E → Type 0
RunLaw {E} kind =
    (sizes : Sizes) (left right result : Site) (lefts rights results : List E) (ts : List Triple)
    → Lawful result → result.span ≤ length results
    → run_stored kind sizes left right result lefts rights results ts
    ≡ stored result (table_after kind.joined sizes (stored_terms kind left right lefts rights) ts (entry_of result kind.nought results)) results

-- After a walk each entry of the result is its old value plus the full sum of its terms.
abbrev pub SumsLaw : {E : Type 0} → Kinds E → Type 0
SumsLaw {E} kind =
    (sizes : Sizes) (ts : List Triple) → Walks sizes ts
    → (left right result : Site) (lefts rights results : List E) → Lawful result → result.span ≤ length results
    → (i j : ℕ) → i < sizes.rows → j < sizes.columns → Inside result i j
    → entry_of result kind.nought (run_stored kind sizes left right result lefts rights results ts) i j
    ≡ kind.joined (entry_of result kind.nought results i j) (full_sum kind.joined kind.nought (stored_terms kind left right lefts rights i j) sizes.middle)
