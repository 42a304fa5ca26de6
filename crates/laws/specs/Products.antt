-- The product of two tables, tile by tile. A table is a function of row and column.
use Rattle.std.specs.Prelude.{◌≡◌, ℕ, zero, suc, ◌+◌, ◌-◌, ◌*◌, ◌^◌, ◌<◌, min, Bool, cond, ◌&&◌, List, length, take, fold, nat_le, nat_lt, slice_index_or}
use Rattle.walk.specs.declared.sizes.Triple.{Triple}
use Rattle.walk.specs.declared.sizes.Sizes.{Sizes}
use Rattle.walk.specs.Walks.{Walks}

abbrev pub Table : Type 0 → Type 0
Table E = ℕ → ℕ → E

-- what plus and zero have to keep: nothing else is asked of them, and nothing of times
pub record Adds {E : Type 0} (plus : E → E → E) (nought : E) : Type 0 where
  pub associative : (a b c : E) → plus (plus a b) c ≡ plus a (plus b c)
  pub commutative : (a b : E) → plus a b ≡ plus b a
  pub neutral : (a : E) → plus nought a ≡ a

-- x plus f 0, plus f 1, and so on to f (n − 1): one at a time, always what is there plus the next
abbrev pub added : {E : Type 0} → (E → E → E) → E → (ℕ → E) → ℕ → E
added plus x f zero = x
added plus x f (suc n) = plus (added plus x f n) (f n)

-- x with the terms from one index on and before another added
abbrev pub added_between : {E : Type 0} → (E → E → E) → E → (ℕ → E) → ℕ → ℕ → E
added_between plus x f from to = added plus x (λ k. f (from + k)) (to - from)

-- the sum of the first q terms
abbrev pub full_sum : {E : Type 0} → (E → E → E) → E → (ℕ → E) → ℕ → E
full_sum plus nought f q = added plus nought f q

-- the terms of the entry at row i and column j, by the middle index
abbrev pub terms : {E : Type 0} → (E → E → E) → Table E → Table E → ℕ → ℕ → ℕ → E
terms times left right i j k = times (left i k) (right k j)

-- at order t, the first index of tile b, and the first past it: a tile is 2^t long and cut at the side n
abbrev pub first_of : ℕ → ℕ → ℕ
first_of t b = b * 2 ^ t

abbrev pub past_of : ℕ → ℕ → ℕ → ℕ
past_of n t b = min n (b * 2 ^ t + 2 ^ t)

-- whether tile b of that side covers the index i
abbrev pub covers : ℕ → ℕ → ℕ → ℕ → Bool
covers n t b i = nat_le (first_of t b) i && nat_lt i (past_of n t b)

-- whether a triple covers the entry at row i and column j
abbrev pub covered : Sizes → Triple → ℕ → ℕ → Bool
covered s t i j = covers s.rows s.order t.row i && covers s.columns s.order t.column j

-- what a triple makes of the entry x at row i and column j, whose terms are f: x itself where the triple does not
-- cover the entry, else x with the terms of the middle indices that it covers added
unfoldable pub tile : {E : Type 0} → (E → E → E) → Sizes → (ℕ → E) → ℕ → ℕ → E → Triple → E
tile plus s f i j x t =
    cond (covered s t i j) (added_between plus x f (first_of s.order t.middle) (past_of s.middle s.order t.middle)) x

-- what a list of triples makes of it, one after the other
abbrev pub after : {E : Type 0} → (E → E → E) → Sizes → (ℕ → E) → ℕ → ℕ → List Triple → E → E
after plus s f i j ts x = fold (tile plus s f i j) x ts

-- what a triple makes of a whole table, given the terms of each entry; and what a list of triples makes of it
abbrev pub tile_table : {E : Type 0} → (E → E → E) → Sizes → (ℕ → ℕ → ℕ → E) → Table E → Triple → Table E
tile_table plus s f old t = λ i j. tile plus s (f i j) i j (old i j) t

abbrev pub table_after : {E : Type 0} → (E → E → E) → Sizes → (ℕ → ℕ → ℕ → E) → List Triple → Table E → Table E
table_after plus s f ts old = fold (tile_table plus s f) old ts

-- The product law: whatever walk is taken, each entry of the result becomes its old value plus the full sum of its terms.
abbrev pub ProductLaw : Type 0 → Type 0
ProductLaw E =
    (plus : E → E → E) (nought : E) → Adds plus nought
    → (times : E → E → E) (left right old : Table E)
    → (s : Sizes) (ts : List Triple) → Walks s ts
    → (i j : ℕ) → i < s.rows → j < s.columns
    → table_after plus s (terms times left right) ts old i j ≡ plus (old i j) (full_sum plus nought (terms times left right i j) s.middle)

-- the same of one entry, whatever its terms are
abbrev pub EntryLaw : Type 0 → Type 0
EntryLaw E =
    (plus : E → E → E) (nought : E) → Adds plus nought
    → (f : ℕ → E) (x : E) (s : Sizes) (ts : List Triple) → Walks s ts
    → (i j : ℕ) → i < s.rows → j < s.columns
    → after plus s f i j ts x ≡ plus x (full_sum plus nought f s.middle)

-- Of a run that has made the first n triples: a table's entry is what they make of that entry alone,
-- and one triple more is one tile product more. This asks nothing of plus.
abbrev pub PartLaw : Type 0 → Type 0
PartLaw E =
    (plus : E → E → E) (f : ℕ → ℕ → ℕ → E) (old : Table E) (s : Sizes) (ts : List Triple) (n i j : ℕ)
    → (table_after plus s f (take n ts) old i j ≡ after plus s (f i j) i j (take n ts) (old i j))
    × ((d : Triple) → n < length ts → table_after plus s f (take (n + 1) ts) old i j ≡ tile plus s (f i j) i j (table_after plus s f (take n ts) old i j) (slice_index_or ts n d))
