-- The stores of a trio, and what a call does to them.
use Rattle.std.specs.Prelude.{◌≡◌, ℕ, ◌-◌, ◌≤◌, min, Bool, cond, ◌&&◌, List, [], ◌∷◌, length, ◌==◌, nat_le, nat_lt}
use Rattle.kinds.specs.declared.kind.Kind.{Ghosts as Kinds}
use Rattle.placement.specs.Sites.{Site, Lawful}
use Rattle.walk.specs.declared.sizes.Sizes.{Sizes}
use Rattle.walk.specs.Walks.{walk_of, sizes_of}
use Rattle.laws.specs.Stores.{entry_of, stored}
use Rattle.calls.specs.declared.table.Table.{Table}
use Rattle.calls.specs.declared.table.Table.TheVariants.{Left, Right, Result as Product}
use Rattle.calls.specs.declared.call.Call.{Call}
use Rattle.calls.specs.declared.call.Answer.{Answer}
use Rattle.calls.specs.Views.{Seen, Mode, idle, View, shapes_fit, answer_to, next}

-- where the three tables lie
pub record Trio : Type 0 where
  pub left : Site
  pub right : Site
  pub result : Site

abbrev pub trio : Site → Site → Site → Trio
trio left right result = record { left = left; right = right; result = result }

-- each of the three keeps the laws of placements
pub record Placed (t : Trio) : Type 0 where
  pub left : Lawful t.left
  pub right : Lawful t.right
  pub result : Lawful t.result

-- the three stores, and whether the trio is idle or a run
pub record Moment (E : Type 0) : Type 0 where
  pub lefts : List E
  pub rights : List E
  pub results : List E
  pub mode : Mode

-- the site and the store of a table
abbrev pub site_in : Trio → Table → Site
site_in t Left = t.left
site_in t Right = t.right
site_in t Product = t.result

abbrev pub store_in : {E : Type 0} → Moment E → Table → List E
store_in m Left = m.lefts
store_in m Right = m.rights
store_in m Product = m.results

-- the entry of a table at a row and a column
abbrev pub entry_in : {E : Type 0} → Kinds E → Trio → Moment E → Table → ℕ → ℕ → E
entry_in kind t m x = entry_of (site_in t x) kind.nought (store_in m x)

-- whether the tables are r by q, q by c and r by c
abbrev pub fits : Trio → Bool
fits t = t.left.columns == t.right.rows && (t.left.rows == t.result.rows && t.right.columns == t.result.columns)

-- the sizes of a run; begin asks that the numbers agree of which the smaller is taken here
abbrev pub trio_sizes : Trio → ℕ → Sizes
trio_sizes t order =
    sizes_of (min t.left.rows t.result.rows) (min t.right.columns t.result.columns) (min t.left.columns t.right.rows) order

-- how many tile products are still to make
abbrev pub remaining_of : Trio → ℕ → ℕ → ℕ
remaining_of t order made = length (walk_of (trio_sizes t order)) - made

abbrev pub moment : {E : Type 0} → List E → List E → List E → Mode → Moment E
moment lefts rights results mode = record { lefts = lefts; rights = rights; results = results; mode = mode }

-- no store is shorter than its table's span
pub record Long {E : Type 0} (t : Trio) (m : Moment E) : Type 0 where
  pub left : t.left.span ≤ length m.lefts
  pub right : t.right.span ≤ length m.rights
  pub result : t.result.span ≤ length m.results

-- whether a row and a column lie inside a table
abbrev pub held_in : Site → ℕ → ℕ → Bool
held_in p i j = nat_lt i p.rows && nat_lt j p.columns

-- whether the shapes are those that a copy asks for
abbrev pub copy_can : Bool → Site → Site → Bool
copy_can transposed p q = shapes_fit transposed p.rows p.columns q.rows q.columns

-- the table that a store holds
abbrev pub table_in : {E : Type 0} → Kinds E → Site → List E → Seen E
table_in kind p s = record {
  rows = p.rows;
  columns = p.columns;
  entry = λ i j. cond (held_in p i j) (entry_of p kind.nought s i j) kind.nought;
}

-- whether no store is shorter than its table's span
abbrev pub all_long : {E : Type 0} → Trio → List E → List E → List E → Bool
all_long t lefts rights results =
    nat_le t.left.span (length lefts) && (nat_le t.right.span (length rights) && nat_le t.result.span (length results))

-- what is seen of the stores through three placements
unfoldable pub view_of : {E : Type 0} → Kinds E → Trio → Moment E → View E
view_of kind t m = record {
  left = table_in kind t.left m.lefts;
  right = table_in kind t.right m.rights;
  result = table_in kind t.result m.results;
  long = all_long t m.lefts m.rights m.results;
  mode = m.mode;
}

-- the stores in which each entry is what a view shows, and every other cell is as it was
unfoldable pub moment_of : {E : Type 0} → Trio → Moment E → View E → Moment E
moment_of t m v = record {
  lefts = stored t.left v.left.entry m.lefts;
  rights = stored t.right v.right.entry m.rights;
  results = stored t.result v.result.entry m.results;
  mode = v.mode;
}

-- what a call does: the entries are what it leaves of them, and every other cell is as it was
unfoldable pub does : {E : Type 0} → Kinds E → Trio → Moment E → Call E → Moment E
does kind t m c = moment_of t m (next kind (view_of kind t m) c)

-- the stores with one of them replaced
abbrev pub with_store : {E : Type 0} → Moment E → Table → List E → Moment E
with_store m Left s = moment s m.rights m.results m.mode
with_store m Right s = moment m.lefts s m.results m.mode
with_store m Product s = moment m.lefts m.rights s m.mode

-- a trio that was opened on three stores
abbrev pub opened : {E : Type 0} → List E → List E → List E → Moment E
opened lefts rights results = moment lefts rights results idle

-- a call was made as it should: it was told what the model answers, and it did what the model says
pub record Called {E : Type 0} (kind : Kinds E) (t : Trio) (m : Moment E) (c : Call E) (answer : Answer E) (later : Moment E) : Type 0 where
  pub answer_is : answer ≡ answer_to kind (view_of kind t m) c
  pub cells_are : later ≡ does kind t m c

-- what a list of calls does, and is told
unfoldable pub all_done : {E : Type 0} → Kinds E → Trio → Moment E → List (Call E) → Moment E
all_done kind t m [] = m
all_done kind t m (c ∷ cs) = all_done kind t (does kind t m c) cs

unfoldable pub answers_to : {E : Type 0} → Kinds E → Trio → Moment E → List (Call E) → List (Answer E)
answers_to kind t m [] = []
answers_to kind t m (c ∷ cs) = answer_to kind (view_of kind t m) c ∷ answers_to kind t (does kind t m c) cs
