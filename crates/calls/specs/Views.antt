-- A trio as its users see it, with no placement in sight: what each call answers, and what it leaves.
use Rattle.std.specs.Prelude.{ℕ, ◌+◌, ◌-◌, min, Bool, true, false, cond, not, ◌&&◌, List, length, take, drop, Ok, Err, Result, ◌==◌, nat_le, nat_lt}
use Rattle.masked.specs.declared.refusal.Refusal.{Refusal}
use Rattle.masked.specs.declared.refusal.Refusal.TheVariants.{Table as NoTable, Store, Outside, Mismatch, TileOrder}
use Rattle.kinds.specs.declared.kind.Kind.{Ghosts as Kinds}
use Rattle.walk.specs.declared.sizes.Triple.{Triple}
use Rattle.walk.specs.declared.sizes.Sizes.{Sizes}
use Rattle.walk.specs.Walks.{walk_of, sizes_of}
use Rattle.laws.specs.Products.{terms, table_after}
use Rattle.calls.specs.declared.table.Table.{Table}
use Rattle.calls.specs.declared.table.Table.TheVariants.{Left, Right, Result as Product}
use Rattle.calls.specs.declared.call.Call.{Call}
use Rattle.calls.specs.declared.call.Call.TheVariants.{Put, Get, Clear, Copy, Begin, Step, Remaining, End}
use Rattle.calls.specs.declared.call.Answer.{Answer}
use Rattle.calls.specs.declared.call.Answer.TheVariants.{Done, Entry, Made, ToMake, Refused, NotOffered}
use Rattle.calls.specs.Tables.{table_numbered}

-- ---- what is seen

-- a table: its shape, and the entry at each row and column. There is nothing outside the shape; zero stands there, so
-- that tables with one shape and the same entries are one table.
pub record Seen (E : Type 0) : Type 0 where
  pub rows : ℕ
  pub columns : ℕ
  pub entry : ℕ → ℕ → E

-- a trio is idle, or it is a run of a tile order that has made so many tile products
pub data Mode : Type 0 where
  idle : Mode
  running : (order made : ℕ) → Mode

pub record View (E : Type 0) : Type 0 where
  pub left : Seen E
  pub right : Seen E
  pub result : Seen E
  -- whether none of the three stores is shorter than its table's span
  pub long : Bool
  pub mode : Mode

-- whether row i and column j lie inside a table
abbrev pub within : {E : Type 0} → Seen E → ℕ → ℕ → Bool
within t i j = nat_lt i t.rows && nat_lt j t.columns

-- the table of the same shape with the entries f
abbrev pub filled : {E : Type 0} → Kinds E → Seen E → (ℕ → ℕ → E) → Seen E
filled kind t f = record { rows = t.rows; columns = t.columns; entry = λ i j. cond (within t i j) (f i j) kind.nought }

abbrev pub seen : {E : Type 0} → View E → Table → Seen E
seen v Left = v.left
seen v Right = v.right
seen v Product = v.result

abbrev pub with_entries : {E : Type 0} → Kinds E → View E → Table → (ℕ → ℕ → E) → View E
with_entries kind v Left f = record { left = filled kind v.left f; right = v.right; result = v.result; long = v.long; mode = v.mode }
with_entries kind v Right f = record { left = v.left; right = filled kind v.right f; result = v.result; long = v.long; mode = v.mode }
with_entries kind v Product f = record { left = v.left; right = v.right; result = filled kind v.result f; long = v.long; mode = v.mode }

abbrev pub with_mode : {E : Type 0} → View E → Mode → View E
with_mode v mode = record { left = v.left; right = v.right; result = v.result; long = v.long; mode = mode }

-- ---- what a call leaves, or why it is refused: the first refusal that applies

-- refused where the test fails
abbrev pub provided : {A : Type 0} → Bool → Refusal → Result A Refusal → Result A Refusal
provided test refusal r = cond test r (Err refusal)

abbrev pub and_then : {A B : Type 0} → Result A Refusal → (A → Result B Refusal) → Result B Refusal
and_then (Ok x) f = f x
and_then (Err refusal) f = Err refusal

-- the entries with x at row i and column j
abbrev pub entry_put : {E : Type 0} → (ℕ → ℕ → E) → ℕ → ℕ → E → ℕ → ℕ → E
entry_put old i j x k l = cond (k == i && l == j) x (old k l)

unfoldable pub put_told : {E : Type 0} → Kinds E → View E → ℕ → ℕ → ℕ → E → Result (View E) Refusal
put_told kind v n i j x =
    and_then (table_numbered n) (λ t. provided v.long Store (provided (within (seen v t) i j) Outside (Ok (with_entries kind v t (entry_put (seen v t).entry i j x)))))

unfoldable pub get_told : {E : Type 0} → View E → ℕ → ℕ → ℕ → Result E Refusal
get_told v n i j =
    and_then (table_numbered n) (λ t. provided v.long Store (provided (within (seen v t) i j) Outside (Ok ((seen v t).entry i j))))

unfoldable pub clear_told : {E : Type 0} → Kinds E → View E → ℕ → Result (View E) Refusal
clear_told kind v n =
    and_then (table_numbered n) (λ t. provided v.long Store (Ok (with_entries kind v t (λ _ _. kind.nought))))

-- the shapes that a copy asks for: the same, or where it is transposed the same with rows and columns changed about
abbrev pub shapes_fit : Bool → (rows columns from_rows from_columns : ℕ) → Bool
shapes_fit true r c r' c' = r == c' && c == r'
shapes_fit false r c r' c' = r == r' && c == c'

abbrev pub copy_fits : {E : Type 0} → Bool → Seen E → Seen E → Bool
copy_fits transposed t u = shapes_fit transposed t.rows t.columns u.rows u.columns

abbrev pub turned : {E : Type 0} → Bool → (ℕ → ℕ → E) → ℕ → ℕ → E
turned true f i j = f j i
turned false f i j = f i j

unfoldable pub copy_told : {E : Type 0} → Kinds E → View E → ℕ → ℕ → Bool → Result (View E) Refusal
copy_told kind v to from transposed =
    and_then (table_numbered to) (λ t. and_then (table_numbered from) (λ u.
    provided (not (to == from)) NoTable (provided v.long Store (provided (copy_fits transposed (seen v t) (seen v u)) Mismatch
    (Ok (with_entries kind v t (turned transposed (seen v u).entry)))))))

-- whether the tables are r by q, q by c and r by c
abbrev pub joins : {E : Type 0} → View E → Bool
joins v = v.left.columns == v.right.rows && (v.left.rows == v.result.rows && v.right.columns == v.result.columns)

unfoldable pub begin_told : {E : Type 0} → View E → ℕ → Result (View E) Refusal
begin_told v order = provided (joins v) Mismatch (provided (nat_le order 12) TileOrder (Ok (with_mode v (running order 0))))

-- ---- a run

-- the sizes of a run. Begin asks that the numbers agree of which the smaller is taken here.
abbrev pub run_sizes : {E : Type 0} → View E → ℕ → Sizes
run_sizes v order =
    sizes_of (min v.left.rows v.result.rows) (min v.right.columns v.result.columns) (min v.left.columns v.right.rows) order

abbrev pub run_walk : {E : Type 0} → View E → ℕ → List Triple
run_walk v order = walk_of (run_sizes v order)

-- how many tile products are still to make
abbrev pub to_make : {E : Type 0} → View E → ℕ → ℕ → ℕ
to_make v order made = length (run_walk v order) - made

-- how many of them a step of n makes
abbrev pub step_made : {E : Type 0} → View E → ℕ → ℕ → ℕ → ℕ
step_made v order made n = min n (to_make v order made)

-- the entries of the result after the tile products of some triples
abbrev pub multiplied : {E : Type 0} → Kinds E → View E → ℕ → List Triple → ℕ → ℕ → E
multiplied kind v order ts =
    table_after kind.joined (run_sizes v order) (terms kind.chained v.left.entry v.right.entry) ts v.result.entry

-- a step makes the next tile products of the walk, and no others
unfoldable pub step_told : {E : Type 0} → Kinds E → View E → ℕ → ℕ → ℕ → Result (View E) Refusal
step_told kind v order made n =
    provided v.long Store (Ok (with_mode (with_entries kind v Product (multiplied kind v order (take (step_made v order made n) (drop made (run_walk v order))))) (running order (made + step_made v order made n))))

-- ---- what a call is told, and what it leaves

pub record Reply (E : Type 0) : Type 0 where
  pub answer : Answer E
  pub after : View E

-- a refused call changes nothing
abbrev pub replied : {E : Type 0} → View E → Answer E → Result (View E) Refusal → Reply E
replied v answer (Ok w) = record { answer = answer; after = w }
replied v answer (Err refusal) = record { answer = Refused refusal; after = v }

abbrev pub told_only : {E : Type 0} → View E → Answer E → Reply E
told_only v answer = record { answer = answer; after = v }

abbrev pub get_answer : {E : Type 0} → Result E Refusal → Answer E
get_answer (Ok x) = Entry x
get_answer (Err refusal) = Refused refusal

-- the answer of a call that has nothing to tell, and of a step
abbrev pub told : {E X : Type 0} → Result X Refusal → Answer E
told (Ok x) = Done
told (Err refusal) = Refused refusal

abbrev pub step_answer : {E : Type 0} → Result ℕ Refusal → Answer E
step_answer (Ok n) = Made n
step_answer (Err refusal) = Refused refusal

-- put, get, clear, copy and begin belong to the idle trio; step, remaining and end to a run
abbrev pub reply_in : {E : Type 0} → Kinds E → View E → Mode → Call E → Reply E
reply_in kind v idle (Put n i j x) = replied v Done (put_told kind v n i j x)
reply_in kind v idle (Get n i j) = told_only v (get_answer (get_told v n i j))
reply_in kind v idle (Clear n) = replied v Done (clear_told kind v n)
reply_in kind v idle (Copy to from transposed) = replied v Done (copy_told kind v to from transposed)
reply_in kind v idle (Begin order) = replied v Done (begin_told v order)
reply_in kind v idle (Step n) = told_only v NotOffered
reply_in kind v idle Remaining = told_only v NotOffered
reply_in kind v idle End = told_only v NotOffered
reply_in kind v (running order made) (Put n i j x) = told_only v NotOffered
reply_in kind v (running order made) (Get n i j) = told_only v NotOffered
reply_in kind v (running order made) (Clear n) = told_only v NotOffered
reply_in kind v (running order made) (Copy to from transposed) = told_only v NotOffered
reply_in kind v (running order made) (Begin o) = told_only v NotOffered
reply_in kind v (running order made) (Step n) = replied v (Made (step_made v order made n)) (step_told kind v order made n)
reply_in kind v (running order made) Remaining = told_only v (ToMake (to_make v order made))
reply_in kind v (running order made) End = told_only (with_mode v idle) Done

unfoldable pub reply : {E : Type 0} → Kinds E → View E → Call E → Reply E
reply kind v c = reply_in kind v v.mode c

-- what a call answers, and what it leaves
abbrev pub answer_to : {E : Type 0} → Kinds E → View E → Call E → Answer E
answer_to kind v c = (reply kind v c).answer

abbrev pub next : {E : Type 0} → Kinds E → View E → Call E → View E
next kind v c = (reply kind v c).after
