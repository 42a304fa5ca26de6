-- What is promised of every list of calls on a trio, whatever the placements, the stores and the order of the tiles.
use Rattle.std.specs.Prelude.{◌≡◌, ℕ, ◌+◌, ◌-◌, ◌<◌, ◌≤◌, Bool, true, false, cond, List, [], ◌∷◌, ◌++◌, length, take, ◌≢◌, slice_index_or}
use Rattle.std.specs.List.{AllByRecursion}
use Rattle.kinds.specs.declared.kind.Kind.{Ghosts as Kinds}
use Rattle.placement.specs.Sites.{Inside}
use Rattle.walk.specs.declared.sizes.Triple.{Triple}
use Rattle.walk.specs.Walks.{walk_of, sizes_of}
use Rattle.laws.specs.Products.{terms, full_sum}
use Rattle.calls.specs.declared.table.Table.{Table}
use Rattle.calls.specs.declared.table.Table.TheVariants.{Left, Right, Result as Product}
use Rattle.calls.specs.declared.call.Call.{Call}
use Rattle.calls.specs.declared.call.Call.TheVariants.{Put, Get, Clear, Copy, Begin, Step, Remaining, End}
use Rattle.calls.specs.declared.call.Answer.{Answer}
use Rattle.calls.specs.declared.call.Answer.TheVariants.{Done, Entry, Made, ToMake, Refused, NotOffered}
use Rattle.calls.specs.Views.{idle, answer_to, next}
use Rattle.calls.specs.Moments.{Trio, Moment, Long, opened, site_in, store_in, entry_in, view_of, does, all_done, answers_to}

-- ---- when a run finishes, told from calls and answers alone

-- a call was declined: refused, or not offered
abbrev pub declined : {E : Type 0} → Answer E → Bool
declined Done = false
declined (Entry x) = false
declined (Made n) = false
declined (ToMake n) = false
declined (Refused refusal) = true
declined NotOffered = true

-- how many tile products a call asks for
abbrev pub asks : {E : Type 0} → Call E → ℕ
asks (Put n i j x) = 0
asks (Get n i j) = 0
asks (Clear n) = 0
asks (Copy to from transposed) = 0
asks (Begin order) = 0
asks (Step n) = n
asks Remaining = 0
asks End = 0

abbrev pub is_end : {E : Type 0} → Call E → Bool
is_end (Put n i j x) = false
is_end (Get n i j) = false
is_end (Clear n) = false
is_end (Copy to from transposed) = false
is_end (Begin order) = false
is_end (Step n) = false
is_end Remaining = false
is_end End = true

-- the n of each step that was not declined, together
abbrev pub asked : {E : Type 0} → List (Call E) → List (Answer E) → ℕ
asked [] answers = 0
asked (c ∷ cs) [] = 0
asked (c ∷ cs) (a ∷ answers) = cond (declined a) 0 (asks c) + asked cs answers

-- the walk of the product of the left table with the right
abbrev pub product_walk : Trio → ℕ → List Triple
product_walk t order = walk_of (sizes_of t.left.rows t.right.columns t.left.columns order)

-- after some calls a run was begun: begin was accepted, and the calls since have not ended it
pub record Runs {E : Type 0} (kind : Kinds E) (t : Trio) (m : Moment E) (before : List (Call E)) (order : ℕ) (during : List (Call E)) : Type 0 where
  pub begun : answer_to kind (view_of kind t (all_done kind t m before)) (Begin order) ≡ Done
  pub unended : AllByRecursion (λ c. is_end c ≡ false) during

-- the stores when the run began
abbrev pub began : {E : Type 0} → Kinds E → Trio → Moment E → List (Call E) → ℕ → Moment E
began kind t m before order = all_done kind t m (before ++ Begin order ∷ [])

-- what the run has asked for since
abbrev pub asked_since : {E : Type 0} → Kinds E → Trio → Moment E → List (Call E) → ℕ → List (Call E) → ℕ
asked_since kind t m before order during = asked during (answers_to kind t (began kind t m before order) during)

-- a step of n finishes the run: it is not declined, and with it as many tile products are asked for as the walk has,
-- which they were not before
pub record Finishes {E : Type 0} (kind : Kinds E) (t : Trio) (m : Moment E) (before : List (Call E)) (order : ℕ) (during : List (Call E)) (n : ℕ) : Type 0 where
  pub runs : Runs kind t m before order during
  pub unfinished : asked_since kind t m before order during < length (product_walk t order)
  pub accepted : declined (answer_to kind (view_of kind t (all_done kind t m (before ++ Begin order ∷ during))) (Step n)) ≡ false
  pub reached : length (product_walk t order) ≤ asked_since kind t m before order during + n

-- ---- the laws

-- Where a run finishes, each entry of the result is its value when the run began plus the full sum of the entries of that
-- moment: left (i, k) times right (k, j) for every middle index k, joined by plus.
abbrev pub FinishedLaw : {E : Type 0} → Kinds E → Trio → Type 0
FinishedLaw {E} kind t =
    (m : Moment E) (before during : List (Call E)) (order n : ℕ) → Finishes kind t m before order during n
    → (i j : ℕ) → Inside t.result i j
    → entry_in kind t (all_done kind t m (before ++ Begin order ∷ (during ++ Step n ∷ []))) Product i j
    ≡ kind.joined (entry_in kind t (began kind t m before order) Product i j)
    (full_sum kind.joined kind.nought (terms kind.chained (entry_in kind t (began kind t m before order) Left) (entry_in kind t (began kind t m before order) Right) i j) t.left.columns)

-- Runs do finish: on an idle trio whose tables fit together, in stores that are long enough, begin with an order up to 12
-- and one step of the walk's length.
abbrev pub FinishableLaw : {E : Type 0} → Kinds E → Trio → Type 0
FinishableLaw {E} kind t =
    (m : Moment E) (order : ℕ) → m.mode ≡ idle → Long t m
    → t.left.columns ≡ t.right.rows → t.left.rows ≡ t.result.rows → t.right.columns ≡ t.result.columns → order ≤ 12
    → Finishes kind t m [] order [] (length (product_walk t order))

-- Remaining answers the triples of the walk less the n of each step not declined, and never below 0.
abbrev pub RemainingLaw : {E : Type 0} → Kinds E → Trio → Type 0
RemainingLaw {E} kind t =
    (m : Moment E) (before during : List (Call E)) (order : ℕ) → Runs kind t m before order during
    → answer_to kind (view_of kind t (all_done kind t m (before ++ Begin order ∷ during))) Remaining
    ≡ ToMake (length (product_walk t order) - asked_since kind t m before order during)

-- A call that is declined changes nothing.
abbrev pub DeclinedLaw : {E : Type 0} → Kinds E → Trio → Type 0
DeclinedLaw {E} kind t =
    (m : Moment E) (c : Call E) → declined (answer_to kind (view_of kind t m) c) ≡ true → does kind t m c ≡ m

-- No call changes a cell that no entry has.
abbrev pub IdleCellsLaw : {E : Type 0} → Kinds E → Trio → Type 0
IdleCellsLaw {E} kind t =
    (m : Moment E) (cs : List (Call E)) (x : Table) (a : ℕ) (d : E)
    → ((i j : ℕ) → Inside (site_in t x) i j → (site_in t x).cell i j ≢ a)
    → slice_index_or (store_in (all_done kind t m cs) x) a d ≡ slice_index_or (store_in m x) a d

-- What is seen of the stores after a call is what the call leaves of what was seen before.
abbrev pub ShownLaw : {E : Type 0} → Kinds E → Trio → Type 0
ShownLaw {E} kind t = (m : Moment E) (c : Call E) → view_of kind t (does kind t m c) ≡ next kind (view_of kind t m) c

pub record TrioLaws {E : Type 0} (kind : Kinds E) (t : Trio) : Type 0 where
  pub finished : FinishedLaw kind t
  pub finishable : FinishableLaw kind t
  pub remaining : RemainingLaw kind t
  pub declined_kept : DeclinedLaw kind t
  pub idle_cells : IdleCellsLaw kind t
  pub shown : ShownLaw kind t

-- ---- two trios

-- two trios have equal shapes and entries
pub record Alike {E : Type 0} (kind : Kinds E) (t u : Trio) (m n : Moment E) : Type 0 where
  pub rows : (x : Table) → (site_in t x).rows ≡ (site_in u x).rows
  pub columns : (x : Table) → (site_in t x).columns ≡ (site_in u x).columns
  pub entries : (x : Table) (i j : ℕ) → Inside (site_in t x) i j → entry_in kind t m x i j ≡ entry_in kind u n x i j

-- Nobody can tell two trios apart by their answers: where they are opened with equal shapes and entries, in stores that
-- are long enough, every list of calls gets the same answers from both, refusals too, and their entries are equal after
-- every call.
pub record Untold {E : Type 0} (kind : Kinds E) (t u : Trio) (m n : Moment E) (cs : List (Call E)) : Type 0 where
  pub answers : answers_to kind t m cs ≡ answers_to kind u n cs
  pub entries : (k : ℕ) → Alike kind t u (all_done kind t m (take k cs)) (all_done kind u n (take k cs))

abbrev pub AlikeLaw : {E : Type 0} → Kinds E → Trio → Trio → Type 0
AlikeLaw {E} kind t u =
    (lefts rights results lefts' rights' results' : List E)
    → Long t (opened lefts rights results) → Long u (opened lefts' rights' results')
    → Alike kind t u (opened lefts rights results) (opened lefts' rights' results')
    → (cs : List (Call E)) → Untold kind t u (opened lefts rights results) (opened lefts' rights' results') cs
