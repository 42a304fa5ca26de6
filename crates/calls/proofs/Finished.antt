-- What a run that finishes has made.
use Rattle.std.proofs.Common.{◌≡◌, ℕ, ◌+◌, ◌-◌, ◌*◌, ◌^◌, ◌<◌, ◌≤◌, min, Bool, true, false, cond, eqb, leb, List, [], ◌∷◌, ◌++◌, length, take, Ok, count_by, Result, sym, refl, ap, ◌∙◌, append_assoc, arith}
use mathlib.Core.Path.{fun_ext}
use Rattle.std.specs.List.{AllByRecursion}
use Rattle.std.proofs.lemmas.List.{take_all}
use Rattle.std.proofs.lemmas.List.Sums.{count_by-le-length}
use Rattle.std.proofs.lemmas.Bool.{and_parts, eqb-true, eq-eqb, leb-true, le-leb, lt-ltb}
use Rattle.masked.specs.declared.refusal.Refusal.{Refusal}
use Rattle.masked.specs.declared.refusal.Refusal.TheVariants.{Mismatch, TileOrder}
use Rattle.kinds.specs.declared.kind.Kind.{Ghosts as Kinds}
use Rattle.placement.specs.Sites.{Inside}
use Rattle.walk.specs.declared.sizes.Triple.{Triple}
use Rattle.walk.specs.declared.sizes.Sizes.{Sizes}
use Rattle.walk.specs.Walks.{allowed, inside, same, triple, walk_of, sizes_of}
use Rattle.walk.proofs.Allowed.{walk_of_walks}
use Rattle.laws.specs.Products.{Adds, full_sum, terms}
use Rattle.laws.specs.Stores.{entry_of}
use Rattle.laws.proofs.Adding.{added_same}
use Rattle.laws.proofs.Tiles.{product_law}
use Rattle.calls.specs.declared.table.Table.TheVariants.{Left, Right, Result as Product}
use Rattle.calls.specs.declared.call.Call.{Call}
use Rattle.calls.specs.declared.call.Call.TheVariants.{Begin, Step, Remaining}
use Rattle.calls.specs.declared.call.Answer.TheVariants.{Done, ToMake, Refused, NotOffered}
use Rattle.calls.specs.Views.{Seen, Mode, idle, running, View, filled, with_mode, provided, joins, begin_told, run_sizes, run_walk, multiplied, Reply, replied, reply_in, reply, answer_to, next}
use Rattle.calls.specs.Moments.{Trio, Placed, Moment, entry_in, held_in, table_in, view_of, does, all_done}
use Rattle.calls.specs.Promises.{declined, is_end, asked, product_walk, began, asked_since, FinishedLaw, FinishableLaw, RemainingLaw, TrioLaws}
use Rattle.calls.proofs.Own.{inside_held, held_inside, held_entry, cond_same}
use Rattle.calls.proofs.Simulation.{simulates}
use Rattle.calls.proofs.Lists.{all_next, replies, done_append, done_one, done_none, all_shown, all_told, declined_law, idle_cells_law}
use Rattle.calls.proofs.Alikes.{is_long}
use Rattle.calls.proofs.Going.{gone, going, step_accepted, call_goes, all_go, remaining_told}

-- ---- a begin that was accepted

pub record Begun {E : Type 0} (kind : Kinds E) (v : View E) (order : ℕ) : Type 0 where
  pub middle : v.left.columns ≡ v.right.rows
  pub rows : v.left.rows ≡ v.result.rows
  pub columns : v.right.columns ≡ v.result.columns
  pub small : order ≤ 12
  pub after : next kind v (Begin order) ≡ with_mode v (running order 0)

module _ {E : Type 0} (kind : Kinds E) (v : View E) where
  -- a reply goes by the mode
  pub reply_at : (c : Call E) (mode : Mode) → v.mode ≡ mode → reply kind v c ≡ reply_in kind v mode c
  unfolding reply
  reply_at c mode e = ap (λ (x : Mode). reply_in kind v x c) e

module _ {E : Type 0} (kind : Kinds E) (v : View E) (order : ℕ) where
  begin_tests : (a b : Bool) → joins v ≡ a → leb order 12 ≡ b → begin_told v order ≡ provided a Mismatch (provided b TileOrder (Ok (with_mode v (running order 0))))
  unfolding begin_told
  begin_tests a b ea eb =
      ap (λ (x : Bool). provided x Mismatch (provided (leb order 12) TileOrder (Ok (with_mode v (running order 0))))) ea
      ∙ ap (λ (x : Bool). provided a Mismatch (provided x TileOrder (Ok (with_mode v (running order 0))))) eb

  begun_tests : (a b : Bool) → joins v ≡ a → leb order 12 ≡ b → v.mode ≡ idle → answer_to kind v (Begin order) ≡ Done → Begun kind v order
  begun_tests true true ea eb em e =
      let p = and_parts (eqb v.left.columns v.right.rows) _ ea in
      let q = and_parts (eqb v.left.rows v.result.rows) _ p.1 in
      record {
        middle = eqb-true _ _ p.0;
        rows = eqb-true _ _ q.0;
        columns = eqb-true _ _ q.1;
        small = leb-true order 12 eb;
        after = ap (λ (r : Reply E). r.after) (reply_at kind v (Begin order) idle em) ∙ ap (λ (r : Result (View E) Refusal). (replied v Done r).after) (begin_tests true true ea eb);
      }
  begun_tests true false ea eb em e =
      let z : Refused TileOrder ≡ Done = sym (ap (λ (r : Reply E). r.answer) (reply_at kind v (Begin order) idle em) ∙ ap (λ (r : Result (View E) Refusal). (replied v Done r).answer) (begin_tests true false ea eb)) ∙ e in
      let y : ◌≡◌ {A = ℕ} 0 1 = cc in absurd (omega arith)
  begun_tests false b ea eb em e =
      let z : Refused Mismatch ≡ Done = sym (ap (λ (r : Reply E). r.answer) (reply_at kind v (Begin order) idle em) ∙ ap (λ (r : Result (View E) Refusal). (replied v Done r).answer) (begin_tests false b ea eb)) ∙ e in
      let y : ◌≡◌ {A = ℕ} 0 1 = cc in absurd (omega arith)

  begun_mode : (mode : Mode) → v.mode ≡ mode → answer_to kind v (Begin order) ≡ Done → Begun kind v order
  begun_mode idle em e = begun_tests (joins v) (leb order 12) refl refl em e
  begun_mode (running o m) em e =
      let z : NotOffered ≡ Done = sym (ap (λ (r : Reply E). r.answer) (reply_at kind v (Begin order) (running o m) em)) ∙ e in
      let y : ◌≡◌ {A = ℕ} 0 1 = cc in absurd (omega arith)

  pub begun_facts : answer_to kind v (Begin order) ≡ Done → Begun kind v order
  begun_facts e = begun_mode v.mode refl e

  -- and one that is made where it may be
  pub begin_answers : v.mode ≡ idle → joins v ≡ true → order ≤ 12 → answer_to kind v (Begin order) ≡ Done
  begin_answers em ej h =
      ap (λ (r : Reply E). r.answer) (reply_at kind v (Begin order) idle em)
      ∙ ap (λ (r : Result (View E) Refusal). (replied v Done r).answer) (begin_tests true true ej (le-leb order 12 h))

-- ---- the run from its beginning

module _ {E : Type 0} (kind : Kinds E) (t : Trio) (m : Moment E) where
  normal : filled kind (view_of kind t m).result (view_of kind t m).result.entry ≡ (view_of kind t m).result
  unfolding view_of
  normal =
      let p = t.result in
      let f = (table_in kind p m.results).entry in
      let e : (λ i j. cond (held_in p i j) (f i j) kind.nought) ≡ f =
      fun_ext (λ (i : ℕ). fun_ext (λ (j : ℕ). cond_same (held_in p i j) (f i j) (entry_of p kind.nought m.results i j) kind.nought (λ h. held_entry kind p m.results i j (inside_held p i j h)))) in
      ap (λ (g : ℕ → ℕ → E). record { rows = p.rows; columns = p.columns; entry = g }) e

  start : (order : ℕ) → with_mode (view_of kind t m) (running order 0) ≡ going kind (view_of kind t m) order 0
  start order =
      let v = view_of kind t m in
      let z : 0 ≡ min (length (run_walk v order)) 0 = omega arith in
      ap (λ (r : Seen E). record { left = v.left; right = v.right; result = r; long = v.long; mode = running order 0 }) (sym normal)
      ∙ ap (gone kind v order) z

min_same : (a b : ℕ) → a ≡ b → min a b ≡ a
min_same a b e = omega arith

one_sizes : (t : Trio) (order : ℕ) → t.left.columns ≡ t.right.rows → t.left.rows ≡ t.result.rows → t.right.columns ≡ t.result.columns
    → sizes_of (min t.left.rows t.result.rows) (min t.right.columns t.result.columns) (min t.left.columns t.right.rows) order
    ≡ sizes_of t.left.rows t.right.columns t.left.columns order
one_sizes t order em er ec =
    let a = min_same t.left.rows t.result.rows er in
    let b = min_same t.right.columns t.result.columns ec in
    let c = min_same t.left.columns t.right.rows em in
    rw (a, b, c)

is_allowed : (t : Trio) → Placed t → (order : ℕ) → order ≤ 12 → allowed (sizes_of t.left.rows t.right.columns t.left.columns order) ≡ true
unfolding allowed
is_allowed t law order h =
    let l = law.left in
    let r = law.right in
    let a = le-leb 1 t.left.rows l.some_row in
    let b = le-leb t.left.rows 4096 l.row_limit in
    let c = le-leb 1 t.right.columns r.some_column in
    let d = le-leb t.right.columns 4096 r.column_limit in
    let e = le-leb 1 t.left.columns l.some_column in
    let f = le-leb t.left.columns 4096 l.column_limit in
    let g = le-leb order 12 h in
    rw (a, b, c, d, e, f, g)

module _ {E : Type 0} (kind : Kinds E) (t : Trio) (law : Placed t) (m : Moment E) (before : List (Call E)) (order : ℕ) where
  -- the view when the run began, and how it goes on
  module _ (begun : answer_to kind (view_of kind t (all_done kind t m before)) (Begin order) ≡ Done) where
    pub facts : Begun kind (view_of kind t (all_done kind t m before)) order
    facts = begun_facts kind (view_of kind t (all_done kind t m before)) order begun

    pub begins : next kind (view_of kind t (all_done kind t m before)) (Begin order) ≡ going kind (view_of kind t (all_done kind t m before)) order 0
    begins = facts.after ∙ start kind t (all_done kind t m before) order

    pub began_view : view_of kind t (began kind t m before order) ≡ going kind (view_of kind t (all_done kind t m before)) order 0
    unfolding all_next
    began_view =
        ap (view_of kind t) (done_append kind t m before (Begin order ∷ []))
        ∙ all_shown kind t law (all_done kind t m before) (Begin order ∷ [])
        ∙ begins

    pub asked_told : (during : List (Call E)) → asked_since kind t m before order during ≡ asked during (replies kind (going kind (view_of kind t (all_done kind t m before)) order 0) during)
    asked_told during =
        ap (asked during) (all_told kind t law (began kind t m before order) during ∙ ap (λ (v : View E). replies kind v during) began_view)

    pub during_view : (during : List (Call E)) → AllByRecursion (λ c. is_end c ≡ false) during
        → view_of kind t (all_done kind t m (before ++ Begin order ∷ during)) ≡ going kind (view_of kind t (all_done kind t m before)) order (asked_since kind t m before order during)
    unfolding all_next
    during_view during unended =
        let v = view_of kind t (all_done kind t m before) in
        let a = asked during (replies kind (going kind v order 0) during) in
        let z : 0 + a ≡ a = omega arith in
        ap (view_of kind t) (done_append kind t m before (Begin order ∷ during))
        ∙ all_shown kind t law (all_done kind t m before) (Begin order ∷ during)
        ∙ ap (λ (w : View E). all_next kind w during) begins
        ∙ all_go kind v order 0 during unended
        ∙ ap (going kind v order) (z ∙ sym (asked_told during))

    pub walk_is : run_walk (view_of kind t (all_done kind t m before)) order ≡ product_walk t order
    unfolding view_of
    walk_is = let f = facts in ap walk_of (one_sizes t order f.middle f.rows f.columns)

-- ---- the entries of a moment as they are seen

module _ {E : Type 0} (kind : Kinds E) (t : Trio) (m : Moment E) where
  left_seen : (i j : ℕ) → Inside t.left i j → (view_of kind t m).left.entry i j ≡ entry_in kind t m Left i j
  unfolding view_of
  left_seen i j h = held_entry kind t.left m.lefts i j h

  right_seen : (i j : ℕ) → Inside t.right i j → (view_of kind t m).right.entry i j ≡ entry_in kind t m Right i j
  unfolding view_of
  right_seen i j h = held_entry kind t.right m.rights i j h

  result_seen : (i j : ℕ) → Inside t.result i j → (view_of kind t m).result.entry i j ≡ entry_in kind t m Product i j
  unfolding view_of
  result_seen i j h = held_entry kind t.result m.results i j h

  -- an entry of a run
  gone_entry : (order n i j : ℕ) → Inside t.result i j → (gone kind (view_of kind t m) order n).result.entry i j ≡ multiplied kind (view_of kind t m) order (take n (run_walk (view_of kind t m) order)) i j
  unfolding view_of
  gone_entry order n i j h = rw (held_inside t.result i j h)

first_inside : (s : Sizes) → 1 ≤ s.rows → 1 ≤ s.columns → 1 ≤ s.middle → inside s (triple 0 0 0) ≡ true
unfolding inside
first_inside s a b c =
    let z : 0 * 2 ^ s.order ≡ 0 = omega arith in
    let r = lt-ltb 0 s.rows a in
    let d = lt-ltb 0 s.columns b in
    let q = lt-ltb 0 s.middle c in
    rw (z, r, d, q)

joined_view : {E : Type 0} (kind : Kinds E) (t : Trio) (m : Moment E) → t.left.columns ≡ t.right.rows → t.left.rows ≡ t.result.rows → t.right.columns ≡ t.result.columns → joins (view_of kind t m) ≡ true
unfolding view_of
joined_view kind t m em er ec =
    let a = eq-eqb t.left.columns t.right.rows em in
    let b = eq-eqb t.left.rows t.result.rows er in
    let c = eq-eqb t.right.columns t.result.columns ec in
    rw (a, b, c)

mode_seen : {E : Type 0} (kind : Kinds E) (t : Trio) (m : Moment E) → (view_of kind t m).mode ≡ m.mode
unfolding view_of
mode_seen kind t m = refl

-- ---- the laws

module _ {E : Type 0} (kind : Kinds E) (adds : Adds kind.joined kind.nought) (t : Trio) (law : Placed t) where
  -- the whole walk adds the full sums
  whole : (m : Moment E) (order : ℕ) → Begun kind (view_of kind t m) order → (i j : ℕ) → Inside t.result i j
      → multiplied kind (view_of kind t m) order (run_walk (view_of kind t m) order) i j
      ≡ kind.joined ((view_of kind t m).result.entry i j) (full_sum kind.joined kind.nought (terms kind.chained (view_of kind t m).left.entry (view_of kind t m).right.entry i j) t.left.columns)
  unfolding view_of
  whole m order f i j h =
      let v = view_of kind t m in
      let e : run_sizes v order ≡ sizes_of t.left.rows t.right.columns t.left.columns order = one_sizes t order f.middle f.rows f.columns in
      let s = run_sizes v order in
      let al : allowed s ≡ true = ap allowed e ∙ is_allowed t law order f.small in
      let er : t.left.rows ≡ t.result.rows = f.rows in
      let ec : t.right.columns ≡ t.result.columns = f.columns in
      let hr : i < s.rows = omega (arith, h.0, er) in
      let hc : j < s.columns = omega (arith, h.1, ec) in
      product_law E kind.joined kind.nought adds kind.chained v.left.entry v.right.entry v.result.entry s (walk_of s) (walk_of_walks s al) i j hr hc
      ∙ ap (λ (n : ℕ). kind.joined (v.result.entry i j) (full_sum kind.joined kind.nought (terms kind.chained v.left.entry v.right.entry i j) n)) (min_same t.left.columns t.right.rows f.middle)

  -- and the entries that are summed are those of the stores when the run began
  sums : (b g : Moment E) (order : ℕ) → view_of kind t g ≡ with_mode (view_of kind t b) (running order 0) → Begun kind (view_of kind t b) order → (i j : ℕ) → Inside t.result i j
      → kind.joined ((view_of kind t b).result.entry i j) (full_sum kind.joined kind.nought (terms kind.chained (view_of kind t b).left.entry (view_of kind t b).right.entry i j) t.left.columns)
      ≡ kind.joined (entry_in kind t g Product i j) (full_sum kind.joined kind.nought (terms kind.chained (entry_in kind t g Left) (entry_in kind t g Right) i j) t.left.columns)
  unfolding view_of
  sums b g order e f i j h =
      let er : t.left.rows ≡ t.result.rows = f.rows in
      let ec : t.right.columns ≡ t.result.columns = f.columns in
      let em : t.left.columns ≡ t.right.rows = f.middle in
      let x : (view_of kind t b).result.entry i j ≡ entry_in kind t g Product i j = ap (λ (w : View E). w.result.entry i j) (sym e) ∙ result_seen kind t g i j h in
      let y : full_sum kind.joined kind.nought (terms kind.chained (view_of kind t b).left.entry (view_of kind t b).right.entry i j) t.left.columns ≡ full_sum kind.joined kind.nought (terms kind.chained (entry_in kind t g Left) (entry_in kind t g Right) i j) t.left.columns =
      added_same kind.joined kind.nought (terms kind.chained (view_of kind t b).left.entry (view_of kind t b).right.entry i j) (terms kind.chained (entry_in kind t g Left) (entry_in kind t g Right) i j) t.left.columns
      (λ k hk.
      let p : (view_of kind t b).left.entry i k ≡ entry_in kind t g Left i k = ap (λ (w : View E). w.left.entry i k) (sym e) ∙ left_seen kind t g i k (omega (arith, h.0), hk) in
      let q : (view_of kind t b).right.entry k j ≡ entry_in kind t g Right k j = ap (λ (w : View E). w.right.entry k j) (sym e) ∙ right_seen kind t g k j (omega arith, omega (arith, h.1)) in
      ap (λ (z : E). kind.chained z ((view_of kind t b).right.entry k j)) p ∙ ap (kind.chained (entry_in kind t g Left i k)) q) in
      ap (λ (z : E). kind.joined z (full_sum kind.joined kind.nought (terms kind.chained (view_of kind t b).left.entry (view_of kind t b).right.entry i j) t.left.columns)) x
      ∙ ap (kind.joined (entry_in kind t g Product i j)) y

  pub finished_law : FinishedLaw kind t
  unfolding view_of
  finished_law m before during order n fin i j h =
      let b = all_done kind t m before in
      let v = view_of kind t b in
      let g = began kind t m before order in
      let begun = fin.runs.begun in
      let f = facts kind t law m before order begun in
      let a = asked_since kind t m before order during in
      let d = all_done kind t m (before ++ Begin order ∷ during) in
      let l = all_done kind t m (before ++ Begin order ∷ (during ++ Step n ∷ [])) in
      let dv : view_of kind t d ≡ going kind v order a = during_view kind t law m before order begun during fin.runs.unended in
      let ok : declined (answer_to kind (going kind v order a) (Step n)) ≡ false = ap (λ (w : View E). declined (answer_to kind w (Step n))) (sym dv) ∙ fin.accepted in
      let le : l ≡ does kind t d (Step n) = last m before during order n in
      let ws = walk_is kind t law m before order begun in
      let all : length (run_walk v order) ≤ min (length (run_walk v order)) (a + n) = omega (arith, fin.reached, ap (λ (ts : List Triple). length ts) ws) in
      let lv : view_of kind t l ≡ going kind v order (a + n) =
      ap (view_of kind t) le ∙ simulates kind t law d (Step n) ∙ ap (λ (w : View E). next kind w (Step n)) dv
      ∙ call_goes kind v order a (Step n) refl ∙ ap (λ (z : Bool). going kind v order (a + cond z 0 n)) ok in
      sym (result_seen kind t l i j h)
      ∙ ap (λ (w : View E). w.result.entry i j) lv
      ∙ gone_entry kind t b order (min (length (run_walk v order)) (a + n)) i j h
      ∙ ap (λ (ts : List Triple). multiplied kind v order ts i j) (take_all (min (length (run_walk v order)) (a + n)) (run_walk v order) all)
      ∙ whole b order f i j h
      ∙ sums b g order (began_view kind t law m before order begun ∙ sym (start kind t b order)) f i j h
    where
      last : (m : Moment E) (before during : List (Call E)) (order n : ℕ) → all_done kind t m (before ++ Begin order ∷ (during ++ Step n ∷ [])) ≡ does kind t (all_done kind t m (before ++ Begin order ∷ during)) (Step n)
      last m before during order n =
          ap (all_done kind t m) (sym (append_assoc before (Begin order ∷ during) (Step n ∷ [])))
          ∙ done_append kind t m (before ++ Begin order ∷ during) (Step n ∷ [])
          ∙ done_one kind t (all_done kind t m (before ++ Begin order ∷ during)) (Step n)

  pub remaining_law : RemainingLaw kind t
  remaining_law m before during order runs =
      let v = view_of kind t (all_done kind t m before) in
      let a = asked_since kind t m before order during in
      ap (λ (w : View E). answer_to kind w Remaining) (during_view kind t law m before order runs.begun during runs.unended)
      ∙ remaining_told kind v order a
      ∙ ap (λ (ts : List Triple). ToMake (length ts - a)) (walk_is kind t law m before order runs.begun)

  -- a walk is not empty: it has the triple that begins at the first row, column and middle index
  walk_starts : (order : ℕ) → order ≤ 12 → 0 < length (product_walk t order)
  walk_starts order h =
      let s = sizes_of t.left.rows t.right.columns t.left.columns order in
      let w = walk_of_walks s (is_allowed t law order h) (triple 0 0 0) in
      let c = count_by-le-length (same (triple 0 0 0)) (walk_of s) in
      let i : inside s (triple 0 0 0) ≡ true = first_inside s law.left.some_row law.right.some_column law.left.some_column in
      let o : count_by (same (triple 0 0 0)) (walk_of s) ≡ 1 = w ∙ ap (λ (b : Bool). cond b 1 0) i in
      omega arith

  pub finishable_law : FinishableLaw kind t
  finishable_law m order rests long em er ec h =
      let n = length (product_walk t order) in
      let v = view_of kind t (all_done kind t m []) in
      let none : v ≡ view_of kind t m = ap (view_of kind t) (done_none kind t m) in
      let begun : answer_to kind v (Begin order) ≡ Done =
      ap (λ (w : View E). answer_to kind w (Begin order)) none
      ∙ begin_answers kind (view_of kind t m) order (mode_seen kind t m ∙ rests) (joined_view kind t m em er ec) h in
      let long_now : v.long ≡ true = ap (λ (w : View E). w.long) none ∙ is_long kind t m long in
      let a = asked_since kind t m [] order [] in
      record {
        runs = record { begun = begun; unended = tt };
        unfinished = walk_starts order h;
        accepted = ap (λ (w : View E). declined (answer_to kind w (Step n))) (during_view kind t law m [] order begun [] tt) ∙ step_accepted kind v order a n long_now;
        reached = omega arith;
      }

  pub trio_laws : TrioLaws kind t
  trio_laws = record {
    finished = finished_law;
    finishable = finishable_law;
    remaining = remaining_law;
    declined_kept = declined_law kind t;
    idle_cells = idle_cells_law kind t law;
    shown = simulates kind t law;
  }
