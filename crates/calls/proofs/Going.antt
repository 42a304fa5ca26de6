-- How a run goes on: after every call it has made the first of the walk's tile products, as many as were asked for.
use Rattle.std.proofs.Common.{◌≡◌, ℕ, ◌+◌, ◌-◌, min, Bool, true, false, cond, List, [], ◌∷◌, ◌++◌, length, take, drop, Ok, Err, Result, sym, refl, ap, ◌∙◌, arith, take-add}
use mathlib.Core.Path.{fun_ext}
use Rattle.std.specs.List.{AllByRecursion}
use Rattle.std.proofs.iter.runs.Lists.{fold-append}
use Rattle.std.proofs.lemmas.Bool.{cond-true}
use Rattle.masked.specs.declared.refusal.Refusal.{Refusal}
use Rattle.masked.specs.declared.refusal.Refusal.TheVariants.{Store}
use Rattle.kinds.specs.declared.kind.Kind.{Ghosts as Kinds}
use Rattle.walk.specs.declared.sizes.Triple.{Triple}
use Rattle.laws.specs.Products.{terms, tile, after, table_after}
use Rattle.laws.proofs.Tiles.{one_entry}
use Rattle.calls.specs.declared.table.Table.TheVariants.{Result as Product}
use Rattle.calls.specs.declared.call.Call.{Call}
use Rattle.calls.specs.declared.call.Call.TheVariants.{Put, Get, Clear, Copy, Begin, Step, Remaining, End}
use Rattle.calls.specs.declared.call.Answer.TheVariants.{Made, ToMake}
use Rattle.calls.specs.Views.{running, View, within, filled, with_entries, with_mode, run_sizes, run_walk, step_made, multiplied, provided, step_told, replied, reply, answer_to, next}
use Rattle.calls.specs.Promises.{declined, asks, is_end, asked}
use Rattle.calls.proofs.Own.{cond_same}
use Rattle.calls.proofs.Lists.{all_next, replies}

-- the tile products of some triples and then of others
multiplied_on : {E : Type 0} (kind : Kinds E) (v : View E) (order : ℕ) (ts us : List Triple) (i j : ℕ) (x : E)
    → x ≡ multiplied kind v order ts i j
    → after kind.joined (run_sizes v order) (terms kind.chained v.left.entry v.right.entry i j) i j us x
    ≡ multiplied kind v order (ts ++ us) i j
multiplied_on kind v order ts us i j x e =
    let s = run_sizes v order in
    let f = terms kind.chained v.left.entry v.right.entry in
    let old = v.result.entry in
    e'
    ∙ sym (fold-append (tile kind.joined s (f i j) i j) (old i j) ts us)
    ∙ sym (one_entry kind.joined s f (ts ++ us) old i j)
  where
    e' : after kind.joined (run_sizes v order) (terms kind.chained v.left.entry v.right.entry i j) i j us x
        ≡ after kind.joined (run_sizes v order) (terms kind.chained v.left.entry v.right.entry i j) i j us (after kind.joined (run_sizes v order) (terms kind.chained v.left.entry v.right.entry i j) i j ts (v.result.entry i j))
    e' =
        ap (after kind.joined (run_sizes v order) (terms kind.chained v.left.entry v.right.entry i j) i j us)
        (e ∙ one_entry kind.joined (run_sizes v order) (terms kind.chained v.left.entry v.right.entry) ts v.result.entry i j)

-- the run that was v when it began, once m tile products are made
abbrev pub gone : {E : Type 0} → Kinds E → View E → ℕ → ℕ → View E
gone kind v order m = with_mode (with_entries kind v Product (multiplied kind v order (take m (run_walk v order)))) (running order m)

module _ {E : Type 0} (kind : Kinds E) (v : View E) (order : ℕ) where
  -- k more
  gone_more : (m k : ℕ) → with_mode (with_entries kind (gone kind v order m) Product (multiplied kind (gone kind v order m) order (take k (drop m (run_walk v order))))) (running order (m + k)) ≡ gone kind v order (m + k)
  gone_more m k =
      let us = take k (drop m (run_walk v order)) in
      let ts = take m (run_walk v order) in
      let s = run_sizes v order in
      let f = terms kind.chained v.left.entry v.right.entry in
      let mid : (ℕ → ℕ → E) = (filled kind v.result (multiplied kind v order ts)).entry in
      let e : (λ i j. cond (within v.result i j) (table_after kind.joined s f us mid i j) kind.nought) ≡ (λ i j. cond (within v.result i j) (multiplied kind v order (take (m + k) (run_walk v order)) i j) kind.nought) =
      fun_ext (λ (i : ℕ). fun_ext (λ (j : ℕ). cond_same (within v.result i j) (table_after kind.joined s f us mid i j) (multiplied kind v order (take (m + k) (run_walk v order)) i j) kind.nought
      (λ h. one_entry kind.joined s f us mid i j
      ∙ multiplied_on kind v order ts us i j (mid i j) (rw h)
      ∙ ap (λ (ws : List Triple). multiplied kind v order ws i j) (sym (take-add m k (run_walk v order)))))) in
      ap (λ (g : ℕ → ℕ → E). with_mode (record { left = v.left; right = v.right; result = record { rows = v.result.rows; columns = v.result.columns; entry = g }; long = v.long; mode = v.mode }) (running order (m + k))) e

  -- after steps that asked for a in all
  abbrev pub going : ℕ → View E
  going a = gone kind v order (min (length (run_walk v order)) a)

  step_done : (a n : ℕ) → v.long ≡ true → next kind (going a) (Step n) ≡ going (a + n)
  unfolding reply step_told
  step_done a n h =
      let m = min (length (run_walk v order)) a in
      let k = min n (length (run_walk v order) - m) in
      let e : m + k ≡ min (length (run_walk v order)) (a + n) = omega arith in
      let w = with_mode (with_entries kind (gone kind v order m) Product (multiplied kind (gone kind v order m) order (take k (drop m (run_walk v order))))) (running order (m + k)) in
      let c : provided v.long Store (Ok w) ≡ Ok w = cond-true v.long (Ok w) (Err Store) h in
      ap (λ (r : Result (View E) Refusal). (replied (going a) (Made (step_made (going a) order m n)) r).after) c ∙ gone_more m k ∙ ap (gone kind v order) e

  step_kept : (a n : ℕ) → v.long ≡ false → next kind (going a) (Step n) ≡ going a
  unfolding reply step_told
  step_kept a n h = rw h

  step_declined : (a n : ℕ) → v.long ≡ false → declined (answer_to kind (going a) (Step n)) ≡ true
  unfolding reply step_told
  step_declined a n h = rw h

  pub step_accepted : (a n : ℕ) → v.long ≡ true → declined (answer_to kind (going a) (Step n)) ≡ false
  unfolding reply step_told
  step_accepted a n h = rw h

  -- what a call adds to what was asked for
  abbrev more : ℕ → Call E → ℕ
  more a c = cond (declined (answer_to kind (going a) c)) 0 (asks c)

  going_none : (a : ℕ) (b : Bool) → going a ≡ going (a + cond b 0 0)
  going_none a true = let e : a ≡ a + 0 = omega arith in ap going e
  going_none a false = let e : a ≡ a + 0 = omega arith in ap going e

  step_goes : (a n : ℕ) (b : Bool) → v.long ≡ b → next kind (going a) (Step n) ≡ going (a + cond (declined (answer_to kind (going a) (Step n))) 0 n)
  step_goes a n true h = step_done a n h ∙ ap (λ (z : Bool). going (a + cond z 0 n)) (sym (step_accepted a n h))
  step_goes a n false h =
      let e : a ≡ a + 0 = omega arith in
      step_kept a n h ∙ ap going e ∙ ap (λ (z : Bool). going (a + cond z 0 n)) (sym (step_declined a n h))

  pub call_goes : (a : ℕ) (c : Call E) → is_end c ≡ false → next kind (going a) c ≡ going (a + more a c)
  unfolding reply
  call_goes a (Put n i j x) h = going_none a true
  call_goes a (Get n i j) h = going_none a true
  call_goes a (Clear n) h = going_none a true
  call_goes a (Copy to from transposed) h = going_none a true
  call_goes a (Begin o) h = going_none a true
  call_goes a (Step n) h = step_goes a n v.long refl
  call_goes a Remaining h = going_none a false
  call_goes a End h = let z : true ≡ false = h in cc

  pub all_go : (a : ℕ) (cs : List (Call E)) → AllByRecursion (λ c. is_end c ≡ false) cs → all_next kind (going a) cs ≡ going (a + asked cs (replies kind (going a) cs))
  unfolding all_next replies
  all_go a [] h = let e : a ≡ a + 0 = omega arith in ap going e
  all_go a (c ∷ cs) h =
      let e = call_goes a c h.0 in
      let b = a + more a c in
      let i : b + asked cs (replies kind (going b) cs) ≡ a + (more a c + asked cs (replies kind (going b) cs)) = omega arith in
      ap (λ (w : View E). all_next kind w cs) e
      ∙ all_go b cs h.1
      ∙ ap going i
      ∙ ap (λ (w : View E). going (a + (more a c + asked cs (replies kind w cs)))) (sym e)

  pub remaining_told : (a : ℕ) → answer_to kind (going a) Remaining ≡ ToMake (length (run_walk v order) - a)
  unfolding reply
  remaining_told a =
      let e : length (run_walk v order) - min (length (run_walk v order)) a ≡ length (run_walk v order) - a = omega arith in
      ap (λ (n : ℕ). ToMake n) e
