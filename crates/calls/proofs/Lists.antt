-- Lists of calls, by what is seen of them.
use Rattle.std.proofs.Common.{◌≡◌, ℕ, true, false, List, [], ◌∷◌, ◌++◌, get_or, Ok, Err, Result, sym, refl, ap, ◌∙◌}
use Rattle.kinds.specs.declared.kind.Kind.{Ghosts as Kinds}
use Rattle.placement.specs.Sites.{Inside}
use Rattle.laws.specs.Stores.{stored}
use Rattle.laws.proofs.Stored.{stored_holds}
use Rattle.calls.specs.declared.table.Table.{Table as Which}
use Rattle.calls.specs.declared.table.Table.TheVariants.{Left, Right, Result as Product}
use Rattle.calls.specs.declared.call.Call.{Call}
use Rattle.calls.specs.declared.call.Call.TheVariants.{Put, Get, Clear, Copy, Begin, Step, Remaining, End}
use Rattle.calls.specs.declared.call.Answer.{Answer}
use Rattle.calls.specs.declared.call.Answer.TheVariants.{Done, Made}
use Rattle.masked.specs.declared.refusal.Refusal.{Refusal}
use Rattle.calls.specs.Views.{Mode, idle, running, View, put_told, clear_told, copy_told, begin_told, step_made, step_told, replied, reply_in, reply, answer_to, next}
use Rattle.calls.specs.Moments.{Trio, Placed, Moment, moment, site_in, store_in, view_of, moment_of, does, all_done, answers_to}
use Rattle.calls.specs.Promises.{declined, DeclinedLaw, IdleCellsLaw}
use Rattle.calls.proofs.Own.{kept_moment, longs, left_moment, right_moment, result_moment}
use Rattle.calls.proofs.Simulation.{Leads, kept, changed, leads, simulates}

-- ---- views

unfoldable pub all_next : {E : Type 0} → Kinds E → View E → List (Call E) → View E
all_next kind v [] = v
all_next kind v (c ∷ cs) = all_next kind (next kind v c) cs

unfoldable pub replies : {E : Type 0} → Kinds E → View E → List (Call E) → List (Answer E)
replies kind v [] = []
replies kind v (c ∷ cs) = answer_to kind v c ∷ replies kind (next kind v c) cs

module _ {E : Type 0} (kind : Kinds E) (t : Trio) where
  pub done_append : (m : Moment E) (xs ys : List (Call E)) → all_done kind t m (xs ++ ys) ≡ all_done kind t (all_done kind t m xs) ys
  unfolding all_done
  done_append m [] ys = refl
  done_append m (c ∷ xs) ys = done_append (does kind t m c) xs ys

  pub done_one : (m : Moment E) (c : Call E) → all_done kind t m (c ∷ []) ≡ does kind t m c
  unfolding all_done
  done_one m c = refl

  pub told_append : (m : Moment E) (xs ys : List (Call E)) → answers_to kind t m (xs ++ ys) ≡ answers_to kind t m xs ++ answers_to kind t (all_done kind t m xs) ys
  unfolding all_done answers_to
  told_append m [] ys = refl
  told_append m (c ∷ xs) ys = ap (λ (told : List (Answer E)). answer_to kind (view_of kind t m) c ∷ told) (told_append (does kind t m c) xs ys)

  pub told_one : (m : Moment E) (c : Call E) → answers_to kind t m (c ∷ []) ≡ answer_to kind (view_of kind t m) c ∷ []
  unfolding answers_to
  told_one m c = refl

  pub told_none : (m : Moment E) → answers_to kind t m [] ≡ []
  unfolding answers_to
  told_none m = refl

  pub done_none : (m : Moment E) → all_done kind t m [] ≡ m
  unfolding all_done
  done_none m = refl

module _ {E : Type 0} (kind : Kinds E) (t : Trio) (law : Placed t) where
  pub all_shown : (m : Moment E) (cs : List (Call E)) → view_of kind t (all_done kind t m cs) ≡ all_next kind (view_of kind t m) cs
  unfolding all_done all_next
  all_shown m [] = refl
  all_shown m (c ∷ cs) = all_shown (does kind t m c) cs ∙ ap (λ (v : View E). all_next kind v cs) (simulates kind t law m c)

  pub all_told : (m : Moment E) (cs : List (Call E)) → answers_to kind t m cs ≡ replies kind (view_of kind t m) cs
  unfolding answers_to replies
  all_told m [] = refl
  all_told m (c ∷ cs) =
      ap (λ (told : List (Answer E)). answer_to kind (view_of kind t m) c ∷ told)
      (all_told (does kind t m c) cs ∙ ap (λ (v : View E). replies kind v cs) (simulates kind t law m c))

-- ---- declined calls

module _ {E : Type 0} (kind : Kinds E) (v : View E) where
  none_declined : (a : Answer E) (r : Result (View E) Refusal) → declined a ≡ false → declined (replied v a r).answer ≡ true → (replied v a r).after ≡ v
  none_declined a (Ok w) f e = let z : true ≡ false = sym e ∙ f in cc
  none_declined a (Err refusal) f e = refl

  declined_in : (mode : Mode) (c : Call E) → declined (reply_in kind v mode c).answer ≡ true → (reply_in kind v mode c).after ≡ v
  declined_in idle (Put n i j x) e = none_declined Done (put_told kind v n i j x) refl e
  declined_in idle (Get n i j) e = refl
  declined_in idle (Clear n) e = none_declined Done (clear_told kind v n) refl e
  declined_in idle (Copy to from transposed) e = none_declined Done (copy_told kind v to from transposed) refl e
  declined_in idle (Begin order) e = none_declined Done (begin_told v order) refl e
  declined_in idle (Step n) e = refl
  declined_in idle Remaining e = refl
  declined_in idle End e = refl
  declined_in (running order m) (Put n i j x) e = refl
  declined_in (running order m) (Get n i j) e = refl
  declined_in (running order m) (Clear n) e = refl
  declined_in (running order m) (Copy to from transposed) e = refl
  declined_in (running order m) (Begin o) e = refl
  declined_in (running order m) (Step n) e = none_declined (Made (step_made v order m n)) (step_told kind v order m n) refl e
  declined_in (running order m) Remaining e = refl
  declined_in (running order m) End e = let z : true ≡ false = sym e in cc

  pub declined_stays : (c : Call E) → declined (answer_to kind v c) ≡ true → next kind v c ≡ v
  unfolding reply
  declined_stays c e = declined_in v.mode c e

-- a call that leaves what it found does nothing
pub nothing_done : {E : Type 0} (kind : Kinds E) (t : Trio) (m : Moment E) (c : Call E) → next kind (view_of kind t m) c ≡ view_of kind t m → does kind t m c ≡ m
unfolding does view_of
nothing_done kind t m c e = ap (moment_of t m) e ∙ kept_moment kind t m m.mode

pub declined_law : {E : Type 0} (kind : Kinds E) (t : Trio) → DeclinedLaw kind t
declined_law kind t m c e = nothing_done kind t m c (declined_stays kind (view_of kind t m) c e)

-- ---- idle cells

module _ {E : Type 0} (kind : Kinds E) (t : Trio) (law : Placed t) where
  abbrev Free : Which → ℕ → Type 0
  Free x a = (i j : ℕ) → Inside (site_in t x) i j → (site_in t x).cell i j ≡ a → ⊥

  moved : (m n : Moment E) (x : Which) (a : ℕ) (d : E) → m ≡ n → get_or (store_in m x) a d ≡ get_or (store_in n x) a d
  moved m n x a d e = ap (λ (z : Moment E). get_or (store_in z x) a d) e

  idle_one : (m : Moment E) (w : View E) → Leads kind (view_of kind t m) w → (x : Which) (a : ℕ) (d : E) → Free x a → get_or (store_in (moment_of t m w) x) a d ≡ get_or (store_in m x) a d
  idle_one m w (kept y e) x a d free =
      moved (moment_of t m w) (moment m.lefts m.rights m.results y) x a d (ap (moment_of t m) e ∙ kept_moment kind t m y) ∙ same x
    where
      same : (z : Which) → get_or (store_in (moment m.lefts m.rights m.results y) z) a d ≡ get_or (store_in m z) a d
      same Left = refl
      same Right = refl
      same Product = refl
  idle_one m w (changed long Left f y e) x a d free =
      let l = longs kind t m long in
      moved (moment_of t m w) _ x a d (ap (moment_of t m) e ∙ left_moment kind t law m l y f) ∙ at x free
    where
      at : (z : Which) → Free z a → get_or (store_in (moment (stored t.left f m.lefts) m.rights m.results y) z) a d ≡ get_or (store_in m z) a d
      at Left h = (stored_holds t.left law.left f m.lefts (longs kind t m long).left).others a d h
      at Right h = refl
      at Product h = refl
  idle_one m w (changed long Right f y e) x a d free =
      let l = longs kind t m long in
      moved (moment_of t m w) _ x a d (ap (moment_of t m) e ∙ right_moment kind t law m l y f) ∙ at x free
    where
      at : (z : Which) → Free z a → get_or (store_in (moment m.lefts (stored t.right f m.rights) m.results y) z) a d ≡ get_or (store_in m z) a d
      at Left h = refl
      at Right h = (stored_holds t.right law.right f m.rights (longs kind t m long).right).others a d h
      at Product h = refl
  idle_one m w (changed long Product f y e) x a d free =
      let l = longs kind t m long in
      moved (moment_of t m w) _ x a d (ap (moment_of t m) e ∙ result_moment kind t law m l y f) ∙ at x free
    where
      at : (z : Which) → Free z a → get_or (store_in (moment m.lefts m.rights (stored t.result f m.results) y) z) a d ≡ get_or (store_in m z) a d
      at Left h = refl
      at Right h = refl
      at Product h = (stored_holds t.result law.result f m.results (longs kind t m long).result).others a d h

  idle_call : (m : Moment E) (c : Call E) (x : Which) (a : ℕ) (d : E) → Free x a → get_or (store_in (does kind t m c) x) a d ≡ get_or (store_in m x) a d
  unfolding does
  idle_call m c x a d free = idle_one m (next kind (view_of kind t m) c) (leads kind (view_of kind t m) c) x a d free

  pub idle_cells_law : IdleCellsLaw kind t
  unfolding all_done
  idle_cells_law m [] x a d free = refl
  idle_cells_law m (c ∷ cs) x a d free = idle_cells_law (does kind t m c) cs x a d free ∙ idle_call m c x a d free
