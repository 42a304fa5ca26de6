-- That a step of a run was made as it should.
use Rattle.std.proofs.Common.{◌≡◌, ℕ, ◌+◌, ◌-◌, ◌<◌, ◌≤◌, min, Bool, true, false, cond, ltb, leb, List, [], ◌∷◌, take, drop, Ok, sym, refl, ap, ◌∙◌, arith}
use Rattle.std.proofs.lemmas.Bool.{and_parts, ltb-true}
use Rattle.masked.specs.declared.refusal.Refusal.TheVariants.{Store}
use Rattle.kinds.specs.declared.kind.Kind.{Ghosts as Kinds}
use Rattle.walk.specs.declared.sizes.Triple.{Triple}
use Rattle.walk.specs.declared.sizes.Sizes.{Sizes}
use Rattle.walk.specs.Walks.{walk_of}
use Rattle.laws.specs.Products.{added_between, terms, first_of, past_of, covers, covered, tile, after, table_after}
use Rattle.laws.specs.Stores.{entry_of, stored, stored_terms, run_stored}
use Rattle.laws.proofs.Adding.{added_same}
use Rattle.laws.proofs.Runs.{run_law}
use Rattle.laws.proofs.Stored.{stored_same}
use Rattle.laws.proofs.Tiles.{one_entry}
use Rattle.calls.specs.declared.table.Table.TheVariants.{Result as Product}
use Rattle.calls.specs.declared.call.Call.{Call}
use Rattle.calls.specs.declared.call.Call.TheVariants.{Put, Get, Clear, Copy, Begin, Step, Remaining, End}
use Rattle.calls.specs.declared.call.Answer.TheVariants.{Done, Made, ToMake, Refused, NotOffered}
use Rattle.calls.specs.Views.{idle, running, View, with_entries, with_mode, multiplied, run_walk, step_made, step_told, replied, told_only, reply_in, reply}
use Rattle.calls.specs.Moments.{Trio, Placed, Moment, Long, moment, table_in, all_long, trio_sizes, remaining_of, view_of, Called}
use Rattle.calls.proofs.Own.{held_entry, longs, kept_moment, result_moment, long_seen}
use Rattle.calls.proofs.Outcomes.{tells, makes, fails, passes}

-- ---- only the terms that a tile covers matter

covers_below : (n t b i : ℕ) → covers n t b i ≡ true → i < n
covers_below n t b i e =
    let a = and_parts (leb (first_of t b) i) (ltb i (past_of n t b)) e in
    let c = ltb-true i (past_of n t b) a.1 in
    omega (arith, c)

module _ {E : Type 0} (plus : E → E → E) (s : Sizes) (f g : ℕ → E) (i j : ℕ) (same : i < s.rows → j < s.columns → (k : ℕ) → k < s.middle → f k ≡ g k) where
  between_same : (x : E) (from to : ℕ) → i < s.rows → j < s.columns → to ≤ s.middle → added_between plus x f from to ≡ added_between plus x g from to
  between_same x from to hi hj h = added_same plus x (λ k. f (from + k)) (λ k. g (from + k)) (to - from) (λ k w. same hi hj (from + k) (omega arith))

  tile_same : (x : E) (t : Triple) → tile plus s f i j x t ≡ tile plus s g i j x t
  unfolding tile
  tile_same x t = at (covered s t i j) refl
    where
      at : (b : Bool) → covered s t i j ≡ b
          → cond (covered s t i j) (added_between plus x f (first_of s.order t.middle) (past_of s.middle s.order t.middle)) x
          ≡ cond (covered s t i j) (added_between plus x g (first_of s.order t.middle) (past_of s.middle s.order t.middle)) x
      at true e =
          let a = and_parts (covers s.rows s.order t.row i) (covers s.columns s.order t.column j) e in
          ap (λ (y : E). cond (covered s t i j) y x)
          (between_same x (first_of s.order t.middle) (past_of s.middle s.order t.middle) (covers_below s.rows s.order t.row i a.0) (covers_below s.columns s.order t.column j a.1) (omega arith))
      at false e = rw e

  after_same : (ts : List Triple) (x : E) → after plus s f i j ts x ≡ after plus s g i j ts x
  after_same [] x = refl
  after_same (t ∷ ts) x = ap (λ (y : E). after plus s f i j ts y) (tile_same x t) ∙ after_same ts (tile plus s g i j x t)

-- ---- a run

module _ {E : Type 0} (kind : Kinds E) (t : Trio) (lefts rights results : List E) (order made : ℕ) where
  abbrev now_run : Moment E
  now_run = moment lefts rights results (running order made)

  abbrev now_seen : View E
  now_seen = view_of kind t (moment lefts rights results (running order made))

  run_replies : (c : Call E) → reply kind now_seen c ≡ reply_in kind now_seen (running order made) c
  unfolding reply view_of
  run_replies c = refl

  pub step_short : (n : ℕ) → all_long t lefts rights results ≡ false → Called kind t now_run (Step n) (Refused Store) now_run
  unfolding step_told
  step_short n h =
      tells kind t now_run (Step n) (Refused Store)
      (run_replies (Step n) ∙ ap (replied now_seen (Made (step_made now_seen order made n))) (fails now_seen.long Store _ (long_seen kind t now_run ∙ h)))

  -- the stores hold the entries that the tile products make
  products_stored : Placed t → Long t now_run → (us : List Triple)
      → run_stored kind (trio_sizes t order) t.left t.right t.result lefts rights results us ≡ stored t.result (multiplied kind now_seen order us) results
  unfolding view_of
  products_stored law long us =
      let s = trio_sizes t order in
      let raw = stored_terms kind t.left t.right lefts rights in
      let f = terms kind.chained (table_in kind t.left lefts).entry (table_in kind t.right rights).entry in
      let old = entry_of t.result kind.nought results in
      run_law kind s t.left t.right t.result lefts rights results us law.result long.result
      ∙ stored_same t.result law.result results long.result (table_after kind.joined s raw us old) (multiplied kind now_seen order us)
      (λ i j h.
      one_entry kind.joined s raw us old i j
      ∙ after_same kind.joined s (raw i j) (f i j) i j (λ hi hj k hk. terms_same i j k hi hj hk) us (old i j)
      ∙ ap (after kind.joined s (f i j) i j us) (sym (held_entry kind t.result results i j h))
      ∙ sym (one_entry kind.joined s f us (table_in kind t.result results).entry i j))
    where
      terms_same : (i j k : ℕ) → i < (trio_sizes t order).rows → j < (trio_sizes t order).columns → k < (trio_sizes t order).middle
          → stored_terms kind t.left t.right lefts rights i j k ≡ terms kind.chained (table_in kind t.left lefts).entry (table_in kind t.right rights).entry i j k
      terms_same i j k hi hj hk =
          let a = held_entry kind t.left lefts i k (omega arith, omega arith) in
          let b = held_entry kind t.right rights k j (omega arith, omega arith) in
          sym (ap (λ (x : E). kind.chained x ((table_in kind t.right rights).entry k j)) a ∙ ap (kind.chained (entry_of t.left kind.nought lefts i k)) b)

  pub step_makes : Placed t → all_long t lefts rights results ≡ true → (n k : ℕ) (later : List E)
      → k ≡ min n (remaining_of t order made)
      → later ≡ run_stored kind (trio_sizes t order) t.left t.right t.result lefts rights results (take k (drop made (walk_of (trio_sizes t order))))
      → Called kind t now_run (Step n) (Made k) (moment lefts rights later (running order (made + k)))
  unfolding step_told view_of
  step_makes law h n k later ek el =
      let long = longs kind t now_run (long_seen kind t now_run ∙ h) in
      let m = step_made now_seen order made n in
      let us = take m (drop made (run_walk now_seen order)) in
      let f = multiplied kind now_seen order us in
      let w = with_mode (with_entries kind now_seen Product f) (running order (made + m)) in
      let e : k ≡ m = ek in
      rw e (makes kind t now_run (Step n) (Made m) w (moment lefts rights later (running order (made + m)))
      (run_replies (Step n) ∙ ap (replied now_seen (Made m)) (passes now_seen.long Store (Ok w) (long_seen kind t now_run ∙ h)))
      (ap (λ (z : List E). moment lefts rights z (running order (made + m)))
      (el ∙ ap (λ (z : ℕ). run_stored kind (trio_sizes t order) t.left t.right t.result lefts rights results (take z (drop made (walk_of (trio_sizes t order))))) e ∙ products_stored law long us)
      ∙ sym (result_moment kind t law now_run long (running order (made + m)) f)))

  pub remaining_tells : (n : ℕ) → n ≡ remaining_of t order made → Called kind t now_run Remaining (ToMake n) now_run
  unfolding view_of
  remaining_tells n e = tells kind t now_run Remaining (ToMake n) (run_replies Remaining ∙ ap (λ (z : ℕ). told_only now_seen (ToMake z)) (sym e))

  pub ends : Called kind t now_run End Done (moment lefts rights results idle)
  ends =
      makes kind t now_run End Done (with_mode now_seen idle) (moment lefts rights results idle) (run_replies End) (sym (kept_moment kind t now_run idle))

  -- ---- calls that a run does not have

  pub put_running : (n i j : ℕ) (x : E) → Called kind t now_run (Put n i j x) NotOffered now_run
  put_running n i j x = tells kind t now_run (Put n i j x) NotOffered (run_replies (Put n i j x))

  pub get_running : (n i j : ℕ) → Called kind t now_run (Get n i j) NotOffered now_run
  get_running n i j = tells kind t now_run (Get n i j) NotOffered (run_replies (Get n i j))

  pub clear_running : (n : ℕ) → Called kind t now_run (Clear n) NotOffered now_run
  clear_running n = tells kind t now_run (Clear n) NotOffered (run_replies (Clear n))

  pub copy_running : (to from : ℕ) (transposed : Bool) → Called kind t now_run (Copy to from transposed) NotOffered now_run
  copy_running to from transposed = tells kind t now_run (Copy to from transposed) NotOffered (run_replies (Copy to from transposed))

  pub begin_running : (o : ℕ) → Called kind t now_run (Begin o) NotOffered now_run
  begin_running o = tells kind t now_run (Begin o) NotOffered (run_replies (Begin o))
