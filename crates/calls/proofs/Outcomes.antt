-- That a call was made as it should, from what its code found out and did.
use Rattle.std.proofs.Common.{◌≡◌, ℕ, ◌≤◌, Bool, true, false, cond, not, ◌&&◌, eqb, leb, List, length, set, Ok, Err, Result, sym, refl, ap, ◌∙◌, arith}
use Rattle.masked.specs.declared.refusal.Refusal.{Refusal}
use Rattle.masked.specs.declared.refusal.Refusal.TheVariants.{Table as NoTable, Store, Outside, Mismatch, TileOrder}
use Rattle.std.proofs.lemmas.Bool.{cond-true, cond-false, eqb-true, eq-eqb, ne_eqb, and_parts, not_from_true, not_from_false}
use Rattle.kinds.specs.declared.kind.Kind.{Ghosts as Kinds}
use Rattle.placement.specs.Sites.{Site, Lawful, Inside}
use Rattle.laws.specs.Products.{Table}
use Rattle.laws.specs.Stores.{entry_of, stored}
use Rattle.laws.proofs.Stored.{stored_same, stored_more}
use Rattle.calls.specs.declared.table.Table.{Table as Which}
use Rattle.calls.specs.declared.table.Table.TheVariants.{Left, Right, Result as Product}
use Rattle.calls.specs.declared.call.Call.{Call}
use Rattle.calls.specs.declared.call.Call.TheVariants.{Put, Get, Clear, Copy, Begin, Step, Remaining, End}
use Rattle.calls.specs.declared.call.Answer.{Answer}
use Rattle.calls.specs.declared.call.Answer.TheVariants.{Done, Refused, NotOffered}
use Rattle.calls.specs.Tables.{table_numbered}
use Rattle.calls.specs.Views.{Seen, idle, running, View, seen, within, with_entries, with_mode, provided, and_then, entry_put, put_told, get_told, clear_told, copy_fits, turned, copy_told, joins, begin_told, Reply, replied, told_only, get_answer, told, reply, reply_in}
use Rattle.calls.specs.Moments.{Trio, Placed, Moment, Long, fits, held_in, copy_can, table_in, all_long, view_of, moment_of, does, moment, opened, site_in, store_in, with_store, Called}
use Rattle.calls.proofs.Own.{cond_same, inside_held, held_entry, stored_own, longs, kept_moment, left_moment, right_moment, result_moment, seen_in, long_seen}
use Rattle.calls.proofs.Lists.{nothing_done}

-- ---- any call

module _ {E : Type 0} (kind : Kinds E) (t : Trio) (m : Moment E) (c : Call E) where
  pub tells : (a : Answer E) → reply kind (view_of kind t m) c ≡ told_only (view_of kind t m) a → Called kind t m c a m
  tells a e = record {
    answer_is = sym (ap (λ (r : Reply E). r.answer) e);
    cells_are = sym (nothing_done kind t m c (ap (λ (r : Reply E). r.after) e));
  }

  pub makes : (a : Answer E) (w : View E) (later : Moment E) → reply kind (view_of kind t m) c ≡ record { answer = a; after = w } → later ≡ moment_of t m w → Called kind t m c a later
  unfolding does
  makes a w later e el = record {
    answer_is = sym (ap (λ (r : Reply E). r.answer) e);
    cells_are = el ∙ ap (moment_of t m) (sym (ap (λ (r : Reply E). r.after) e));
  }

  pub called_as : (a b : Answer E) (later last : Moment E) → Called kind t m c a later → b ≡ a → last ≡ later → Called kind t m c b last
  called_as a b later last h ea el = record { answer_is = ea ∙ h.answer_is; cells_are = el ∙ h.cells_are }

-- the same call under another name
pub called_at : {E : Type 0} (kind : Kinds E) (t : Trio) (m later : Moment E) (a : Answer E) (c d : Call E) → c ≡ d → Called kind t m d a later → Called kind t m c a later
called_at kind t m later a c d e h = rw e h

-- ---- one entry is written

module _ {E : Type 0} (kind : Kinds E) (p : Site) (law : Lawful p) (s : List E) (long : p.span ≤ length s) where
  put_here : (old : Table E) (i j : ℕ) (v : E) → entry_put old i j v i j ≡ v
  put_here old i j v = rw (eq-eqb i i refl, eq-eqb j j refl)

  put_there : (old : Table E) (i j : ℕ) (v : E) (k l : ℕ) → ((k ≡ i) × (l ≡ j) → ⊥) → entry_put old i j v k l ≡ old k l
  put_there old i j v k l ne = at (eqb k i && eqb l j) refl
    where
      at : (b : Bool) → (eqb k i && eqb l j) ≡ b → cond (eqb k i && eqb l j) v (old k l) ≡ old k l
      at true e = let a = and_parts (eqb k i) (eqb l j) e in absurd (ne (eqb-true k i a.0, eqb-true l j a.1))
      at false e = cond-false (eqb k i && eqb l j) v (old k l) e

  pub put_stored : (i j : ℕ) (v : E) → Inside p i j → set s (p.cell i j) v ≡ stored p (entry_put (table_in kind p s).entry i j v) s
  put_stored i j v h =
      let f = (table_in kind p s).entry in
      let g = entry_put f i j v in
      let own = stored_own kind p s in
      let a : set (stored p f s) (p.cell i j) (g i j) ≡ stored p g s = stored_more p law s long f g i j h (λ k l _ ne. put_there f i j v k l ne) in
      ap (λ (z : List E). set z (p.cell i j) v) (sym own)
      ∙ ap (λ (z : E). set (stored p f s) (p.cell i j) z) (sym (put_here f i j v))
      ∙ a

-- ---- one table of three

module _ {E : Type 0} (kind : Kinds E) (t : Trio) where
  pub lawful_in : Placed t → (x : Which) → Lawful (site_in t x)
  lawful_in law Left = law.left
  lawful_in law Right = law.right
  lawful_in law Product = law.result

  pub long_in : (m : Moment E) → Long t m → (x : Which) → (site_in t x).span ≤ length (store_in m x)
  long_in m long Left = long.left
  long_in m long Right = long.right
  long_in m long Product = long.result

  pub entries_moment : Placed t → (m : Moment E) → Long t m → (x : Which) (f : Table E) → moment_of t m (with_entries kind (view_of kind t m) x f) ≡ with_store m x (stored (site_in t x) f (store_in m x))
  unfolding view_of
  entries_moment law m long Left f = left_moment kind t law m long m.mode f
  entries_moment law m long Right f = right_moment kind t law m long m.mode f
  entries_moment law m long Product f = result_moment kind t law m long m.mode f

  pub same_store : (m : Moment E) (x : Which) → with_store m x (store_in m x) ≡ m
  same_store m Left = refl
  same_store m Right = refl
  same_store m Product = refl

-- ---- shapes that fit a copy

-- an entry inside the target has its entry inside the source
pub turned_inside : (transposed : Bool) (p q : Site) (i j : ℕ) → copy_can transposed p q ≡ true → Inside p i j → (w : ℕ × ℕ) → w ≡ cond transposed (j, i) (i, j) → Inside q w.0 w.1
turned_inside true p q i j fit h w e =
    let a = and_parts (eqb p.rows q.columns) (eqb p.columns q.rows) fit in
    let er = eqb-true _ _ a.0 in
    let ec = eqb-true _ _ a.1 in
    rw e (omega (arith, h.1, ec), omega (arith, h.0, er))
turned_inside false p q i j fit h w e =
    let a = and_parts (eqb p.rows q.rows) (eqb p.columns q.columns) fit in
    let er = eqb-true _ _ a.0 in
    let ec = eqb-true _ _ a.1 in
    rw e (omega (arith, h.0, er), omega (arith, h.1, ec))

turned_entries : {E : Type 0} (kind : Kinds E) (transposed : Bool) (p q : Site) (s : List E) (i j : ℕ) → copy_can transposed p q ≡ true → Inside p i j
    → turned transposed (entry_of q kind.nought s) i j ≡ turned transposed (table_in kind q s).entry i j
turned_entries kind true p q s i j fit h = sym (held_entry kind q s j i (turned_inside true p q i j fit h (j, i) refl))
turned_entries kind false p q s i j fit h = sym (held_entry kind q s i j (turned_inside false p q i j fit h (i, j) refl))

-- ---- the tests that calls begin with

module _ {A : Type 0} (n : ℕ) (f : Which → Result A Refusal) where
  pub unnamed : (r : Refusal) → table_numbered n ≡ Err r → and_then (table_numbered n) f ≡ Err r
  unnamed r e = ap (λ (z : Result Which Refusal). and_then z f) e

  pub named : (x : Which) → table_numbered n ≡ Ok x → and_then (table_numbered n) f ≡ f x
  named x e = ap (λ (z : Result Which Refusal). and_then z f) e

pub fails : {A : Type 0} (b : Bool) (refusal : Refusal) (r : Result A Refusal) → b ≡ false → provided b refusal r ≡ Err refusal
fails b refusal r e = cond-false b r (Err refusal) e

pub passes : {A : Type 0} (b : Bool) (refusal : Refusal) (r : Result A Refusal) → b ≡ true → provided b refusal r ≡ r
passes b refusal r e = cond-true b r (Err refusal) e

-- ---- an idle trio

module _ {E : Type 0} (kind : Kinds E) (t : Trio) (lefts rights results : List E) where
  abbrev now_open : Moment E
  now_open = opened lefts rights results

  abbrev now_seen : View E
  now_seen = view_of kind t (opened lefts rights results)

  pub now_long : all_long t lefts rights results ≡ true → Long t (opened lefts rights results)
  now_long h = longs kind t (opened lefts rights results) (long_seen kind t now_open ∙ h)

  idle_replies : (c : Call E) → reply kind now_seen c ≡ reply_in kind now_seen idle c
  unfolding reply view_of
  idle_replies c = refl

  -- ---- put, get and clear name one table

  module _ (n : ℕ) where
    module _ {A : Type 0} (rest : Which → Result A Refusal) where
      too_short : (x : Which) → table_numbered n ≡ Ok x → all_long t lefts rights results ≡ false → and_then (table_numbered n) (λ y. provided now_seen.long Store (rest y)) ≡ Err Store
      too_short x e h = named n (λ y. provided now_seen.long Store (rest y)) x e ∙ fails now_seen.long Store (rest x) (long_seen kind t now_open ∙ h)

      goes_on : (x : Which) → table_numbered n ≡ Ok x → all_long t lefts rights results ≡ true → and_then (table_numbered n) (λ y. provided now_seen.long Store (rest y)) ≡ rest x
      goes_on x e h = named n (λ y. provided now_seen.long Store (rest y)) x e ∙ passes now_seen.long Store (rest x) (long_seen kind t now_open ∙ h)

    module _ (i j : ℕ) (v : E) where
      abbrev put_rest : Which → Result (View E) Refusal
      put_rest x = provided (within (seen now_seen x) i j) Outside (Ok (with_entries kind now_seen x (entry_put (seen now_seen x).entry i j v)))

      put_is : (r : Refusal) → put_told kind now_seen n i j v ≡ Err r → Called kind t now_open (Put n i j v) (Refused r) now_open
      put_is r e = tells kind t now_open (Put n i j v) (Refused r) (idle_replies (Put n i j v) ∙ ap (replied now_seen Done) e)

      pub put_unnamed : (r : Refusal) → table_numbered n ≡ Err r → Called kind t now_open (Put n i j v) (Refused r) now_open
      unfolding put_told
      put_unnamed r e = put_is r (unnamed n (λ y. provided now_seen.long Store (put_rest y)) r e)

      pub put_short : (x : Which) → table_numbered n ≡ Ok x → all_long t lefts rights results ≡ false → Called kind t now_open (Put n i j v) (Refused Store) now_open
      unfolding put_told
      put_short x e h = put_is Store (too_short put_rest x e h)

      pub put_made : Placed t → (x : Which) → table_numbered n ≡ Ok x → all_long t lefts rights results ≡ true
          → (r : Result (Unit {0}) Refusal) (s : List E)
          → r ≡ cond (held_in (site_in t x) i j) (Ok tt) (Err Outside)
          → s ≡ cond (held_in (site_in t x) i j) (set (store_in now_open x) ((site_in t x).cell i j) v) (store_in now_open x)
          → Called kind t now_open (Put n i j v) (told r) (with_store now_open x s)
      unfolding put_told
      put_made law x e h r s er es = at (held_in (site_in t x) i j) refl
        where
          at : (b : Bool) → held_in (site_in t x) i j ≡ b → Called kind t now_open (Put n i j v) (told r) (with_store now_open x s)
          at true b =
              let p = site_in t x in
              let long = now_long h in
              let f = entry_put (seen now_seen x).entry i j v in
              let w = with_entries kind now_seen x f in
              let inside : within (seen now_seen x) i j ≡ true = ap (λ (z : Seen E). within z i j) (seen_in kind t now_open x) ∙ b in
              let et : put_told kind now_seen n i j v ≡ Ok w = goes_on put_rest x e h ∙ passes (within (seen now_seen x) i j) Outside (Ok w) inside in
              let ea : r ≡ Ok tt = er ∙ cond-true (held_in p i j) (Ok tt) (Err Outside) b in
              let eb : s ≡ stored p f (store_in now_open x) =
              es ∙ cond-true (held_in p i j) (set (store_in now_open x) (p.cell i j) v) (store_in now_open x) b
              ∙ put_stored kind p (lawful_in kind t law x) (store_in now_open x) (long_in kind t now_open long x) i j v (inside_held p i j b)
              ∙ ap (λ (z : Seen E). stored p (entry_put z.entry i j v) (store_in now_open x)) (sym (seen_in kind t now_open x)) in
              let el : with_store now_open x s ≡ moment_of t now_open w =
              ap (with_store now_open x) eb ∙ sym (entries_moment kind t law now_open long x f) in
              called_as kind t now_open (Put n i j v) Done (told r) (with_store now_open x s) (with_store now_open x s)
              (makes kind t now_open (Put n i j v) Done w (with_store now_open x s) (idle_replies (Put n i j v) ∙ ap (replied now_seen Done) et) el)
              (ap (λ (z : Result (Unit {0}) Refusal). told z) ea) refl
          at false b =
              let p = site_in t x in
              let f = entry_put (seen now_seen x).entry i j v in
              let w = with_entries kind now_seen x f in
              let outside : within (seen now_seen x) i j ≡ false = ap (λ (z : Seen E). within z i j) (seen_in kind t now_open x) ∙ b in
              let et : put_told kind now_seen n i j v ≡ Err Outside = goes_on put_rest x e h ∙ fails (within (seen now_seen x) i j) Outside (Ok w) outside in
              let ea : r ≡ Err Outside = er ∙ cond-false (held_in p i j) (Ok tt) (Err Outside) b in
              let eb : s ≡ store_in now_open x = es ∙ cond-false (held_in p i j) (set (store_in now_open x) (p.cell i j) v) (store_in now_open x) b in
              called_as kind t now_open (Put n i j v) (Refused Outside) (told r) now_open (with_store now_open x s) (put_is Outside et)
              (ap (λ (z : Result (Unit {0}) Refusal). told z) ea) (ap (with_store now_open x) eb ∙ same_store kind t now_open x)

    -- ---- get

    module _ (i j : ℕ) where
      abbrev get_rest : Which → Result E Refusal
      get_rest x = provided (within (seen now_seen x) i j) Outside (Ok ((seen now_seen x).entry i j))

      get_is : (r : Result E Refusal) → get_told now_seen n i j ≡ r → Called kind t now_open (Get n i j) (get_answer r) now_open
      get_is r e = tells kind t now_open (Get n i j) (get_answer r) (idle_replies (Get n i j) ∙ ap (λ (z : Result E Refusal). told_only now_seen (get_answer z)) e)

      pub get_unnamed : (r : Refusal) → table_numbered n ≡ Err r → Called kind t now_open (Get n i j) (Refused r) now_open
      unfolding get_told
      get_unnamed r e = get_is (Err r) (unnamed n (λ y. provided now_seen.long Store (get_rest y)) r e)

      pub get_short : (x : Which) → table_numbered n ≡ Ok x → all_long t lefts rights results ≡ false → Called kind t now_open (Get n i j) (Refused Store) now_open
      unfolding get_told
      get_short x e h = get_is (Err Store) (too_short get_rest x e h)

      pub get_made : (x : Which) → table_numbered n ≡ Ok x → all_long t lefts rights results ≡ true → (r : Result E Refusal)
          → r ≡ cond (held_in (site_in t x) i j) (Ok (entry_of (site_in t x) kind.nought (store_in now_open x) i j)) (Err Outside)
          → Called kind t now_open (Get n i j) (get_answer r) now_open
      unfolding get_told
      get_made x e h r er =
          let p = site_in t x in
          get_is r (goes_on get_rest x e h
          ∙ ap (λ (z : Seen E). provided (within z i j) Outside (Ok (z.entry i j))) (seen_in kind t now_open x)
          ∙ cond_same (held_in p i j) (Ok ((table_in kind p (store_in now_open x)).entry i j)) (Ok (entry_of p kind.nought (store_in now_open x) i j)) (Err Outside)
          (λ b. ap (λ (z : E). Ok z) (held_entry kind p (store_in now_open x) i j (inside_held p i j b)))
          ∙ sym er)

    -- ---- clear

    abbrev clear_rest : Which → Result (View E) Refusal
    clear_rest x = Ok (with_entries kind now_seen x (λ _ _. kind.nought))

    clear_is : (r : Refusal) → clear_told kind now_seen n ≡ Err r → Called kind t now_open (Clear n) (Refused r) now_open
    clear_is r e = tells kind t now_open (Clear n) (Refused r) (idle_replies (Clear n) ∙ ap (replied now_seen Done) e)

    pub clear_unnamed : (r : Refusal) → table_numbered n ≡ Err r → Called kind t now_open (Clear n) (Refused r) now_open
    unfolding clear_told
    clear_unnamed r e = clear_is r (unnamed n (λ y. provided now_seen.long Store (clear_rest y)) r e)

    pub clear_short : (x : Which) → table_numbered n ≡ Ok x → all_long t lefts rights results ≡ false → Called kind t now_open (Clear n) (Refused Store) now_open
    unfolding clear_told
    clear_short x e h = clear_is Store (too_short clear_rest x e h)

    pub clear_made : Placed t → (x : Which) → table_numbered n ≡ Ok x → all_long t lefts rights results ≡ true → (s : List E)
        → s ≡ stored (site_in t x) (λ _ _. kind.nought) (store_in now_open x)
        → Called kind t now_open (Clear n) Done (with_store now_open x s)
    unfolding clear_told
    clear_made law x e h s es =
        let f : Table E = λ _ _. kind.nought in
        let w = with_entries kind now_seen x f in
        makes kind t now_open (Clear n) Done w (with_store now_open x s)
        (idle_replies (Clear n) ∙ ap (replied now_seen Done) (goes_on clear_rest x e h))
        (ap (with_store now_open x) es ∙ sym (entries_moment kind t law now_open (now_long h) x f))

  -- ---- copy

  module _ (to from : ℕ) (transposed : Bool) where
    abbrev copied_view : Which → Which → View E
    copied_view x y = with_entries kind now_seen x (turned transposed (seen now_seen y).entry)

    abbrev copy_last : Which → Which → Result (View E) Refusal
    copy_last x y = provided (copy_fits transposed (seen now_seen x) (seen now_seen y)) Mismatch (Ok (copied_view x y))

    abbrev copy_rest : Which → Which → Result (View E) Refusal
    copy_rest x y = provided (not (eqb to from)) NoTable (provided now_seen.long Store (copy_last x y))

    copy_is : (r : Refusal) → copy_told kind now_seen to from transposed ≡ Err r → Called kind t now_open (Copy to from transposed) (Refused r) now_open
    copy_is r e = tells kind t now_open (Copy to from transposed) (Refused r) (idle_replies (Copy to from transposed) ∙ ap (replied now_seen Done) e)

    pub copy_to_unnamed : (r : Refusal) → table_numbered to ≡ Err r → Called kind t now_open (Copy to from transposed) (Refused r) now_open
    unfolding copy_told
    copy_to_unnamed r e = copy_is r (unnamed to (λ x. and_then (table_numbered from) (copy_rest x)) r e)

    module _ (x : Which) (ex : table_numbered to ≡ Ok x) where
      pub copy_from_unnamed : (r : Refusal) → table_numbered from ≡ Err r → Called kind t now_open (Copy to from transposed) (Refused r) now_open
      unfolding copy_told
      copy_from_unnamed r e = copy_is r (named to (λ z. and_then (table_numbered from) (copy_rest z)) x ex ∙ unnamed from (copy_rest x) r e)

      module _ (y : Which) (ey : table_numbered from ≡ Ok y) where
        copy_named : copy_told kind now_seen to from transposed ≡ copy_rest x y
        unfolding copy_told
        copy_named = named to (λ z. and_then (table_numbered from) (copy_rest z)) x ex ∙ named from (copy_rest x) y ey

        pub copy_twice : to ≡ from → Called kind t now_open (Copy to from transposed) (Refused NoTable) now_open
        copy_twice e = copy_is NoTable (copy_named ∙ fails (not (eqb to from)) NoTable (provided now_seen.long Store (copy_last x y)) (not_from_true (eqb to from) (eq-eqb to from e)))

        module _ (ne : to ≡ from → ⊥) where
          copy_apart : copy_told kind now_seen to from transposed ≡ provided now_seen.long Store (copy_last x y)
          copy_apart = copy_named ∙ passes (not (eqb to from)) NoTable (provided now_seen.long Store (copy_last x y)) (not_from_false (eqb to from) (ne_eqb to from ne))

          pub copy_short : all_long t lefts rights results ≡ false → Called kind t now_open (Copy to from transposed) (Refused Store) now_open
          copy_short h = copy_is Store (copy_apart ∙ fails now_seen.long Store (copy_last x y) (long_seen kind t now_open ∙ h))

          pub copy_made : Placed t → all_long t lefts rights results ≡ true → (r : Result (Unit {0}) Refusal) (s : List E)
              → r ≡ cond (copy_can transposed (site_in t x) (site_in t y)) (Ok tt) (Err Mismatch)
              → s ≡ cond (copy_can transposed (site_in t x) (site_in t y)) (stored (site_in t x) (turned transposed (entry_of (site_in t y) kind.nought (store_in now_open y))) (store_in now_open x)) (store_in now_open x)
              → Called kind t now_open (Copy to from transposed) (told r) (with_store now_open x s)
          copy_made law h r s er es = at (copy_can transposed (site_in t x) (site_in t y)) refl
            where
              fit : copy_fits transposed (seen now_seen x) (seen now_seen y) ≡ copy_can transposed (site_in t x) (site_in t y)
              fit =
                  ap (λ (z : Seen E). copy_fits transposed z (seen now_seen y)) (seen_in kind t now_open x)
                  ∙ ap (λ (z : Seen E). copy_fits transposed (table_in kind (site_in t x) (store_in now_open x)) z) (seen_in kind t now_open y)

              long_told : copy_told kind now_seen to from transposed ≡ copy_last x y
              long_told = copy_apart ∙ passes now_seen.long Store (copy_last x y) (long_seen kind t now_open ∙ h)

              at : (b : Bool) → copy_can transposed (site_in t x) (site_in t y) ≡ b → Called kind t now_open (Copy to from transposed) (told r) (with_store now_open x s)
              at true b =
                  let p = site_in t x in
                  let q = site_in t y in
                  let raw : Table E = turned transposed (entry_of q kind.nought (store_in now_open y)) in
                  let f : Table E = turned transposed (seen now_seen y).entry in
                  let long = now_long h in
                  let et : copy_told kind now_seen to from transposed ≡ Ok (copied_view x y) = long_told ∙ passes (copy_fits transposed (seen now_seen x) (seen now_seen y)) Mismatch (Ok (copied_view x y)) (fit ∙ b) in
                  let ea : r ≡ Ok tt = er ∙ cond-true (copy_can transposed p q) (Ok tt) (Err Mismatch) b in
                  let same : stored p raw (store_in now_open x) ≡ stored p f (store_in now_open x) =
                  stored_same p (lawful_in kind t law x) (store_in now_open x) (long_in kind t now_open long x) raw f
                  (λ i j w. turned_entries kind transposed p q (store_in now_open y) i j b w ∙ ap (λ (z : Seen E). turned transposed z.entry i j) (sym (seen_in kind t now_open y))) in
                  let eb : s ≡ stored p f (store_in now_open x) = es ∙ cond-true (copy_can transposed p q) (stored p raw (store_in now_open x)) (store_in now_open x) b ∙ same in
                  called_as kind t now_open (Copy to from transposed) Done (told r) (with_store now_open x s) (with_store now_open x s)
                  (makes kind t now_open (Copy to from transposed) Done (copied_view x y) (with_store now_open x s) (idle_replies (Copy to from transposed) ∙ ap (replied now_seen Done) et)
                  (ap (with_store now_open x) eb ∙ sym (entries_moment kind t law now_open long x f)))
                  (ap (λ (z : Result (Unit {0}) Refusal). told z) ea) refl
              at false b =
                  let p = site_in t x in
                  let q = site_in t y in
                  let raw : Table E = turned transposed (entry_of q kind.nought (store_in now_open y)) in
                  let et : copy_told kind now_seen to from transposed ≡ Err Mismatch = long_told ∙ fails (copy_fits transposed (seen now_seen x) (seen now_seen y)) Mismatch (Ok (copied_view x y)) (fit ∙ b) in
                  let ea : r ≡ Err Mismatch = er ∙ cond-false (copy_can transposed p q) (Ok tt) (Err Mismatch) b in
                  let eb : s ≡ store_in now_open x = es ∙ cond-false (copy_can transposed p q) (stored p raw (store_in now_open x)) (store_in now_open x) b in
                  called_as kind t now_open (Copy to from transposed) (Refused Mismatch) (told r) now_open (with_store now_open x s) (copy_is Mismatch et)
                  (ap (λ (z : Result (Unit {0}) Refusal). told z) ea) (ap (with_store now_open x) eb ∙ same_store kind t now_open x)

  -- ---- begin

  module _ (order : ℕ) where
    begin_is : (r : Refusal) → begin_told now_seen order ≡ Err r → Called kind t now_open (Begin order) (Refused r) now_open
    begin_is r e = tells kind t now_open (Begin order) (Refused r) (idle_replies (Begin order) ∙ ap (replied now_seen Done) e)

    joins_seen : joins now_seen ≡ fits t
    unfolding view_of
    joins_seen = refl

    abbrev begin_last : Result (View E) Refusal
    begin_last = provided (leb order 12) TileOrder (Ok (with_mode now_seen (running order 0)))

    pub begin_mismatched : fits t ≡ false → Called kind t now_open (Begin order) (Refused Mismatch) now_open
    unfolding begin_told
    begin_mismatched e = begin_is Mismatch (fails (joins now_seen) Mismatch begin_last (joins_seen ∙ e))

    module _ (e : fits t ≡ true) where
      begin_fits : begin_told now_seen order ≡ begin_last
      unfolding begin_told
      begin_fits = passes (joins now_seen) Mismatch begin_last (joins_seen ∙ e)

      pub begin_too_large : leb order 12 ≡ false → Called kind t now_open (Begin order) (Refused TileOrder) now_open
      begin_too_large h = begin_is TileOrder (begin_fits ∙ fails (leb order 12) TileOrder (Ok (with_mode now_seen (running order 0))) h)

      pub begin_made : leb order 12 ≡ true → Called kind t now_open (Begin order) Done (moment lefts rights results (running order 0))
      begin_made h =
          let w = with_mode now_seen (running order 0) in
          makes kind t now_open (Begin order) Done w (moment lefts rights results (running order 0))
          (idle_replies (Begin order) ∙ ap (replied now_seen Done) (begin_fits ∙ passes (leb order 12) TileOrder (Ok w) h))
          (sym (kept_moment kind t now_open (running order 0)))

  -- ---- calls that an idle trio does not have

  pub step_resting : (n : ℕ) → Called kind t now_open (Step n) NotOffered now_open
  step_resting n = tells kind t now_open (Step n) NotOffered (idle_replies (Step n))

  pub remaining_resting : Called kind t now_open Remaining NotOffered now_open
  remaining_resting = tells kind t now_open Remaining NotOffered (idle_replies Remaining)

  pub end_resting : Called kind t now_open End NotOffered now_open
  end_resting = tells kind t now_open End NotOffered (idle_replies End)
