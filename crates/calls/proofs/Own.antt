-- Stores into which a view is written: its own entries change nothing, and the entries of one table change that table.
use Rattle.std.proofs.Common.{◌≡◌, ℕ, zero, suc, ◌<◌, ◌≤◌, Bool, true, false, cond, ltb, leb, List, length, get_or, refl, ap, arith}
use mathlib.Core.Path.{fun_ext}
use lib.Seq.{set-get_or}
use Rattle.std.proofs.lemmas.Bool.{and_parts, leb-true, ltb-true, lt-ltb}
use Rattle.kinds.specs.declared.kind.Kind.{Ghosts as Kinds}
use Rattle.placement.specs.Sites.{Site, Lawful, Inside}
use Rattle.laws.specs.Products.{Table}
use Rattle.laws.specs.Stores.{entry_of, row_stored, rows_stored, stored}
use Rattle.laws.proofs.Stored.{stored_length, stored_entry, stored_same}
use Rattle.calls.specs.declared.table.Table.{Table as Which}
use Rattle.calls.specs.declared.table.Table.TheVariants.{Left, Right, Result as Product}
use Rattle.calls.specs.Views.{Mode, filled, with_entries, with_mode, seen}
use Rattle.calls.specs.Moments.{Trio, Placed, Moment, Long, moment, held_in, table_in, view_of, moment_of, all_long, site_in, store_in}

pub inside_held : (p : Site) (i j : ℕ) → held_in p i j ≡ true → Inside p i j
inside_held p i j e = let a = and_parts (ltb i p.rows) (ltb j p.columns) e in (ltb-true i p.rows a.0, ltb-true j p.columns a.1)

pub held_inside : (p : Site) (i j : ℕ) → Inside p i j → held_in p i j ≡ true
held_inside p i j h = rw (lt-ltb i p.rows h.0, lt-ltb j p.columns h.1)

-- what stands under a test matters only where the test passes
pub cond_same : {A : Type 0} (b : Bool) (x y z : A) → (b ≡ true → x ≡ y) → cond b x z ≡ cond b y z
cond_same true x y z e = e refl
cond_same false x y z e = refl

-- ---- the entries that a store has

row_own : {E : Type 0} (cell : ℕ → ℕ) (f : ℕ → E) (s : List E) (d : E) (n : ℕ) → ((j : ℕ) → j < n → f j ≡ get_or s (cell j) d) → row_stored cell f s n ≡ s
unfolding row_stored
row_own cell f s d zero e = refl
row_own cell f s d (suc n) e =
    let a = row_own cell f s d n (λ j h. e j (omega arith)) in
    let b = e n (omega arith) in
    rw (a, b) (set-get_or s (cell n) d)

rows_own : {E : Type 0} (p : Site) (f : Table E) (s : List E) (d : E) (n : ℕ) → ((i j : ℕ) → i < n → j < p.columns → f i j ≡ get_or s (p.cell i j) d) → rows_stored p f s n ≡ s
unfolding rows_stored
rows_own p f s d zero e = refl
rows_own p f s d (suc n) e =
    let a = rows_own p f s d n (λ i j h. e i j (omega arith)) in
    rw a (row_own (p.cell n) (f n) s d p.columns (λ j h. e n j (omega arith) h))

module _ {E : Type 0} (kind : Kinds E) where
  pub held_entry : (p : Site) (s : List E) (i j : ℕ) → Inside p i j → (table_in kind p s).entry i j ≡ entry_of p kind.nought s i j
  held_entry p s i j h = rw (held_inside p i j h)

  pub stored_own : (p : Site) (s : List E) → stored p (table_in kind p s).entry s ≡ s
  unfolding stored
  stored_own p s = rows_own p (table_in kind p s).entry s kind.nought p.rows (λ i j hi hj. held_entry p s i j (hi, hj))

  module _ (p : Site) (law : Lawful p) (s : List E) (long : p.span ≤ length s) where
    pub stored_filled : (f : Table E) → stored p (filled kind (table_in kind p s) f).entry s ≡ stored p f s
    stored_filled f = stored_same p law s long (filled kind (table_in kind p s) f).entry f (λ i j h. rw (held_inside p i j h))

    pub table_stored : (f : Table E) → table_in kind p (stored p f s) ≡ filled kind (table_in kind p s) f
    table_stored f =
        let e : (λ i j. cond (held_in p i j) (entry_of p kind.nought (stored p f s) i j) kind.nought) ≡ (λ i j. cond (held_in p i j) (f i j) kind.nought) =
        fun_ext (λ (i : ℕ). fun_ext (λ (j : ℕ). cond_same (held_in p i j) (entry_of p kind.nought (stored p f s) i j) (f i j) kind.nought
        (λ h. stored_entry p law s long f i j kind.nought (inside_held p i j h)))) in
        ap (λ (g : Table E). record { rows = p.rows; columns = p.columns; entry = g }) e

  -- ---- three stores

  pub seen_in : (t : Trio) (m : Moment E) (x : Which) → seen (view_of kind t m) x ≡ table_in kind (site_in t x) (store_in m x)
  unfolding view_of
  seen_in t m Left = refl
  seen_in t m Right = refl
  seen_in t m Product = refl

  pub long_seen : (t : Trio) (m : Moment E) → (view_of kind t m).long ≡ all_long t m.lefts m.rights m.results
  unfolding view_of
  long_seen t m = refl

  pub kept_moment : (t : Trio) (m : Moment E) (x : Mode) → moment_of t m (with_mode (view_of kind t m) x) ≡ moment m.lefts m.rights m.results x
  unfolding view_of moment_of
  kept_moment t m x =
      let a = stored_own t.left m.lefts in
      let b = stored_own t.right m.rights in
      let c = stored_own t.result m.results in
      rw (a, b, c)

  pub longs : (t : Trio) (m : Moment E) → (view_of kind t m).long ≡ true → Long t m
  unfolding view_of
  longs t m e =
      let a = and_parts (leb t.left.span (length m.lefts)) _ e in
      let b = and_parts (leb t.right.span (length m.rights)) _ a.1 in
      record { left = leb-true _ _ a.0; right = leb-true _ _ b.0; result = leb-true _ _ b.1 }

  module _ (t : Trio) (law : Placed t) (m : Moment E) (long : Long t m) (x : Mode) where
    pub left_moment : (f : Table E) → moment_of t m (with_mode (with_entries kind (view_of kind t m) Left f) x) ≡ moment (stored t.left f m.lefts) m.rights m.results x
    unfolding view_of moment_of
    left_moment f =
        let a = stored_filled t.left law.left m.lefts long.left f in
        let b = stored_own t.right m.rights in
        let c = stored_own t.result m.results in
        rw (a, b, c)

    pub right_moment : (f : Table E) → moment_of t m (with_mode (with_entries kind (view_of kind t m) Right f) x) ≡ moment m.lefts (stored t.right f m.rights) m.results x
    unfolding view_of moment_of
    right_moment f =
        let a = stored_own t.left m.lefts in
        let b = stored_filled t.right law.right m.rights long.right f in
        let c = stored_own t.result m.results in
        rw (a, b, c)

    pub result_moment : (f : Table E) → moment_of t m (with_mode (with_entries kind (view_of kind t m) Product f) x) ≡ moment m.lefts m.rights (stored t.result f m.results) x
    unfolding view_of moment_of
    result_moment f =
        let a = stored_own t.left m.lefts in
        let b = stored_own t.right m.rights in
        let c = stored_filled t.result law.result m.results long.result f in
        rw (a, b, c)

    pub left_view : (f : Table E) → view_of kind t (moment (stored t.left f m.lefts) m.rights m.results x) ≡ with_mode (with_entries kind (view_of kind t m) Left f) x
    unfolding view_of
    left_view f =
        let a = table_stored t.left law.left m.lefts long.left f in
        let b = stored_length t.left law.left m.lefts long.left f in
        rw (a, b)

    pub right_view : (f : Table E) → view_of kind t (moment m.lefts (stored t.right f m.rights) m.results x) ≡ with_mode (with_entries kind (view_of kind t m) Right f) x
    unfolding view_of
    right_view f =
        let a = table_stored t.right law.right m.rights long.right f in
        let b = stored_length t.right law.right m.rights long.right f in
        rw (a, b)

    pub result_view : (f : Table E) → view_of kind t (moment m.lefts m.rights (stored t.result f m.results) x) ≡ with_mode (with_entries kind (view_of kind t m) Product f) x
    unfolding view_of
    result_view f =
        let a = table_stored t.result law.result m.results long.result f in
        let b = stored_length t.result law.result m.results long.result f in
        rw (a, b)
