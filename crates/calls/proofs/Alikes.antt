-- Two trios with equal shapes and entries are seen alike.
use Rattle.std.proofs.Common.{◌≡◌, ℕ, true, cond, ◌&&◌, ltb, List, length, take, sym, refl, ap, ◌∙◌}
use mathlib.Core.Path.{fun_ext}
use Rattle.std.proofs.lemmas.Bool.{le-leb}
use Rattle.kinds.specs.declared.kind.Kind.{Ghosts as Kinds}
use Rattle.placement.specs.Sites.{Site, Inside}
use Rattle.laws.specs.Stores.{entry_of}
use Rattle.calls.specs.declared.table.Table.{Table as Which}
use Rattle.calls.specs.declared.table.Table.TheVariants.{Left, Right, Result as Product}
use Rattle.calls.specs.Views.{Seen, View, seen}
use Rattle.calls.specs.Moments.{Trio, Placed, Moment, Long, held_in, table_in, site_in, store_in, view_of, opened, all_done}
use Rattle.calls.specs.Promises.{Alike, AlikeLaw}
use Rattle.calls.proofs.Own.{inside_held, held_entry, cond_same, seen_in}
use Rattle.calls.proofs.Lists.{all_next, replies, all_shown, all_told}

module _ {E : Type 0} (kind : Kinds E) where
  one_table : (p q : Site) (s r : List E) → p.rows ≡ q.rows → p.columns ≡ q.columns
      → ((i j : ℕ) → Inside p i j → entry_of p kind.nought s i j ≡ entry_of q kind.nought r i j)
      → table_in kind p s ≡ table_in kind q r
  one_table p q s r er ec e =
      let g : (ℕ → ℕ → E) = λ i j. cond (held_in p i j) (entry_of q kind.nought r i j) kind.nought in
      let a : (table_in kind p s).entry ≡ g =
      fun_ext (λ (i : ℕ). fun_ext (λ (j : ℕ). cond_same (held_in p i j) (entry_of p kind.nought s i j) (entry_of q kind.nought r i j) kind.nought (λ h. e i j (inside_held p i j h)))) in
      ap (λ (f : ℕ → ℕ → E). record { rows = p.rows; columns = p.columns; entry = f }) a
      ∙ ap (λ (n : ℕ). record { rows = n; columns = p.columns; entry = λ i j. cond (ltb i n && ltb j p.columns) (entry_of q kind.nought r i j) kind.nought }) er
      ∙ ap (λ (n : ℕ). record { rows = q.rows; columns = n; entry = λ i j. cond (ltb i q.rows && ltb j n) (entry_of q kind.nought r i j) kind.nought }) ec

  pub is_long : (t : Trio) (m : Moment E) → Long t m → (view_of kind t m).long ≡ true
  unfolding view_of
  is_long t m l =
      let a = le-leb t.left.span (length m.lefts) l.left in
      let b = le-leb t.right.span (length m.rights) l.right in
      let c = le-leb t.result.span (length m.results) l.result in
      rw (a, b, c)

  one_view : (t u : Trio) (m n : Moment E) → m.mode ≡ n.mode → Long t m → Long u n → Alike kind t u m n → view_of kind t m ≡ view_of kind u n
  unfolding view_of
  one_view t u m n em lt lu alike =
      let a = one_table t.left u.left m.lefts n.lefts (alike.rows Left) (alike.columns Left) (alike.entries Left) in
      let b = one_table t.right u.right m.rights n.rights (alike.rows Right) (alike.columns Right) (alike.entries Right) in
      let c = one_table t.result u.result m.results n.results (alike.rows Product) (alike.columns Product) (alike.entries Product) in
      let d = is_long t m lt ∙ sym (is_long u n lu) in
      rw (a, b, c, d, em)

  tables_alike : (p q : Site) (s r : List E) → table_in kind p s ≡ table_in kind q r → (i j : ℕ) → Inside p i j → entry_of p kind.nought s i j ≡ entry_of q kind.nought r i j
  tables_alike p q s r e i j h =
      let er = ap (λ (z : Seen E). z.rows) e in
      let ec = ap (λ (z : Seen E). z.columns) e in
      let hq : Inside q i j = (rw er at h.0, rw ec at h.1) in
      sym (held_entry kind p s i j h) ∙ ap (λ (z : Seen E). z.entry i j) e ∙ held_entry kind q r i j hq

  views_alike : (t u : Trio) (m n : Moment E) → view_of kind t m ≡ view_of kind u n → Alike kind t u m n
  views_alike t u m n e =
      let at : (x : Which) → table_in kind (site_in t x) (store_in m x) ≡ table_in kind (site_in u x) (store_in n x) =
      λ x. sym (seen_in kind t m x) ∙ ap (λ (v : View E). seen v x) e ∙ seen_in kind u n x in
      record {
        rows = λ x. ap (λ (z : Seen E). z.rows) (at x);
        columns = λ x. ap (λ (z : Seen E). z.columns) (at x);
        entries = λ x. tables_alike (site_in t x) (site_in u x) (store_in m x) (store_in n x) (at x);
      }

  pub alike_law : (t u : Trio) → Placed t → Placed u → AlikeLaw kind t u
  alike_law t u pt pu lefts rights results lefts' rights' results' lt lu alike cs =
      let m = opened lefts rights results in
      let n = opened lefts' rights' results' in
      let e : view_of kind t m ≡ view_of kind u n = one_view t u m n refl lt lu alike in
      record {
        answers = all_told kind t pt m cs ∙ ap (λ (v : View E). replies kind v cs) e ∙ sym (all_told kind u pu n cs);
        entries = λ k. views_alike t u (all_done kind t m (take k cs)) (all_done kind u n (take k cs))
            (all_shown kind t pt m (take k cs) ∙ ap (λ (v : View E). all_next kind v (take k cs)) e ∙ sym (all_shown kind u pu n (take k cs)));
      }
