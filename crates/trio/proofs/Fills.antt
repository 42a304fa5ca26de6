-- How the loops that set all entries of a table go on.
use Rattle.std.proofs.Common.{◌≡◌, ℕ, ◌+◌, cond, List, set, sym, refl, ap, ◌∙◌, add-one}
use Rattle.std.proofs.lemmas.Bool.{cond-true}
use Rattle.placement.specs.Sites.{Site, Inside}
use Rattle.laws.specs.Products.{Table}
use Rattle.laws.specs.Stores.{row_stored, rows_stored, stored}
use Rattle.calls.specs.Moments.{held_in}
use Rattle.calls.proofs.Own.{held_inside}

module _ {E : Type 0} (p : Site) (f : Table E) where
  pub first_column : (r : ℕ) (s : List E) → s ≡ row_stored (p.cell r) (f r) s 0
  unfolding row_stored
  first_column r s = refl

  pub column_next : (s mid later : List E) (r j : ℕ) (v : E) → Inside p r j → mid ≡ row_stored (p.cell r) (f r) s j
      → later ≡ cond (held_in p r j) (set mid (p.cell r j) v) mid → v ≡ f r j
      → later ≡ row_stored (p.cell r) (f r) s (j + 1)
  unfolding row_stored
  column_next s mid later r j v h em el ev =
      el ∙ cond-true (held_in p r j) (set mid (p.cell r j) v) mid (held_inside p r j h)
      ∙ ap (λ (z : List E). set z (p.cell r j) v) em
      ∙ ap (λ (z : E). set (row_stored (p.cell r) (f r) s j) (p.cell r j) z) ev
      ∙ ap (row_stored (p.cell r) (f r) s) (sym (add-one j))

  pub first_row : (s : List E) → s ≡ rows_stored p f s 0
  unfolding rows_stored
  first_row s = refl

  pub row_next : (s mid later : List E) (r j : ℕ) → mid ≡ rows_stored p f s r → later ≡ row_stored (p.cell r) (f r) mid j → j ≡ p.columns
      → later ≡ rows_stored p f s (r + 1)
  unfolding rows_stored
  row_next s mid later r j em el ej =
      el ∙ ap (row_stored (p.cell r) (f r) mid) ej
      ∙ ap (λ (z : List E). row_stored (p.cell r) (f r) z p.columns) em
      ∙ ap (rows_stored p f s) (sym (add-one r))

  pub all_rows : (s later : List E) (r : ℕ) → later ≡ rows_stored p f s r → r ≡ p.rows → later ≡ stored p f s
  unfolding stored
  all_rows s later r el er = el ∙ ap (rows_stored p f s) er
