-- Indices stay inside the tables.
use Rattle.std.proofs.Common.{◌≡◌, ℕ, ◌*◌, ◌^◌, ◌<◌, ◌≤◌, ltb, List, Ok, Result, sym, ◌∙◌, arith}
use Rattle.std.proofs.lemmas.Bool.{and_parts, ltb-true, lt-ltb}
use Rattle.masked.specs.declared.refusal.Refusal.{Refusal}
use Rattle.placement.specs.Sites.{Site, Lawful, Inside, address_answer}
use Rattle.walk.specs.declared.sizes.Triple.{Triple}
use Rattle.walk.specs.declared.sizes.Sizes.{Sizes}
use Rattle.walk.specs.Walks.{inside}
use Rattle.product.specs.Tiles.{Tables, Begins}

-- the answer for an entry inside is its cell
pub cell_inside : (p : Site) (i j v : ℕ) (r : Result ℕ Refusal) → Inside p i j → r ≡ address_answer p i j → r ≡ Ok v → v ≡ p.cell i j
cell_inside p i j v r h e o =
    let z : Ok v ≡ Ok (p.cell i j) = sym o ∙ e ∙ rw (lt-ltb i p.rows h.0, lt-ltb j p.columns h.1) in
    cc

pub record Room (s : Sizes) (t : Triple) : Type 0 where
  pub order : s.order ≤ 12
  pub row : t.row * 2 ^ s.order < s.rows
  pub column : t.column * 2 ^ s.order < s.columns
  pub middle : t.middle * 2 ^ s.order < s.middle
  pub rows : s.rows ≤ 4096
  pub columns : s.columns ≤ 4096
  pub middles : s.middle ≤ 4096

-- the tile begins inside, and the sides are at most 4,096
pub room : {E : Type 0} {s : Sizes} {t : Triple} {left right result : Site} {results : List E} → Lawful left → Lawful right → Tables s left right result results → Begins s t → Room s t
unfolding inside
room {s = s} {t = t} ll lr tables begins =
    let a = and_parts (ltb (t.row * 2 ^ s.order) s.rows) _ begins.begins in
    let b = and_parts (ltb (t.column * 2 ^ s.order) s.columns) _ a.1 in
    record {
      order = begins.order;
      row = ltb-true (t.row * 2 ^ s.order) s.rows a.0;
      column = ltb-true (t.column * 2 ^ s.order) s.columns b.0;
      middle = ltb-true (t.middle * 2 ^ s.order) s.middle b.1;
      rows = omega (arith, tables.left_rows, ll.row_limit);
      columns = omega (arith, tables.right_columns, lr.column_limit);
      middles = omega (arith, tables.left_columns, ll.column_limit);
    }
