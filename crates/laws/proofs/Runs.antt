-- What a list of tile products makes of the result's store.
use Rattle.std.proofs.Common.{◌≡◌, ◌≤◌, List, [], ◌∷◌, length, get_or, refl, ap, ◌∙◌}
use Rattle.kinds.specs.declared.kind.Kind.{Ghosts as Kinds}
use Rattle.placement.specs.Sites.{Site, Lawful}
use Rattle.walk.specs.declared.sizes.Triple.{Triple}
use Rattle.walk.specs.declared.sizes.Sizes.{Sizes}
use Rattle.laws.specs.Products.{Table, Adds, tile, tile_table, table_after}
use Rattle.laws.specs.Stores.{entry_of, stored, stored_terms, tile_stored, run_stored, RunLaw, SumsLaw}
use Rattle.laws.proofs.Stored.{stored_none, stored_entry, stored_next}
use Rattle.laws.proofs.Tiles.{product_law}

module _ {E : Type 0} (kind : Kinds E) (sizes : Sizes) (left right result : Site) (lefts rights s : List E) (law : Lawful result) (long : result.span ≤ length s) where
  -- one tile more
  pub tile_more : (f : Table E) (t : Triple) → tile_stored kind sizes left right result lefts rights (stored result f s) t ≡ stored result (tile_table kind.joined sizes (stored_terms kind left right lefts rights) f t) s
  tile_more f t =
      stored_next result law s long kind.nought f (λ i j x. tile kind.joined sizes (stored_terms kind left right lefts rights i j) i j x t)

  run_more : (ts : List Triple) (f : Table E) → run_stored kind sizes left right result lefts rights (stored result f s) ts ≡ stored result (table_after kind.joined sizes (stored_terms kind left right lefts rights) ts f) s
  run_more [] f = refl
  run_more (t ∷ ts) f =
      ap (λ (z : List E). run_stored kind sizes left right result lefts rights z ts) (tile_more f t)
      ∙ run_more ts (tile_table kind.joined sizes (stored_terms kind left right lefts rights) f t)

  pub run_from : (ts : List Triple) → run_stored kind sizes left right result lefts rights s ts ≡ stored result (table_after kind.joined sizes (stored_terms kind left right lefts rights) ts (entry_of result kind.nought s)) s
  run_from ts =
      ap (λ (z : List E). run_stored kind sizes left right result lefts rights z ts) (stored_none result law s long (entry_of result kind.nought s) kind.nought (λ i j h. refl))
      ∙ run_more ts (entry_of result kind.nought s)

pub run_law : {E : Type 0} (kind : Kinds E) → RunLaw kind
run_law kind sizes left right result lefts rights results ts law long = run_from kind sizes left right result lefts rights results law long ts

pub sums_law : {E : Type 0} (kind : Kinds E) → Adds kind.joined kind.nought → SumsLaw kind
sums_law {E} kind adds sizes ts walks left right result lefts rights results law long i j hi hj h =
    let f = stored_terms kind left right lefts rights in
    ap (λ (z : List E). get_or z (result.cell i j) kind.nought) (run_from kind sizes left right result lefts rights results law long ts)
    ∙ stored_entry result law results long (table_after kind.joined sizes f ts (entry_of result kind.nought results)) i j kind.nought h
    ∙ product_law E kind.joined kind.nought adds kind.chained (entry_of left kind.nought lefts) (entry_of right kind.nought rights) (entry_of result kind.nought results) sizes ts walks i j hi hj
