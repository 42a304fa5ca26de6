use Rattle.std.proofs.Common.{◌≡◌, ◌≤◌, false, length, sym, ap, ◌∙◌, arith}
use Rattle.std.proofs.lemmas.Bool.{both_ways}
use Rattle.walk.specs.Walks.{allowed, all_tiles}
use Rattle.walk.proofs.Once.{reflected_walks}
use Rattle.walk.proofs.Allowed.{walk_of_other, length_walk_of, bounds, tiles_small, product_fits}
use Rattle.walk.proofs.sizes.count.Goals as goal

pub returns-then-not-is_allowed : goal.returns-then-not-is_allowed
returns-then-not-is_allowed c =
    let no : allowed c.args.sizes ≡ false = sym c.if-not-is_allowed.ensures in
    record {
      value = sym (ap length (walk_of_other c.args.sizes no));
      product = λ h. absurd (both_ways (allowed c.args.sizes) no h);
      walks = reflected_walks c.args.sizes;
    }

pub grid-grid-requires : goal.grid-grid-requires
grid-grid-requires c = (bounds c.args.sizes (sym c.if-not-is_allowed.ensures)).order

pub overflow_mul-result-2 : goal.overflow_mul-result-2
overflow_mul-result-2 c =
    let s = c.args.sizes in
    let b = bounds s (sym c.if-not-is_allowed.ensures) in
    let grid = c.grid-grid.result in
    let x : grid.rows ≤ 4096 = rw c.grid-grid.ensures (tiles_small s.rows s.order b.rows) in
    let y : grid.columns ≤ 4096 = rw c.grid-grid.ensures (tiles_small s.columns s.order b.columns) in
    let z : grid.middle ≤ 4096 = rw c.grid-grid.ensures (tiles_small s.middle s.order b.middle) in
    record { fits = product_fits _ _ _ (omega (arith, x, y, z)) (omega (arith, x, y, z)) (omega (arith, x, y, z)) }

pub returns : goal.returns
returns c =
    let product : _ ≡ all_tiles c.args.sizes = rw c.grid-grid.ensures in
    record {
      value = product ∙ sym (length_walk_of c.args.sizes (sym c.if-not-is_allowed.ensures));
      product = λ _. product;
      walks = reflected_walks c.args.sizes;
    }
