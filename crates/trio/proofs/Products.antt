-- How the loop over the walk goes on, and what a step then has made.
use Rattle.std.proofs.Common.{◌≡◌, ℕ, ◌+◌, ◌-◌, ◌<◌, ◌≤◌, min, max, Bool, true, false, List, length, get_or, take, drop, Some, None, sym, refl, ap, ◌∙◌, arith}
use Rattle.std.specs.List.{slice_get}
use Rattle.std.proofs.lemmas.List.{get_or-drop, length-drop}
use Rattle.std.proofs.lemmas.Option.{slice_get-get_or, MatchOption-at_some}
use Rattle.std.proofs.lemmas.List.Sums.{fold_more}
use Rattle.kinds.specs.declared.kind.Kind.{Ghosts as Kinds}
use Rattle.placement.specs.Sites.{Site}
use Rattle.walk.specs.declared.sizes.Triple.{Triple}
use Rattle.walk.specs.declared.sizes.Sizes.{Sizes}
use Rattle.walk.specs.Walks.{walk_of, allowed, inside}
use Rattle.walk.proofs.Allowed.{walk_of_other, bounds, placed}
use Rattle.laws.specs.Stores.{tile_stored, run_stored}
use Rattle.product.specs.Tiles.{Begins}
use Rattle.calls.specs.Moments.{Trio, trio_sizes, remaining_of}

-- a triple of the walk is one of the product's
pub begins_at : (s : Sizes) (n : ℕ) (t : Triple) → slice_get (walk_of s) n ≡ Some t → Begins s t
begins_at s n t e = at (allowed s) refl
  where
    at : (b : Bool) → allowed s ≡ b → Begins s t
    at true a = record {
      order = (bounds s a).order;
      begins = MatchOption-at_some (length (walk_of s) ≤ n) (λ u. inside s u ≡ true) t e (placed s n (slice_get (walk_of s) n) refl);
    }
    at false a =
        let z : Some t ≡ None = sym e ∙ ap (λ (ts : List Triple). slice_get ts n) (walk_of_other s a) in
        let y : ◌≡◌ {A = ℕ} 0 1 = cc in
        absurd (omega arith)

module _ {E : Type 0} (kind : Kinds E) (s : Sizes) (left right result : Site) (lefts rights results : List E) where
  pub product_next : (mid later : List E) (from n to : ℕ) (t : Triple) → from ≤ n → n < to → to ≤ max from (length (walk_of s))
      → slice_get (walk_of s) n ≡ Some t
      → mid ≡ run_stored kind s left right result lefts rights results (take (n - from) (drop from (walk_of s)))
      → later ≡ tile_stored kind s left right result lefts rights mid t
      → later ≡ run_stored kind s left right result lefts rights results (take (n + 1 - from) (drop from (walk_of s)))
  product_next mid later from n to t a b c e em el =
      let ts = walk_of s in
      let below : n < length ts = omega arith in
      let i = n - from in
      let short : i < length (drop from ts) = let z = length-drop from ts in omega arith in
      let back : from + i ≡ n = omega arith in
      let more : n + 1 - from ≡ i + 1 = omega arith in
      let found : get_or (drop from ts) i t ≡ t =
      get_or-drop from ts i t ∙ ap (λ (k : ℕ). get_or ts k t) back ∙ (let z : Some (get_or ts n t) ≡ Some t = sym (slice_get-get_or ts n t below) ∙ e in cc) in
      el ∙ ap (λ (z : List E). tile_stored kind s left right result lefts rights z t) em
      ∙ ap (tile_stored kind s left right result lefts rights (run_stored kind s left right result lefts rights results (take i (drop from ts)))) (sym found)
      ∙ sym (fold_more (tile_stored kind s left right result lefts rights) results (drop from ts) i t short)
      ∙ ap (λ (k : ℕ). run_stored kind s left right result lefts rights results (take k (drop from ts))) (sym more)

-- what a step makes
pub made_is : (t : Trio) (order n k total less made : ℕ) (s : Sizes) → s ≡ trio_sizes t order → total ≡ length (walk_of s) → less ≡ total - made → k ≡ min n less → k ≡ min n (remaining_of t order made)
made_is t order n k total less made s es et el ek =
    ek ∙ ap (min n) (el ∙ ap (λ (x : ℕ). x - made) (et ∙ ap (λ (z : Sizes). length (walk_of z)) es))

pub results_are : {E : Type 0} (kind : Kinds E) (t : Trio) (order k made : ℕ) (s : Sizes) (lefts rights results later : List E) → s ≡ trio_sizes t order
    → later ≡ run_stored kind s t.left t.right t.result lefts rights results (take (made + k - made) (drop made (walk_of s)))
    → later ≡ run_stored kind (trio_sizes t order) t.left t.right t.result lefts rights results (take k (drop made (walk_of (trio_sizes t order))))
results_are kind t order k made s lefts rights results later es el =
    let z : made + k - made ≡ k = omega arith in
    el ∙ ap (λ (n : ℕ). run_stored kind s t.left t.right t.result lefts rights results (take n (drop made (walk_of s)))) z
    ∙ ap (λ (w : Sizes). run_stored kind w t.left t.right t.result lefts rights results (take k (drop made (walk_of w)))) es
