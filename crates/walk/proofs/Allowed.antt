-- Sizes that are allowed: their bounds, and the bounds of what is computed from them.
use Rattle.std.proofs.Common.{◌≡◌, ℕ, zero, suc, ◌*◌, ◌^◌, ◌<◌, ◌≤◌, Bool, true, false, cond, ◌&&◌, leb, List, [], ◌∷◌, length, Some, None, Option, sym, ap, ◌∙◌, arith, pow_mono, MatchOption}
use Rattle.std.proofs.lemmas.Nat.{pow_pos, mul-le}
use Rattle.std.proofs.lemmas.Bool.{and_parts, leb-true, cond-true, cond-false}
use Rattle.std.proofs.ByRecursion.{kept_by_passes}
use Rattle.std.specs.List.{AllByRecursion, slice_get}
use Rattle.walk.specs.declared.sizes.Triple.{Triple}
use Rattle.walk.specs.declared.sizes.Sizes.{Sizes}
use Rattle.walk.specs.Walks.{walk, inside, allowed, side, walk_of, reflected, height_of, tiles_of, all_tiles, triple, Walks}
use Rattle.walk.specs.Rooms.{Room}
use Rattle.walk.specs.Steps.{walked, grid_of}
use Rattle.walk.proofs.Grids.{least_law, tiles_le, length_reflected, reflected_walked}
use Rattle.walk.proofs.Once.{reflected_walks}

pub walk_of_allowed : (s : Sizes) → allowed s ≡ true → walk_of s ≡ reflected s
unfolding walk_of
walk_of_allowed s h = cond-true (allowed s) (reflected s) [] h

pub walk_of_other : (s : Sizes) → allowed s ≡ false → walk_of s ≡ []
unfolding walk_of
walk_of_other s h = cond-false (allowed s) (reflected s) [] h

pub walk_of_walks : (s : Sizes) → allowed s ≡ true → Walks s (walk_of s)
walk_of_walks s h = rw (walk_of_allowed s h) (reflected_walks s)

pub length_walk_of : (s : Sizes) → allowed s ≡ true → length (walk_of s) ≡ all_tiles s
length_walk_of s h = ap length (walk_of_allowed s h) ∙ length_reflected s

side_le : (n : ℕ) → side n ≡ true → n ≤ 4096
side_le n h = leb-true n 4096 (and_parts (leb 1 n) (leb n 4096) h).1

pub record Bounds (s : Sizes) : Type 0 where
  pub rows : s.rows ≤ 4096
  pub columns : s.columns ≤ 4096
  pub middle : s.middle ≤ 4096
  pub order : s.order ≤ 12

pub bounds : (s : Sizes) → allowed s ≡ true → Bounds s
unfolding allowed
bounds s h =
    let p = and_parts (side s.rows) (side s.columns && (side s.middle && leb s.order 12)) h in
    let q = and_parts (side s.columns) (side s.middle && leb s.order 12) p.1 in
    let r = and_parts (side s.middle) (leb s.order 12) q.1 in
    record {
      rows = side_le s.rows p.0;
      columns = side_le s.columns q.0;
      middle = side_le s.middle r.0;
      order = leb-true s.order 12 r.1;
    }

-- no side has more than 4,096 tiles
pub tiles_small : (n t : ℕ) → n ≤ 4096 → tiles_of n t ≤ 4096
tiles_small n t h = let p = pow_pos t in let m = mul-le 1 4096 (2 ^ t) 4096 p (omega arith) in tiles_le n t 4096 (omega arith)

-- three sides have a product below 2^64
pub product_fits : (a b c : ℕ) → a ≤ 4096 → b ≤ 4096 → c ≤ 4096 → a * b * c < 2 ^ 64
product_fits a b c p q r =
    let m = mul-le a b 4096 4096 p q in
    let n = mul-le (a * b) c (4096 * 4096) 4096 m r in
    omega arith

-- the walk of allowed sizes begins in the cube of all tiles
pub root_room : (s : Sizes) → Bounds s → Room (height_of s) (triple 0 0 0)
unfolding height_of
root_room s b =
    let l = (least_law s).least 12 b.rows b.columns b.middle in
    let h : height_of s ≤ 12 = omega arith in
    let p = pow_mono h in
    record { height = h; row = omega arith; column = omega arith; middle = omega arith }

-- the forward walk of the whole grid is the walk
pub whole_walk : (s : Sizes) (h : ℕ) → allowed s ≡ true → h ≡ height_of s → walked (grid_of s) h (triple 0 0 0) ≡ walk_of s
whole_walk s h ok e = rw e (sym (walk_of_allowed s ok ∙ reflected_walked s))

-- the triple at a place of a list has what each triple of the list has
pub at_place : (P : Triple → Type 0) (ts : List Triple) (n : ℕ) → AllByRecursion P ts → MatchOption (slice_get ts n) (length ts ≤ n) P
at_place P [] n all = omega arith
at_place P (t ∷ ts) zero (p, all) = p
at_place P (t ∷ ts) (suc n) (p, all) = later (slice_get ts n) (at_place P ts n all)
  where
    later : (o : Option Triple) → MatchOption o (length ts ≤ n) P → MatchOption o (suc (length ts) ≤ suc n) P
    later (Some u) q = q
    later None q = omega arith

pub all_inside : (s : Sizes) → AllByRecursion (λ t. inside s t ≡ true) (walk_of s)
unfolding walk_of reflected
all_inside s = by (allowed s)
  where
    by : (b : Bool) → AllByRecursion (λ t. inside s t ≡ true) (cond b (reflected s) [])
    by true = kept_by_passes (inside s) (walk (height_of s) (triple 0 0 0))
    by false = tt

pub placed : (s : Sizes) (n : ℕ) (o : Option Triple) → o ≡ slice_get (walk_of s) n → MatchOption o (length (walk_of s) ≤ n) (λ t. inside s t ≡ true)
placed s n o e = rw e (at_place (λ t. inside s t ≡ true) (walk_of s) n (all_inside s))
