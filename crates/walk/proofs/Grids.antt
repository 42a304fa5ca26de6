-- Tiles, heights, and how many triples of a grid a cube has.
use Rattle.std.proofs.Common.{◌≡◌, ℕ, zero, suc, ◌+◌, ◌-◌, ◌*◌, ◌/◌, ◌%◌, ◌^◌, ◌<◌, ◌≤◌, min, max, Bool, true, false, cond, ◌&&◌, ltb, ◌⊎◌, List, [], ◌∷◌, length, filter, sym, refl, ap, ◌∙◌, inl, inr, ⊎_elim, pow-suc, arith, pow_mono}
use Rattle.std.proofs.lemmas.List.Sums.{length-filter}
use Rattle.std.proofs.lemmas.Nat.{pow_pos, pow-add, mul-le, mod_below, div-add-mod'}
use Rattle.std.proofs.lemmas.Bool.{cases_lt, lt-ltb, le-ltb}
use Rattle.fields.specs.Fields.{width}
use Rattle.fields.proofs.Widths.{below_width, width_below}
use Rattle.walk.specs.declared.sizes.Triple.{Triple}
use Rattle.walk.specs.declared.sizes.Sizes.{Sizes}
use Rattle.walk.specs.declared.sizes.Grid.{Grid}
use Rattle.walk.specs.Walks.{walk, inside, tiles_of, least_height, height_of, Least, reflected, triple, all_tiles}
use Rattle.walk.specs.Rooms.{extent_of}
use Rattle.walk.specs.Steps.{within, walked, size_at, grid_of}
use Rattle.walk.proofs.Totals.{over, over_zero, over_suc, weight, total, sum_by_same}

-- the largest of three sides is at most 2^h exactly where its predecessor has at most h digits
pub least_law : (s : Sizes) → Least s (least_height s)
unfolding least_height
least_law s = record {
  rows = omega (arith, below);
  columns = omega (arith, below);
  middle = omega (arith, below);
  least = λ k a b c. let p = pow_pos k in width_below top k (omega arith);
} where
  top : ℕ
  top = max s.rows (max s.columns s.middle) - 1

  below : top < 2 ^ width top
  below = below_width top (width top) (omega arith)

-- the tiles of a cube of the walk's height cover a side
pub covers : (n h t : ℕ) → n ≤ 2 ^ h → n ≤ 2 ^ t * 2 ^ (h - t)
covers n h t l =
    let le : h ≤ t + (h - t) = omega arith in
    let p = pow_mono le in
    let e = pow-add 2 t (h - t) in
    omega arith

-- a tile begins below n exactly where its number is below the number of tiles
below_tiles : (x n T : ℕ) → 0 < T → x * T < n → x < n / T + min 1 (n % T)
below_tiles x n T p h = by (cases_lt x (n / T))
  where
    by : (x < n / T) ⊎ (n / T ≤ x) → x < n / T + min 1 (n % T)
    by (inl l) = omega arith
    by (inr l) =
        let d = div-add-mod' n T in
        let m = mul-le (n / T) T x T l (omega arith) in
        ⊎_elim
        (λ z. omega arith)
        (λ z. absurd (let more = mul-le (n / T + 1) T x T z (omega arith) in let r = mod_below n T p in omega arith))
        (cases_lt x (n / T + 1))

tiles_below : (x n T : ℕ) → 0 < T → x < n / T + min 1 (n % T) → x * T < n
tiles_below x n T p h = by (cases_lt x (n / T))
  where
    by : (x < n / T) ⊎ (n / T ≤ x) → x * T < n
    by (inl l) = let d = div-add-mod' n T in let m = mul-le (x + 1) T (n / T) T (omega arith) (omega arith) in omega arith
    by (inr l) = let d = div-add-mod' n T in let e : x ≡ n / T = omega arith in rw e (omega arith)

pub begins_below : (x n t : ℕ) → ltb (x * 2 ^ t) n ≡ ltb x (tiles_of n t)
begins_below x n t = by (cases_lt (x * 2 ^ t) n)
  where
    by : (x * 2 ^ t < n) ⊎ (n ≤ x * 2 ^ t) → ltb (x * 2 ^ t) n ≡ ltb x (tiles_of n t)
    by (inl h) = lt-ltb (x * 2 ^ t) n h ∙ sym (lt-ltb x (tiles_of n t) (below_tiles x n (2 ^ t) (pow_pos t) h))
    by (inr h) = le-ltb (x * 2 ^ t) n h ∙ sym (le-ltb x (tiles_of n t) (⊎_elim (λ l. absurd (let m = tiles_below x n (2 ^ t) (pow_pos t) l in omega arith)) (λ l. l) (cases_lt x (tiles_of n t))))

pub inside_within : (s : Sizes) (t : Triple) → inside s t ≡ within (grid_of s) t
unfolding inside
inside_within s t =
    rw (begins_below t.row s.rows s.order, begins_below t.column s.columns s.order, begins_below t.middle s.middle s.order)

pub kept_by_same : {X : Type 0} (p q : X → Bool) → ((x : X) → p x ≡ q x) → (xs : List X) → filter p xs ≡ filter q xs
kept_by_same p q e [] = refl
kept_by_same p q e (x ∷ xs) = rw (e x, kept_by_same p q e xs)

pub reflected_walked : (s : Sizes) → reflected s ≡ walked (grid_of s) (height_of s) (triple 0 0 0)
unfolding reflected
reflected_walked s = kept_by_same (inside s) (within (grid_of s)) (inside_within s) (walk (height_of s) (triple 0 0 0))

-- how many tiles a side has: none more than the cube
pub tiles_le : (n t P : ℕ) → n ≤ 2 ^ t * P → tiles_of n t ≤ P
tiles_le n t P h = ⊎_elim (λ l. absurd (let m = tiles_below P n (2 ^ t) (pow_pos t) l in omega arith)) (λ l. l) (cases_lt P (tiles_of n t))

abbrev pub below : ℕ → ℕ → ℕ
below a x = cond (ltb x a) 1 0

pub over_below : (a g x : ℕ) → over (below a) g x ≡ extent_of a g x
over_below a zero x = over_zero (below a) x ∙ by (cases_lt x a)
  where
    by : (x < a) ⊎ (a ≤ x) → cond (ltb x a) 1 0 ≡ extent_of a 0 x
    by (inl h) = rw (lt-ltb x a h) (omega arith)
    by (inr h) = rw (le-ltb x a h) (omega arith)
over_below a (suc g) x =
    let l = over_below a g (2 * x + 0) in
    let r = over_below a g (2 * x + 1) in
    over_suc (below a) g x ∙ rw (l, r, pow-suc 2 g) (omega arith)

pub three : (a b c : Bool) → cond (a && (b && c)) 1 0 ≡ cond a 1 0 * cond b 1 0 * cond c 1 0
three true true true = refl
three true true false = refl
three true false true = refl
three true false false = refl
three false true true = refl
three false true false = refl
three false false true = refl
three false false false = refl

pub length_walked : (g : Grid) (h : ℕ) (t : Triple) → length (walked g h t) ≡ size_at g h t
length_walked g h t =
    length-filter (within g) (walk h t)
    ∙ sum_by_same (λ x. cond (within g x) 1 0) (weight (below g.rows) (below g.columns) (below g.middle)) (λ x. three (ltb x.row g.rows) (ltb x.column g.columns) (ltb x.middle g.middle)) (walk h t)
    ∙ total (below g.rows) (below g.columns) (below g.middle) h t
    ∙ rw (over_below g.rows h t.row, over_below g.columns h t.column, over_below g.middle h t.middle)

-- all of a side's tiles lie in the cube of the walk
whole : (n h t : ℕ) → n ≤ 2 ^ h → extent_of (tiles_of n t) (h - t) 0 ≡ tiles_of n t
whole n h t l = let le = tiles_le n t (2 ^ (h - t)) (covers n h t l) in omega arith

-- how many triples the reflected walk has
pub length_reflected : (s : Sizes) → length (reflected s) ≡ all_tiles s
unfolding height_of
length_reflected s =
    let l = least_law s in
    ap length (reflected_walked s)
    ∙ length_walked (grid_of s) (height_of s) (triple 0 0 0)
    ∙ rw (whole s.rows (least_height s) s.order l.rows, whole s.columns (least_height s) s.order l.columns, whole s.middle (least_height s) s.order l.middle)
