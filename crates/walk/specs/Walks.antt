-- The reflected walk over the tiles of a matrix product.
use Rattle.std.specs.Prelude.{◌≡◌, ℕ, zero, suc, ◌+◌, ◌-◌, ◌*◌, ◌/◌, ◌%◌, ◌^◌, ◌≤◌, min, max, Bool, cond, ◌&&◌, List, [], ◌∷◌, ◌++◌, reverse, count_by, filter, ◌==◌, nat_le, nat_lt}
use Rattle.fields.specs.Fields.{width}
use Rattle.walk.specs.declared.sizes.Triple.{Triple}
use Rattle.walk.specs.declared.sizes.Sizes.{Sizes}

abbrev pub triple : ℕ → ℕ → ℕ → Triple
triple i j k = record { row = i; column = j; middle = k }

-- A triple stands for a cube too: at height g, for the triples whose numbers are its own followed by g more bits.
-- Its child has i, j and k for the first of those bits.
abbrev pub child_of : Triple → ℕ → ℕ → ℕ → Triple
child_of t i j k = triple (2 * t.row + i) (2 * t.column + j) (2 * t.middle + k)

-- the eight children in the order of the forward walk: one bit changes from each to the next
abbrev pub children_of : Triple → List Triple
children_of t =
    child_of t 0 0 0 ∷ child_of t 0 0 1 ∷ child_of t 0 1 1 ∷ child_of t 0 1 0
    ∷ child_of t 1 1 0 ∷ child_of t 1 1 1 ∷ child_of t 1 0 1 ∷ child_of t 1 0 0 ∷ []

-- one list after the other: f of the first triple, b of the second, f of the third, and so on by turns
abbrev pub in_turn : (Triple → List Triple) → (Triple → List Triple) → List Triple → List Triple
in_turn f b [] = []
in_turn f b (t ∷ ts) = f t ++ in_turn b f ts

-- the forward walk of height g: the children one, three, five and seven are walked forward, the others
-- backward, and the backward walk is the forward walk read from its end
unfoldable pub walk : ℕ → Triple → List Triple
walk zero t = t ∷ []
walk (suc g) t = in_turn (walk g) (λ c. reverse (walk g c)) (children_of t)

-- whether a triple begins inside: its first row, column and middle index lie in the tables
unfoldable pub inside : Sizes → Triple → Bool
inside s t = nat_lt (t.row * 2 ^ s.order) s.rows && (nat_lt (t.column * 2 ^ s.order) s.columns && nat_lt (t.middle * 2 ^ s.order) s.middle)

-- the least h with 2^h at least each side: the width of the longest side less 1
unfoldable pub least_height : Sizes → ℕ
least_height s = width (max s.rows (max s.columns s.middle) - 1)

-- h is the least number with 2^h at least each side
pub record Least (s : Sizes) (h : ℕ) : Type 0 where
  pub rows : s.rows ≤ 2 ^ h
  pub columns : s.columns ≤ 2 ^ h
  pub middle : s.middle ≤ 2 ^ h
  pub least : (k : ℕ) → s.rows ≤ 2 ^ k → s.columns ≤ 2 ^ k → s.middle ≤ 2 ^ k → h ≤ k

-- the height of the walk: that number less the tile order, or 0 where the order is larger
unfoldable pub height_of : Sizes → ℕ
height_of s = least_height s - s.order

-- the reflected walk: the triples of the forward walk that begin inside
unfoldable pub reflected : Sizes → List Triple
reflected s = filter (inside s) (walk (height_of s) (triple 0 0 0))

abbrev pub side : ℕ → Bool
side n = nat_le 1 n && nat_le n 4096

-- the sides are from 1 to 4,096, and the order is from 0 to 12
unfoldable pub allowed : Sizes → Bool
allowed s = side s.rows && (side s.columns && (side s.middle && nat_le s.order 12))

-- the walk of any four numbers: of those that are not allowed it is empty
unfoldable pub walk_of : Sizes → List Triple
walk_of s = cond (allowed s) (reflected s) []

-- whether two triples are the same
abbrev pub same : Triple → Triple → Bool
same t u = t.row == u.row && (t.column == u.column && t.middle == u.middle)

-- ts is a walk of s: each triple that begins inside stands there exactly once, and no other stands there
abbrev pub Walks : Sizes → List Triple → Type 0
Walks s ts = (t : Triple) → count_by (same t) ts ≡ cond (inside s t) 1 0

-- how many tiles of order t cover n: n / 2^t, rounded up
abbrev pub tiles_of : ℕ → ℕ → ℕ
tiles_of n t = n / 2 ^ t + min 1 (n % 2 ^ t)

abbrev pub all_tiles : Sizes → ℕ
all_tiles s = tiles_of s.rows s.order * tiles_of s.columns s.order * tiles_of s.middle s.order

abbrev pub sizes_of : ℕ → ℕ → ℕ → ℕ → Sizes
sizes_of r c q t = record { rows = r; columns = c; middle = q; order = t }
