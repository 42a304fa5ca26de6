-- What the private functions answer on the way to a triple.
use Rattle.std.specs.Prelude.{◌≡◌, ℕ, ◌+◌, ◌-◌, ◌*◌, Bool, cond, not, ◌&&◌, List, [], ◌∷◌, filter, nat_lt, Some, None, Option}
use Rattle.walk.specs.declared.sizes.Triple.{Triple}
use Rattle.walk.specs.declared.sizes.Sizes.{Sizes}
use Rattle.walk.specs.declared.sizes.Grid.{Grid}
use Rattle.walk.specs.declared.cubes.Cube.{Cube}
use Rattle.walk.specs.declared.place.Turn.{Turn}
use Rattle.walk.specs.declared.place.Turn.TheVariants.{Forward, Backward}
use Rattle.walk.specs.Walks.{walk, tiles_of}
use Rattle.walk.specs.Rooms.{extent_of}

-- how many tiles each side has
abbrev pub grid_of : Sizes → Grid
grid_of s = record {
  rows = tiles_of s.rows s.order;
  columns = tiles_of s.columns s.order;
  middle = tiles_of s.middle s.order;
}

abbrev pub within : Grid → Triple → Bool
within g t = nat_lt t.row g.rows && (nat_lt t.column g.columns && nat_lt t.middle g.middle)

-- the triples of the grid that the forward walk of a cube has
abbrev pub walked : Grid → ℕ → Triple → List Triple
walked g h t = filter (within g) (walk h t)

-- how many triples of the grid the cube of a height at a triple has
abbrev pub size_at : Grid → ℕ → Triple → ℕ
size_at g h t = extent_of g.rows h t.row * extent_of g.columns h t.column * extent_of g.middle h t.middle

abbrev pub size_of : Grid → Cube → ℕ
size_of g c = size_at g c.height c.at

-- of cubes that are walked by turns: the one that has the triple at n, which way it is walked, and the place in it
abbrev pub turn_of : (Cube → ℕ) → Bool → List Cube → ℕ → Option Turn
turn_of size ahead [] n = None
turn_of size ahead (c ∷ cs) n =
    cond (nat_lt n (size c)) (Some (cond ahead (Forward c n) (Backward c n))) (turn_of size (not ahead) cs (n - size c))

-- the cubes stand at the triples, one lower than height h
abbrev pub StandAt : ℕ → List Triple → List Cube → Type 0
StandAt h [] [] = Unit {0}
StandAt h (t ∷ ts) (c ∷ cs) = (c.at ≡ t) × ((c.height + 1 ≡ h) × StandAt h ts cs)
StandAt h ts cs = ⊥
