-- What the named orders are, and what their maker answers.
use Rattle.std.specs.Prelude.{ℕ, ◌-◌, Bool, cond, ◌&&◌, ◌||◌, Ok, Result, ◌==◌, nat_le}
use Rattle.fields.specs.Fields.{width}
use Rattle.masked.specs.declared.refusal.Refusal.{Refusal}
use Rattle.masked.specs.declared.refusal.Refusal.TheVariants.{Shape, Order}
use Rattle.plans.specs.Plans.{Plan, by_masks}
use Rattle.makers.specs.Makers.{unless, shaped, row_strided, column_strided}
use Rattle.orders.specs.Positions.{column_position, row_position, mask_at}

-- masks at given positions, as many as the last row and the last column have binary digits
abbrev pub at_positions : ℕ → ℕ → (ℕ → ℕ) → (ℕ → ℕ) → Plan
at_positions rows columns row column = by_masks rows columns (mask_at row (width (rows - 1))) (mask_at column (width (columns - 1)))

-- the letters R, C, Z, N and H
abbrev pub R : ℕ
R = 82

abbrev pub C : ℕ
C = 67

abbrev pub Z : ℕ
Z = 90

abbrev pub N : ℕ
N = 78

abbrev pub H : ℕ
H = 72

-- one of the letters, and an inner width up to 12 under H, 0 under the others
abbrev pub ordered : ℕ → ℕ → Bool
ordered letter inner =
    (letter == H && nat_le inner 12) || ((letter == R || (letter == C || (letter == Z || letter == N))) && inner == 0)

-- R: rows one after another; C: columns one after another; Z: columns and rows by turns, from position 0;
-- N: rows and columns the other way about; H: runs of the inner width first
abbrev pub order_plan : ℕ → ℕ → ℕ → ℕ → Plan
order_plan letter rows columns inner =
    cond (letter == R) (row_strided rows columns columns)
    (cond (letter == C) (column_strided rows columns rows)
    (cond (letter == Z) (at_positions rows columns (row_position 0) (column_position 0))
    (cond (letter == N) (at_positions rows columns (column_position 0) (row_position 0))
    (at_positions rows columns (row_position inner) (column_position inner)))))

-- a named order
abbrev pub named_order : ℕ → ℕ → ℕ → ℕ → Result Plan Refusal
named_order letter rows columns inner =
    unless (ordered letter inner) Order
    (unless (shaped rows columns) Shape
    (Ok (order_plan letter rows columns inner)))
