-- Moving from cell to cell.
use Rattle.std.specs.Prelude.{◌≡◌, ℕ, ◌+◌, Ok, Err, Result, ◌≢◌}
use Rattle.masked.specs.declared.refusal.Refusal.{Refusal}
use Rattle.masked.specs.declared.refusal.Refusal.TheVariants.{Outside}
use Rattle.placement.specs.Sites.{Site, Inside}

-- the answer is the cell of the given cell's entry moved by some rows and columns; it is refused where the entry
-- reached lies outside, and where the given cell has no owner
pub record Moved (s : Site) (at rows columns : ℕ) (answer : Result ℕ Refusal) : Type 0 where
  pub reached : (i j : ℕ) → Inside s i j → s.cell i j ≡ at → Inside s (i + rows) (j + columns) → answer ≡ Ok (s.cell (i + rows) (j + columns))
  pub outside : (i j : ℕ) → Inside s i j → s.cell i j ≡ at → (Inside s (i + rows) (j + columns) → ⊥) → answer ≡ Err Outside
  pub unowned : ((i j : ℕ) → Inside s i j → s.cell i j ≢ at) → answer ≡ Err Outside
