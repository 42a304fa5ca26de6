-- A placement: a shape, a span, and which cell holds an entry. And what the questions on one answer.
use Rattle.std.specs.Prelude.{◌≡◌, ℕ, ◌+◌, ◌<◌, ◌≤◌, cond, Some, Ok, Err, Option, Result, nat_lt}
use Rattle.masked.specs.declared.refusal.Refusal.{Refusal}
use Rattle.masked.specs.declared.refusal.Refusal.TheVariants.{Outside}

pub record Site : Type 0 where
  pub rows : ℕ
  pub columns : ℕ
  pub span : ℕ
  pub cell : ℕ → ℕ → ℕ

-- row i and column j lie inside the table
abbrev pub Inside : Site → ℕ → ℕ → Type 0
Inside s i j = (i < s.rows) × (j < s.columns)

-- the laws of every placement
pub record Lawful (s : Site) : Type 0 where
  pub some_row : 1 ≤ s.rows
  pub row_limit : s.rows ≤ 4096
  pub some_column : 1 ≤ s.columns
  pub column_limit : s.columns ≤ 4096
  pub span_limit : s.span ≤ 16777216
  -- every entry's cell is below the span
  pub below : (i j : ℕ) → Inside s i j → s.cell i j < s.span
  -- some entry's cell is the last below the span
  pub reached : (i : ℕ) × (j : ℕ) × Inside s i j × (s.cell i j + 1 ≡ s.span)
  -- no two entries have one cell
  pub apart : (i j k l : ℕ) → Inside s i j → Inside s k l → s.cell i j ≡ s.cell k l → (i ≡ k) × (j ≡ l)

-- the cell of an entry, or a refusal where the row or the column lies outside
abbrev pub address_answer : Site → ℕ → ℕ → Result ℕ Refusal
address_answer s i j = cond (nat_lt i s.rows) (cond (nat_lt j s.columns) (Ok (s.cell i j)) (Err Outside)) (Err Outside)

-- who owns a cell: the answer is row i and column j exactly where that entry lies inside and its cell is the one given
pub record Owner (s : Site) (at : ℕ) (answer : Option (ℕ × ℕ)) : Type 0 where
  pub there : (i j : ℕ) → answer ≡ Some (i, j) → Inside s i j × (s.cell i j ≡ at)
  pub back : (i j : ℕ) → Inside s i j → s.cell i j ≡ at → answer ≡ Some (i, j)
