-- Cells that no entry of a table has.
use Rattle.std.specs.Prelude.{ℕ, zero, suc, ◌+◌, Bool, false, cond, ◌||◌, nat_eq}
use Rattle.placement.specs.Sites.{Site}

-- the sum of f at each number below n
abbrev pub sum_below : ℕ → (ℕ → ℕ) → ℕ
sum_below zero f = 0
sum_below (suc n) f = sum_below n f + f n

-- some number below n passes the test
abbrev pub any_below : ℕ → (ℕ → Bool) → Bool
any_below zero p = false
any_below (suc n) p = any_below n p || p n

-- some entry has the cell a
unfoldable pub owned : (rows columns : ℕ) (cell : ℕ → ℕ → ℕ) → ℕ → Bool
owned rows columns cell a = any_below rows (λ i. any_below columns (λ j. nat_eq (cell i j) a))

-- how many cells below the span no entry has
unfoldable pub idle_cells : (rows columns span : ℕ) (cell : ℕ → ℕ → ℕ) → ℕ
idle_cells rows columns span cell = sum_below span (λ a. cond (owned rows columns cell a) 0 1)

-- how many cells of a placement lie idle
abbrev pub idle_of : Site → ℕ
idle_of s = idle_cells s.rows s.columns s.span s.cell
