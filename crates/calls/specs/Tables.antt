-- The tables of a trio by their numbers.
use Rattle.std.specs.Prelude.{ℕ, cond, Ok, Err, Result, ◌==◌}
use Rattle.masked.specs.declared.refusal.Refusal.{Refusal}
use Rattle.masked.specs.declared.refusal.Refusal.TheVariants.{Table as NoTable}
use Rattle.calls.specs.declared.table.Table.{Table}
use Rattle.calls.specs.declared.table.Table.TheVariants.{Left, Right, Result as Product}

-- 0 is the left, 1 the right and 2 the result; there is no other
abbrev pub table_numbered : ℕ → Result Table Refusal
table_numbered n = cond (n == 0) (Ok Left) (cond (n == 1) (Ok Right) (cond (n == 2) (Ok Product) (Err NoTable)))
