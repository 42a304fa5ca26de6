use Rattle.std.proofs.Common.{sym, ◌∙◌}
use Rattle.std.proofs.lemmas.Result.{err_from_is_err_and}
use Rattle.calls.specs.declared.table.Table.TheVariants.{Left, Right, Result as Product}
use Rattle.calls.specs.declared.call.Call.TheVariants.{Get}
use Rattle.calls.specs.declared.call.Answer.TheVariants.{Refused}
use Rattle.calls.specs.Tables.{table_numbered}
use Rattle.calls.specs.Moments.{Called, opened, all_long}
use Rattle.calls.proofs.Outcomes.{get_unnamed, get_short, get_made}
use Rattle.trio.specs.Trios.{idle_trio}
use Rattle.trio.proofs.Named.{found_as, refused_by}
use Rattle.trio.proofs.Idle.get.Goals as goal

pub returns-in_err-table : goal.returns-in_err-table
returns-in_err-table g c =
    let t = idle_trio g.L.Placement g.R.Placement g.S.Placement c.args.self.now in
    let now = opened c.args.lefts.now c.args.rights.now c.args.results.now in
    let p = err_from_is_err_and c.from_residual.result c.from_residual.ensures.1 in
    rw (p.1, p.2) (refused_by (λ r. Called g.E.Kind t now (Get c.args.table c.args.row c.args.column) (Refused r) now) (table_numbered c.args.table) (all_long t c.args.lefts.now c.args.rights.now c.args.results.now)
    c.in_err-table.field-0.0 (sym c.in_err-table.was ∙ c.table.ensures)
    (get_unnamed g.E.Kind t c.args.lefts.now c.args.rights.now c.args.results.now c.args.table c.args.row c.args.column) (get_short g.E.Kind t c.args.lefts.now c.args.rights.now c.args.results.now c.args.table c.args.row c.args.column))

pub returns-in-Left : goal.returns-in-Left
returns-in-Left g c =
    let h = found_as c.args.table (all_long (idle_trio g.L.Placement g.R.Placement g.S.Placement c.args.self.now) c.args.lefts.now c.args.rights.now c.args.results.now)
    c.table.ensures c.in_ok-table.was c.in-Left.is in
    get_made g.E.Kind (idle_trio g.L.Placement g.R.Placement g.S.Placement c.args.self.now) c.args.lefts.now c.args.rights.now c.args.results.now
    c.args.table c.args.row c.args.column
    Left h.0 h.1
    c.get_entry.result (rw (c.new.ensures.placement, c.new.ensures.store) at c.get_entry.ensures)

pub returns-in-Right : goal.returns-in-Right
returns-in-Right g c =
    let h = found_as c.args.table (all_long (idle_trio g.L.Placement g.R.Placement g.S.Placement c.args.self.now) c.args.lefts.now c.args.rights.now c.args.results.now)
    c.table.ensures c.in_ok-table.was c.in-Right.is in
    get_made g.E.Kind (idle_trio g.L.Placement g.R.Placement g.S.Placement c.args.self.now) c.args.lefts.now c.args.rights.now c.args.results.now
    c.args.table c.args.row c.args.column
    Right h.0 h.1
    c.get_entry-in-Right.result (rw (c.new-in-Right.ensures.placement, c.new-in-Right.ensures.store) at c.get_entry-in-Right.ensures)

pub returns-in-Result : goal.returns-in-Result
returns-in-Result g c =
    let h = found_as c.args.table (all_long (idle_trio g.L.Placement g.R.Placement g.S.Placement c.args.self.now) c.args.lefts.now c.args.rights.now c.args.results.now)
    c.table.ensures c.in_ok-table.was c.in-Result.is in
    get_made g.E.Kind (idle_trio g.L.Placement g.R.Placement g.S.Placement c.args.self.now) c.args.lefts.now c.args.rights.now c.args.results.now
    c.args.table c.args.row c.args.column
    Product h.0 h.1
    c.get_entry-in-Result.result (rw (c.new-in-Result.ensures.placement, c.new-in-Result.ensures.store) at c.get_entry-in-Result.ensures)
