use Rattle.std.proofs.Common.{sym, ◌∙◌}
use Rattle.std.proofs.lemmas.Result.{err_from_is_err_and}
use Rattle.calls.specs.declared.table.Table.TheVariants.{Left, Right, Result as Product}
use Rattle.calls.specs.declared.call.Call.TheVariants.{Clear}
use Rattle.calls.specs.declared.call.Answer.TheVariants.{Refused}
use Rattle.calls.specs.Tables.{table_numbered}
use Rattle.calls.specs.Moments.{Called, opened, all_long}
use Rattle.calls.proofs.Outcomes.{clear_unnamed, clear_short, clear_made}
use Rattle.trio.proofs.Laws.{all_lawful}
use Rattle.trio.specs.Trios.{idle_trio}
use Rattle.trio.proofs.Named.{found_as, refused_by}
use Rattle.trio.proofs.Idle.clear.Goals as goal

pub returns-in_err-table : goal.returns-in_err-table
returns-in_err-table g c =
    let t = idle_trio g.L.Placement g.R.Placement g.S.Placement c.args.self.now in
    let now = opened c.args.lefts.now c.args.rights.now c.args.results.now in
    let p = err_from_is_err_and c.from_residual.result c.from_residual.ensures.1 in
    rw (p.1, p.2) (refused_by (λ r. Called g.E.Kind t now (Clear c.args.table) (Refused r) now) (table_numbered c.args.table) (all_long t c.args.lefts.now c.args.rights.now c.args.results.now)
    c.in_err-table.field-0.0 (sym c.in_err-table.was ∙ c.table.ensures)
    (clear_unnamed g.E.Kind t c.args.lefts.now c.args.rights.now c.args.results.now c.args.table) (clear_short g.E.Kind t c.args.lefts.now c.args.rights.now c.args.results.now c.args.table))

pub returns-in-Left : goal.returns-in-Left
returns-in-Left g c =
    let h = found_as c.args.table (all_long (idle_trio g.L.Placement g.R.Placement g.S.Placement c.args.self.now) c.args.lefts.now c.args.rights.now c.args.results.now)
    c.table.ensures c.in_ok-table.was c.in-Left.is in
    clear_made g.E.Kind (idle_trio g.L.Placement g.R.Placement g.S.Placement c.args.self.now) c.args.lefts.now c.args.rights.now c.args.results.now
    c.args.table
    (all_lawful g.L.Placement g.R.Placement g.S.Placement g.met.L.Placement.lawful g.met.R.Placement.lawful g.met.S.Placement.lawful c.args.self.now.tables)
    Left h.0 h.1
    c.clear_table.new.store c.clear_table.ensures

pub returns-in-Right : goal.returns-in-Right
returns-in-Right g c =
    let h = found_as c.args.table (all_long (idle_trio g.L.Placement g.R.Placement g.S.Placement c.args.self.now) c.args.lefts.now c.args.rights.now c.args.results.now)
    c.table.ensures c.in_ok-table.was c.in-Right.is in
    clear_made g.E.Kind (idle_trio g.L.Placement g.R.Placement g.S.Placement c.args.self.now) c.args.lefts.now c.args.rights.now c.args.results.now
    c.args.table
    (all_lawful g.L.Placement g.R.Placement g.S.Placement g.met.L.Placement.lawful g.met.R.Placement.lawful g.met.S.Placement.lawful c.args.self.now.tables)
    Right h.0 h.1
    c.clear_table-in-Right.new.store c.clear_table-in-Right.ensures

pub returns-in-Result : goal.returns-in-Result
returns-in-Result g c =
    let h = found_as c.args.table (all_long (idle_trio g.L.Placement g.R.Placement g.S.Placement c.args.self.now) c.args.lefts.now c.args.rights.now c.args.results.now)
    c.table.ensures c.in_ok-table.was c.in-Result.is in
    clear_made g.E.Kind (idle_trio g.L.Placement g.R.Placement g.S.Placement c.args.self.now) c.args.lefts.now c.args.rights.now c.args.results.now
    c.args.table
    (all_lawful g.L.Placement g.R.Placement g.S.Placement g.met.L.Placement.lawful g.met.R.Placement.lawful g.met.S.Placement.lawful c.args.self.now.tables)
    Product h.0 h.1
    c.clear_table-in-Result.new.store c.clear_table-in-Result.ensures
