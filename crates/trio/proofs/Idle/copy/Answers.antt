use Rattle.std.proofs.Common.{rules, ◌≡◌, sym, ◌∙◌}
use Rattle.std.proofs.lemmas.Result.{err_from_is_err_and}
use denote.Enum.Bare.{same_true, same_false}
use Rattle.calls.specs.contracts.table.Table.{the_type}
use Rattle.calls.specs.Moments.{all_long}
use Rattle.calls.specs.declared.table.Table.TheVariants.{Left, Right, Result as Product}
use Rattle.calls.proofs.Outcomes.{copy_to_unnamed, copy_from_unnamed, copy_twice, copy_short, copy_made}
use Rattle.trio.proofs.Laws.{all_lawful}
use Rattle.trio.specs.Trios.{idle_trio}
use Rattle.trio.proofs.Named.{named_as, one_number, one_table, long_by, short_by}
use Rattle.trio.proofs.Idle.copy.Goals as goal

pub returns-in_err-target : goal.returns-in_err-target
returns-in_err-target g c =
    let p = err_from_is_err_and c.from_residual.result c.from_residual.ensures.1 in
    rw (p.1, p.2) (copy_to_unnamed g.E.Kind (idle_trio g.L.Placement g.R.Placement g.S.Placement c.args.self.now) c.args.lefts.now c.args.rights.now c.args.results.now
    c.args.to c.args.from c.args.transposed c.in_err-target.field-0.0 (sym c.try_from.ensures ∙ c.in_err-target.was))

pub returns-in_err-source : goal.returns-in_err-source
returns-in_err-source g c =
    let p = err_from_is_err_and c.from_residual-in_err-source.result c.from_residual-in_err-source.ensures.1 in
    rw (p.1, p.2) (copy_from_unnamed g.E.Kind (idle_trio g.L.Placement g.R.Placement g.S.Placement c.args.self.now) c.args.lefts.now c.args.rights.now c.args.results.now
    c.args.to c.args.from c.args.transposed c.in_ok-target.target (sym c.try_from.ensures ∙ c.in_ok-target.was)
    c.in_err-source.field-0.0 (sym c.try_from-2.ensures ∙ c.in_err-source.was))

pub returns-then-eq : goal.returns-then-eq
returns-then-eq g c =
    copy_twice g.E.Kind (idle_trio g.L.Placement g.R.Placement g.S.Placement c.args.self.now) c.args.lefts.now c.args.rights.now c.args.results.now
    c.args.to c.args.from c.args.transposed c.in_ok-target.target (sym c.try_from.ensures ∙ c.in_ok-target.was)
    c.in_ok-source.source (sym c.try_from-2.ensures ∙ c.in_ok-source.was)
    (one_number c.args.to c.args.from (sym c.try_from.ensures ∙ c.in_ok-target.was) (sym c.try_from-2.ensures ∙ c.in_ok-source.was)
    (same_true the_type (search rules) _ _ (sym c.if-eq.ensures)))

pub returns-in_err-check_stores : goal.returns-in_err-check_stores
returns-in_err-check_stores g c =
    let p = err_from_is_err_and c.from_residual-in_err-check_stores.result c.from_residual-in_err-check_stores.ensures.1 in
    let short = short_by (all_long (idle_trio g.L.Placement g.R.Placement g.S.Placement c.args.self.now) c.args.lefts.now c.args.rights.now c.args.results.now) c.check_stores.ensures c.in_err-check_stores.was in
    let apart = λ (e : c.args.to ≡ c.args.from). same_false the_type c.in_ok-target.target c.in_ok-source.source (sym c.eq.ensures ∙ c.if-eq.false)
    (one_table c.args.to c.args.from (sym c.try_from.ensures ∙ c.in_ok-target.was) (sym c.try_from-2.ensures ∙ c.in_ok-source.was) e) in
    rw (p.1, p.2, short.1) (copy_short g.E.Kind (idle_trio g.L.Placement g.R.Placement g.S.Placement c.args.self.now) c.args.lefts.now c.args.rights.now c.args.results.now
    c.args.to c.args.from c.args.transposed c.in_ok-target.target (sym c.try_from.ensures ∙ c.in_ok-target.was)
    c.in_ok-source.source (sym c.try_from-2.ensures ∙ c.in_ok-source.was) apart short.0)

pub returns-in-Left-Right : goal.returns-in-Left-Right
returns-in-Left-Right g c =
    let apart = λ (e : c.args.to ≡ c.args.from). same_false the_type c.in_ok-target.target c.in_ok-source.source (sym c.eq.ensures ∙ c.if-eq.false)
    (one_table c.args.to c.args.from (sym c.try_from.ensures ∙ c.in_ok-target.was) (sym c.try_from-2.ensures ∙ c.in_ok-source.was) e) in
    copy_made g.E.Kind (idle_trio g.L.Placement g.R.Placement g.S.Placement c.args.self.now) c.args.lefts.now c.args.rights.now c.args.results.now
    c.args.to c.args.from c.args.transposed
    Left (named_as c.args.to c.try_from.ensures c.in_ok-target.was c.in-Left-Right.is-0)
    Right (named_as c.args.from c.try_from-2.ensures c.in_ok-source.was c.in-Left-Right.is-1) apart
    (all_lawful g.L.Placement g.R.Placement g.S.Placement g.met.L.Placement.lawful g.met.R.Placement.lawful g.met.S.Placement.lawful c.args.self.now.tables)
    (long_by (all_long (idle_trio g.L.Placement g.R.Placement g.S.Placement c.args.self.now) c.args.lefts.now c.args.rights.now c.args.results.now) c.check_stores.ensures c.in_ok-check_stores.was) c.copy_table.result c.copy_table.new.store
    (rw (c.new.ensures.placement) at c.copy_table.ensures.answer) (rw (c.new.ensures.placement, c.new.ensures.store) at c.copy_table.ensures.cells)

pub returns-in-Left-Result : goal.returns-in-Left-Result
returns-in-Left-Result g c =
    let apart = λ (e : c.args.to ≡ c.args.from). same_false the_type c.in_ok-target.target c.in_ok-source.source (sym c.eq.ensures ∙ c.if-eq.false)
    (one_table c.args.to c.args.from (sym c.try_from.ensures ∙ c.in_ok-target.was) (sym c.try_from-2.ensures ∙ c.in_ok-source.was) e) in
    copy_made g.E.Kind (idle_trio g.L.Placement g.R.Placement g.S.Placement c.args.self.now) c.args.lefts.now c.args.rights.now c.args.results.now
    c.args.to c.args.from c.args.transposed
    Left (named_as c.args.to c.try_from.ensures c.in_ok-target.was c.in-Left-Result.is-0)
    Product (named_as c.args.from c.try_from-2.ensures c.in_ok-source.was c.in-Left-Result.is-1) apart
    (all_lawful g.L.Placement g.R.Placement g.S.Placement g.met.L.Placement.lawful g.met.R.Placement.lawful g.met.S.Placement.lawful c.args.self.now.tables)
    (long_by (all_long (idle_trio g.L.Placement g.R.Placement g.S.Placement c.args.self.now) c.args.lefts.now c.args.rights.now c.args.results.now) c.check_stores.ensures c.in_ok-check_stores.was) c.copy_table-in-Left-Result.result c.copy_table-in-Left-Result.new.store
    (rw (c.new-in-Left-Result.ensures.placement) at c.copy_table-in-Left-Result.ensures.answer) (rw (c.new-in-Left-Result.ensures.placement, c.new-in-Left-Result.ensures.store) at c.copy_table-in-Left-Result.ensures.cells)

pub returns-in-Right-Left : goal.returns-in-Right-Left
returns-in-Right-Left g c =
    let apart = λ (e : c.args.to ≡ c.args.from). same_false the_type c.in_ok-target.target c.in_ok-source.source (sym c.eq.ensures ∙ c.if-eq.false)
    (one_table c.args.to c.args.from (sym c.try_from.ensures ∙ c.in_ok-target.was) (sym c.try_from-2.ensures ∙ c.in_ok-source.was) e) in
    copy_made g.E.Kind (idle_trio g.L.Placement g.R.Placement g.S.Placement c.args.self.now) c.args.lefts.now c.args.rights.now c.args.results.now
    c.args.to c.args.from c.args.transposed
    Right (named_as c.args.to c.try_from.ensures c.in_ok-target.was c.in-Right-Left.is-0)
    Left (named_as c.args.from c.try_from-2.ensures c.in_ok-source.was c.in-Right-Left.is-1) apart
    (all_lawful g.L.Placement g.R.Placement g.S.Placement g.met.L.Placement.lawful g.met.R.Placement.lawful g.met.S.Placement.lawful c.args.self.now.tables)
    (long_by (all_long (idle_trio g.L.Placement g.R.Placement g.S.Placement c.args.self.now) c.args.lefts.now c.args.rights.now c.args.results.now) c.check_stores.ensures c.in_ok-check_stores.was) c.copy_table-in-Right-Left.result c.copy_table-in-Right-Left.new.store
    (rw (c.new-in-Right-Left.ensures.placement) at c.copy_table-in-Right-Left.ensures.answer) (rw (c.new-in-Right-Left.ensures.placement, c.new-in-Right-Left.ensures.store) at c.copy_table-in-Right-Left.ensures.cells)

pub returns-in-Right-Result : goal.returns-in-Right-Result
returns-in-Right-Result g c =
    let apart = λ (e : c.args.to ≡ c.args.from). same_false the_type c.in_ok-target.target c.in_ok-source.source (sym c.eq.ensures ∙ c.if-eq.false)
    (one_table c.args.to c.args.from (sym c.try_from.ensures ∙ c.in_ok-target.was) (sym c.try_from-2.ensures ∙ c.in_ok-source.was) e) in
    copy_made g.E.Kind (idle_trio g.L.Placement g.R.Placement g.S.Placement c.args.self.now) c.args.lefts.now c.args.rights.now c.args.results.now
    c.args.to c.args.from c.args.transposed
    Right (named_as c.args.to c.try_from.ensures c.in_ok-target.was c.in-Right-Result.is-0)
    Product (named_as c.args.from c.try_from-2.ensures c.in_ok-source.was c.in-Right-Result.is-1) apart
    (all_lawful g.L.Placement g.R.Placement g.S.Placement g.met.L.Placement.lawful g.met.R.Placement.lawful g.met.S.Placement.lawful c.args.self.now.tables)
    (long_by (all_long (idle_trio g.L.Placement g.R.Placement g.S.Placement c.args.self.now) c.args.lefts.now c.args.rights.now c.args.results.now) c.check_stores.ensures c.in_ok-check_stores.was) c.copy_table-in-Right-Result.result c.copy_table-in-Right-Result.new.store
    (rw (c.new-in-Right-Result.ensures.placement) at c.copy_table-in-Right-Result.ensures.answer) (rw (c.new-in-Right-Result.ensures.placement, c.new-in-Right-Result.ensures.store) at c.copy_table-in-Right-Result.ensures.cells)

pub returns-in-Result-Left : goal.returns-in-Result-Left
returns-in-Result-Left g c =
    let apart = λ (e : c.args.to ≡ c.args.from). same_false the_type c.in_ok-target.target c.in_ok-source.source (sym c.eq.ensures ∙ c.if-eq.false)
    (one_table c.args.to c.args.from (sym c.try_from.ensures ∙ c.in_ok-target.was) (sym c.try_from-2.ensures ∙ c.in_ok-source.was) e) in
    copy_made g.E.Kind (idle_trio g.L.Placement g.R.Placement g.S.Placement c.args.self.now) c.args.lefts.now c.args.rights.now c.args.results.now
    c.args.to c.args.from c.args.transposed
    Product (named_as c.args.to c.try_from.ensures c.in_ok-target.was c.in-Result-Left.is-0)
    Left (named_as c.args.from c.try_from-2.ensures c.in_ok-source.was c.in-Result-Left.is-1) apart
    (all_lawful g.L.Placement g.R.Placement g.S.Placement g.met.L.Placement.lawful g.met.R.Placement.lawful g.met.S.Placement.lawful c.args.self.now.tables)
    (long_by (all_long (idle_trio g.L.Placement g.R.Placement g.S.Placement c.args.self.now) c.args.lefts.now c.args.rights.now c.args.results.now) c.check_stores.ensures c.in_ok-check_stores.was) c.copy_table-in-Result-Left.result c.copy_table-in-Result-Left.new.store
    (rw (c.new-in-Result-Left.ensures.placement) at c.copy_table-in-Result-Left.ensures.answer) (rw (c.new-in-Result-Left.ensures.placement, c.new-in-Result-Left.ensures.store) at c.copy_table-in-Result-Left.ensures.cells)

pub returns-in-Result-Right : goal.returns-in-Result-Right
returns-in-Result-Right g c =
    let apart = λ (e : c.args.to ≡ c.args.from). same_false the_type c.in_ok-target.target c.in_ok-source.source (sym c.eq.ensures ∙ c.if-eq.false)
    (one_table c.args.to c.args.from (sym c.try_from.ensures ∙ c.in_ok-target.was) (sym c.try_from-2.ensures ∙ c.in_ok-source.was) e) in
    copy_made g.E.Kind (idle_trio g.L.Placement g.R.Placement g.S.Placement c.args.self.now) c.args.lefts.now c.args.rights.now c.args.results.now
    c.args.to c.args.from c.args.transposed
    Product (named_as c.args.to c.try_from.ensures c.in_ok-target.was c.in-Result-Right.is-0)
    Right (named_as c.args.from c.try_from-2.ensures c.in_ok-source.was c.in-Result-Right.is-1) apart
    (all_lawful g.L.Placement g.R.Placement g.S.Placement g.met.L.Placement.lawful g.met.R.Placement.lawful g.met.S.Placement.lawful c.args.self.now.tables)
    (long_by (all_long (idle_trio g.L.Placement g.R.Placement g.S.Placement c.args.self.now) c.args.lefts.now c.args.rights.now c.args.results.now) c.check_stores.ensures c.in_ok-check_stores.was) c.copy_table-in-Result-Right.result c.copy_table-in-Result-Right.new.store
    (rw (c.new-in-Result-Right.ensures.placement) at c.copy_table-in-Result-Right.ensures.answer) (rw (c.new-in-Result-Right.ensures.placement, c.new-in-Result-Right.ensures.store) at c.copy_table-in-Result-Right.ensures.cells)
