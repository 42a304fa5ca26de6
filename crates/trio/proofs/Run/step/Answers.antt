use Rattle.std.proofs.Common.{refl}
use Rattle.calls.proofs.Steps.{step_short, step_makes}
use Rattle.trio.proofs.Laws.{all_lawful}
use Rattle.trio.specs.Trios.{run_trio}
use Rattle.std.proofs.lemmas.Result.{err_from_is_err_and}
use Rattle.calls.specs.Moments.{all_long}
use Rattle.trio.proofs.Named.{long_by, short_by}
use Rattle.trio.proofs.Products.{made_is, results_are}
use Rattle.trio.proofs.Run.step.Goals as goal

pub returns-in_err-check_stores-clause-call : goal.returns-in_err-check_stores-clause-call
returns-in_err-check_stores-clause-call g c =
    let p = err_from_is_err_and c.from_residual.result c.from_residual.ensures.1 in
    let short = short_by (all_long (run_trio g.L.Placement g.R.Placement g.S.Placement c.args.self.now) c.args.lefts.now c.args.rights.now c.args.results.now) c.check_stores.ensures c.in_err-check_stores.was in
    rw (p.1, p.2, short.1) (step_short g.E.Kind (run_trio g.L.Placement g.R.Placement g.S.Placement c.args.self.now) c.args.lefts.now c.args.rights.now c.args.results.now
    c.args.self.now.order c.args.self.now.made c.args.count short.0)

pub returns : goal.returns
returns g c =
    let t = run_trio g.L.Placement g.R.Placement g.S.Placement c.args.self.now in
    record {
      call = step_makes g.E.Kind t c.args.lefts.now c.args.rights.now c.args.results.now c.args.self.now.order c.args.self.now.made
          (all_lawful g.L.Placement g.R.Placement g.S.Placement g.met.L.Placement.lawful g.met.R.Placement.lawful g.met.S.Placement.lawful c.args.self.now.tables)
          (long_by (all_long t c.args.lefts.now c.args.rights.now c.args.results.now) c.check_stores.ensures c.in_ok-check_stores.was) c.args.count c.min-making.result c.make_products.new.results
          (made_is t c.args.self.now.order c.args.count c.min-making.result c.count-total.result c.saturating_sub.result c.args.self.now.made c.sizes-sizes.result c.sizes-sizes.ensures c.count-total.ensures.value c.saturating_sub.ensures c.min-making.ensures)
          (results_are g.E.Kind t c.args.self.now.order c.min-making.result c.args.self.now.made c.sizes-sizes.result c.args.lefts.now c.args.rights.now c.args.results.now c.make_products.new.results c.sizes-sizes.ensures
          (rw (c.new.ensures.placement, c.new.ensures.store, c.new-2.ensures.placement, c.new-2.ensures.store) at c.make_products.ensures));
      tables = refl;
    }
