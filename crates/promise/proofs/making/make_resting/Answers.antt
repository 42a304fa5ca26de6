use Rattle.std.proofs.Common.{sym, refl, ap, ◌∙◌}
use Rattle.calls.specs.declared.call.Call.TheVariants.{Begin}
use Rattle.calls.specs.declared.call.Answer.TheVariants.{Done, Refused}
use Rattle.calls.specs.Moments.{moment, opened}
use Rattle.calls.proofs.Outcomes.{called_at}
use Rattle.trio.specs.declared.Idle.{Idle}
use Rattle.trio.specs.declared.Run.{Run}
use Rattle.trio.specs.Trios.{idle_trio, run_trio, run_mode}
use Rattle.promise.proofs.Offered.{idle_offers_none}
use Rattle.promise.proofs.Begins.{began, kept}
use Rattle.promise.proofs.making.make_resting.Goals as goal

pub returns-in-Ok : goal.returns-in-Ok
returns-in-Ok g c =
    let t = (idle_trio g.L.Placement g.R.Placement g.S.Placement c.args.resting) in
    let b = began g.E.Kind t c.args.resting c.in-Begin.order c.args.lefts.now c.args.rights.now c.args.results.now c.in-Ok.run' (sym c.begin.ensures ∙ c.in-Ok.is) in
    record {
      made = called_at g.E.Kind t (opened c.args.lefts.now c.args.rights.now c.args.results.now) (moment c.args.lefts.now c.args.rights.now c.args.results.now (run_mode c.in-Ok.run')) Done c.args.call (Begin c.in-Begin.order) c.in-Begin.is b.made;
      tables = ap (λ (z : Run g.row.L.Denot g.row.R.Denot g.row.S.Denot). run_trio g.L.Placement g.R.Placement g.S.Placement z) b.run_is;
    }

pub returns-in-Err : goal.returns-in-Err
returns-in-Err g c =
    let t = (idle_trio g.L.Placement g.R.Placement g.S.Placement c.args.resting) in
    let b = kept g.E.Kind t c.args.resting c.in-Begin.order c.args.lefts.now c.args.rights.now c.args.results.now c.in-Err.field-0 (sym c.begin.ensures ∙ c.in-Err.is) in
    record {
      made = called_at g.E.Kind t (opened c.args.lefts.now c.args.rights.now c.args.results.now) (opened c.args.lefts.now c.args.rights.now c.args.results.now) (Refused c.in-Err.field-0.refusal) c.args.call (Begin c.in-Begin.order) c.in-Begin.is b.made;
      tables = ap (λ (z : Idle g.row.L.Denot g.row.R.Denot g.row.S.Denot). idle_trio g.L.Placement g.R.Placement g.S.Placement z) b.idle_is;
    }

pub returns-in-Step : goal.returns-in-Step
returns-in-Step g c = record {
  made = idle_offers_none g.E.Kind (idle_trio g.L.Placement g.R.Placement g.S.Placement c.args.resting) c.args.lefts.now c.args.rights.now c.args.results.now c.args.call c.in-Step.is;
  tables = refl;
}
