use Rattle.std.proofs.Common.{refl, ap}
use Rattle.calls.specs.declared.call.Call.TheVariants.{Remaining, End}
use Rattle.calls.specs.declared.call.Answer.TheVariants.{Done, ToMake}
use Rattle.calls.specs.Moments.{moment, opened}
use Rattle.calls.proofs.Outcomes.{called_at}
use Rattle.calls.proofs.Steps.{remaining_tells, ends}
use Rattle.trio.specs.declared.Idle.{Idle}
use Rattle.trio.specs.Trios.{idle_trio, run_trio, run_mode}
use Rattle.promise.proofs.Offered.{run_offers_none}
use Rattle.promise.proofs.making.make_running.Goals as goal

pub returns-in-Remaining : goal.returns-in-Remaining
returns-in-Remaining g c =
    let t = (run_trio g.L.Placement g.R.Placement g.S.Placement c.args.running) in
    record {
      made = called_at g.E.Kind t (moment c.args.lefts.now c.args.rights.now c.args.results.now (run_mode c.args.running)) (moment c.args.lefts.now c.args.rights.now c.args.results.now (run_mode c.args.running)) (ToMake c.remaining.result) c.args.call Remaining c.in-Remaining.is (remaining_tells g.E.Kind t c.args.lefts.now c.args.rights.now c.args.results.now c.args.running.order c.args.running.made c.remaining.result c.remaining.ensures);
      tables = refl;
    }

pub returns-in-End : goal.returns-in-End
returns-in-End g c =
    let t = (run_trio g.L.Placement g.R.Placement g.S.Placement c.args.running) in
    record {
      made = called_at g.E.Kind t (moment c.args.lefts.now c.args.rights.now c.args.results.now (run_mode c.args.running)) (opened c.args.lefts.now c.args.rights.now c.args.results.now) Done c.args.call End c.in-End.is (ends g.E.Kind t c.args.lefts.now c.args.rights.now c.args.results.now c.args.running.order c.args.running.made);
      tables = ap (λ (z : Idle g.row.L.Denot g.row.R.Denot g.row.S.Denot). idle_trio g.L.Placement g.R.Placement g.S.Placement z) c.end.ensures;
    }

pub returns-in_default : goal.returns-in_default
returns-in_default g c = record {
  made = run_offers_none g.E.Kind (run_trio g.L.Placement g.R.Placement g.S.Placement c.args.running) c.args.lefts.now c.args.rights.now c.args.results.now c.args.running.order c.args.running.made
      c.args.call c.in_default.not-Step c.in_default.not-Remaining c.in_default.not-End;
  tables = refl;
}
