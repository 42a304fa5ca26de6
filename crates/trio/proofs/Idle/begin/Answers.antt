use Rattle.trio.specs.Trios.{idle_trio}
use Rattle.trio.proofs.Begins.{begins, declines}
use Rattle.trio.proofs.Idle.begin.Goals as goal

pub returns-in-Ok : goal.returns-in-Ok
returns-in-Ok g c =
    begins c.args.self c.args.order (idle_trio g.L.Placement g.R.Placement g.S.Placement c.args.self) c.check_run.ensures c.in-Ok.is

pub returns-in-Err : goal.returns-in-Err
returns-in-Err g c =
    declines c.args.self c.args.order (idle_trio g.L.Placement g.R.Placement g.S.Placement c.args.self) c.check_run.ensures c.in-Err.is
