use Rattle.std.proofs.Common.{vec_items, vec_len, vec_capacity}
use Rattle.calls.specs.Moments.{moment, opened}
use Rattle.trio.specs.Trios.{idle_trio}
use Rattle.promise.specs.Replays.{state_trio, state_mode}
use Rattle.promise.proofs.Plays.{played_none, played_more}
use Rattle.promise.proofs.replaying.play.Goals as goal

pub loop-call-init : goal.loop-call-init
loop-call-init g c =
    played_none g.E.Kind (idle_trio g.L.Placement g.R.Placement g.S.Placement c.args.resting) (opened c.args.lefts.now c.args.rights.now c.args.results.now) c.args.calls.now (vec_items c.args.room) (vec_len c.args.room) (vec_capacity c.args.room) c.requires.empty c.requires.none c.requires.enough

pub loop-call-preserved : goal.loop-call-preserved
loop-call-preserved g c =
    played_more g.E.Kind (idle_trio g.L.Placement g.R.Placement g.S.Placement c.args.resting) (opened c.args.lefts.now c.args.rights.now c.args.results.now) c.args.calls.now c.loop-call.call-index
    (vec_items c.loop-call.answers) (vec_items c.push_reserved.new.self) (vec_len c.loop-call.answers) (vec_len c.push_reserved.new.self) (vec_capacity c.loop-call.answers) (vec_capacity c.push_reserved.new.self)
    (moment c.loop-call.lefts c.loop-call.rights c.loop-call.results (state_mode c.loop-call.trio))
    (moment c.make-next.new.lefts c.make-next.new.rights c.make-next.new.results (state_mode c.make-next.result.0))
    (state_trio g.L.Placement g.R.Placement g.S.Placement c.loop-call.trio) (state_trio g.L.Placement g.R.Placement g.S.Placement c.make-next.result.0)
    c.call-item.result c.make-next.result.1
    c.loop-call.invariant c.loop-call-test.true c.call-item.is c.make-next.ensures.made c.make-next.ensures.tables
    c.push_reserved.ensures.items c.push_reserved.ensures.len c.push_reserved.ensures.capacity
