use Rattle.std.proofs.Common.{vec_items, vec_len, vec_capacity}
use Rattle.calls.specs.Moments.{moment}
use Rattle.promise.specs.Replays.{state_trio, state_mode}
use Rattle.promise.proofs.Plays.{Played}
use Rattle.promise.proofs.replaying.play.Given as goal

abbrev pub invariant-loop-call : goal.invariant-loop-call
invariant-loop-call g l =
    Played g.E.Kind (state_trio g.L.Placement g.R.Placement g.S.Placement l.initial.trio) (moment l.initial.lefts l.initial.rights l.initial.results (state_mode l.initial.trio)) l.calls l.call-index
    (vec_items l.answers) (vec_len l.answers) (vec_capacity l.answers) (moment l.lefts l.rights l.results (state_mode l.trio)) (state_trio g.L.Placement g.R.Placement g.S.Placement l.trio)
