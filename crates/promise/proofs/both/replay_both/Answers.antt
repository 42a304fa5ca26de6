use Rattle.std.proofs.Common.{vec_items, refl}
use Rattle.std.proofs.lemmas.Result.{err_from_is_err_and}
use Rattle.calls.specs.Moments.{moment}
use Rattle.decoding.proofs.OneForm.{one_form}
use Rattle.trio.proofs.Laws.{all_lawful}
use Rattle.trio.specs.Trios.{idle_trio}
use Rattle.promise.specs.Replays.{state_mode}
use Rattle.promise.proofs.Whole.{whole, agreed}
use Rattle.promise.proofs.both.replay_both.Goals as goal

pub returns-in_err-room : goal.returns-in_err-room
returns-in_err-room g c =
    let p = err_from_is_err_and c.from_residual.result c.from_residual.ensures.1 in
    let w = whole g.E.Kind (idle_trio g.L.Placement g.R.Placement g.S.Placement c.args.first) (idle_trio g.M.Placement g.N.Placement g.O.Placement c.args.second) (record { associative = g.met.E.Kind.associative; commutative = g.met.E.Kind.commutative; neutral = g.met.E.Kind.neutral }) (all_lawful g.L.Placement g.R.Placement g.S.Placement g.met.L.Placement.lawful g.met.R.Placement.lawful g.met.S.Placement.lawful c.args.first.tables) (all_lawful g.M.Placement g.N.Placement g.O.Placement g.met.M.Placement.lawful g.met.N.Placement.lawful g.met.O.Placement.lawful c.args.second.tables) in
    rw p.1 (record {
      first = refl;
      second = refl;
      agree = tt;
      finished = (w.first.finished, w.second.finished);
      finishable = (w.first.finishable, w.second.finishable);
      remaining = (w.first.remaining, w.second.remaining);
      declined = (w.first.declined_kept, w.second.declined_kept);
      idle_cells = (w.first.idle_cells, w.second.idle_cells);
      shown = (w.first.shown, w.second.shown);
      alike = w.alike;
      one_descriptor = one_form;
    })

pub returns-in_err-other_room : goal.returns-in_err-other_room
returns-in_err-other_room g c =
    let p = err_from_is_err_and c.from_residual-in_err-other_room.result c.from_residual-in_err-other_room.ensures.1 in
    let w = whole g.E.Kind (idle_trio g.L.Placement g.R.Placement g.S.Placement c.args.first) (idle_trio g.M.Placement g.N.Placement g.O.Placement c.args.second) (record { associative = g.met.E.Kind.associative; commutative = g.met.E.Kind.commutative; neutral = g.met.E.Kind.neutral }) (all_lawful g.L.Placement g.R.Placement g.S.Placement g.met.L.Placement.lawful g.met.R.Placement.lawful g.met.S.Placement.lawful c.args.first.tables) (all_lawful g.M.Placement g.N.Placement g.O.Placement g.met.M.Placement.lawful g.met.N.Placement.lawful g.met.O.Placement.lawful c.args.second.tables) in
    rw p.1 (record {
      first = refl;
      second = refl;
      agree = tt;
      finished = (w.first.finished, w.second.finished);
      finishable = (w.first.finishable, w.second.finishable);
      remaining = (w.first.remaining, w.second.remaining);
      declined = (w.first.declined_kept, w.second.declined_kept);
      idle_cells = (w.first.idle_cells, w.second.idle_cells);
      shown = (w.first.shown, w.second.shown);
      alike = w.alike;
      one_descriptor = one_form;
    })

pub returns : goal.returns
returns g c =
    let w = whole g.E.Kind (idle_trio g.L.Placement g.R.Placement g.S.Placement c.args.first) (idle_trio g.M.Placement g.N.Placement g.O.Placement c.args.second) (record { associative = g.met.E.Kind.associative; commutative = g.met.E.Kind.commutative; neutral = g.met.E.Kind.neutral }) (all_lawful g.L.Placement g.R.Placement g.S.Placement g.met.L.Placement.lawful g.met.R.Placement.lawful g.met.S.Placement.lawful c.args.first.tables) (all_lawful g.M.Placement g.N.Placement g.O.Placement g.met.M.Placement.lawful g.met.N.Placement.lawful g.met.O.Placement.lawful c.args.second.tables) in
    record {
      first = c.play-first.ensures.made;
      second = c.play-second.ensures.made;
      agree = agreed g.E.Kind (idle_trio g.L.Placement g.R.Placement g.S.Placement c.args.first) (idle_trio g.M.Placement g.N.Placement g.O.Placement c.args.second) c.args.lefts.now c.args.rights.now c.args.results.now c.args.other_lefts.now c.args.other_rights.now c.args.other_results.now c.args.calls.now (vec_items c.play-first.result.answers) (vec_items c.play-second.result.answers) (moment c.play-first.new.lefts c.play-first.new.rights c.play-first.new.results (state_mode c.play-first.result.trio)) (moment c.play-second.new.lefts c.play-second.new.rights c.play-second.new.results (state_mode c.play-second.result.trio))
          w.alike c.play-first.ensures.made c.play-second.ensures.made;
      finished = (w.first.finished, w.second.finished);
      finishable = (w.first.finishable, w.second.finishable);
      remaining = (w.first.remaining, w.second.remaining);
      declined = (w.first.declined_kept, w.second.declined_kept);
      idle_cells = (w.first.idle_cells, w.second.idle_cells);
      shown = (w.first.shown, w.second.shown);
      alike = w.alike;
      one_descriptor = one_form;
    }
