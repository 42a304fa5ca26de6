-- The laws of two trios, together.
use Rattle.std.proofs.Common.{◌≡◌, List, sym, ◌∙◌}
use Rattle.kinds.specs.declared.kind.Kind.{Ghosts as Kinds}
use Rattle.laws.specs.Products.{Adds}
use Rattle.calls.specs.declared.call.Call.{Call}
use Rattle.calls.specs.declared.call.Answer.{Answer}
use Rattle.calls.specs.Moments.{Trio, Placed, Moment, Long, opened}
use Rattle.calls.specs.Promises.{TrioLaws, Alike, AlikeLaw}
use Rattle.calls.proofs.Alikes.{alike_law}
use Rattle.calls.proofs.Finished.{trio_laws}
use Rattle.promise.specs.Replays.{Replayed}

pub record Whole {E : Type 0} (kind : Kinds E) (t u : Trio) : Type 0 where
  pub first : TrioLaws kind t
  pub second : TrioLaws kind u
  pub alike : AlikeLaw kind t u

pub whole : {E : Type 0} (kind : Kinds E) (t u : Trio) → Adds kind.joined kind.nought → Placed t → Placed u → Whole kind t u
whole kind t u adds pt pu = record { first = trio_laws kind adds t pt; second = trio_laws kind adds u pu; alike = alike_law kind t u pt pu }

-- two replays of one list on trios that are alike get the same answers
pub agreed : {E : Type 0} (kind : Kinds E) (t u : Trio) (lefts rights results lefts' rights' results' : List E) (cs : List (Call E)) (answers answers' : List (Answer E)) (later later' : Moment E)
    → AlikeLaw kind t u
    → Replayed kind t (opened lefts rights results) cs answers later → Replayed kind u (opened lefts' rights' results') cs answers' later'
    → Long t (opened lefts rights results) → Long u (opened lefts' rights' results') → Alike kind t u (opened lefts rights results) (opened lefts' rights' results')
    → answers ≡ answers'
agreed kind t u lefts rights results lefts' rights' results' cs answers answers' later later' law a b lt lu al =
    a.answers_are ∙ (law lefts rights results lefts' rights' results' lt lu al cs).answers ∙ sym b.answers_are
