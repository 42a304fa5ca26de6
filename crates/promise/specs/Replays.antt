-- A trio in whichever state it is, and what a replay of a list of calls gives.
use Rattle.std.specs.Prelude.{◌≡◌, List}
use Rattle.placement.specs.declared.Placement.{Ghosts as Placements}
use Rattle.kinds.specs.declared.kind.Kind.{Ghosts as Kinds}
use Rattle.calls.specs.declared.call.Call.{Call}
use Rattle.calls.specs.declared.call.Answer.{Answer}
use Rattle.calls.specs.Views.{Mode, idle}
use Rattle.calls.specs.Moments.{Trio, Moment, all_done, answers_to}
use Rattle.trio.specs.Trios.{idle_trio, run_trio, run_mode}
use Rattle.promise.specs.declared.state.State.{State}
use Rattle.promise.specs.declared.state.State.TheVariants.{Resting, Running}

abbrev pub state_trio : {L R S : Type 0} → Placements L → Placements R → Placements S → State L R S → Trio
state_trio l r s (Resting t) = idle_trio l r s t
state_trio l r s (Running t) = run_trio l r s t

abbrev pub state_mode : {L R S : Type 0} → State L R S → Mode
state_mode (Resting t) = idle
state_mode (Running t) = run_mode t

-- a list of calls was made as it should: the answers, and the stores afterwards
pub record Replayed {E : Type 0} (kind : Kinds E) (t : Trio) (m : Moment E) (cs : List (Call E)) (answers : List (Answer E)) (later : Moment E) : Type 0 where
  pub answers_are : answers ≡ answers_to kind t m cs
  pub cells_are : later ≡ all_done kind t m cs
