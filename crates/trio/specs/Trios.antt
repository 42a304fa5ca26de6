-- Idle trios and runs, and what their calls are told.
use Rattle.std.specs.Prelude.{◌≡◌, ℕ, cond, Ok, Err, Result, nat_le}
use Rattle.masked.specs.declared.refusal.Refusal.{Refusal}
use Rattle.masked.specs.declared.refusal.Refusal.TheVariants.{Mismatch, TileOrder}
use Rattle.placement.specs.Sites.{Site, Inside}
use Rattle.placement.specs.declared.Placement.{Ghosts as Placements}
use Rattle.calls.specs.Views.{Mode, running}
use Rattle.calls.specs.Moments.{Trio, trio, fits}
use Rattle.trio.specs.declared.tables.Tables.{Tables}
use Rattle.trio.specs.declared.Idle.{Idle}
use Rattle.trio.specs.declared.Run.{Run}
use Rattle.trio.specs.declared.Declined.{Declined}

-- where three tables lie, those of an idle trio, and those of a run
abbrev pub trio_of : {L R S : Type 0} → Placements L → Placements R → Placements S → Tables L R S → Trio
trio_of l r s t = trio (l.site t.left) (r.site t.right) (s.site t.result)

abbrev pub idle_trio : {L R S : Type 0} → Placements L → Placements R → Placements S → Idle L R S → Trio
idle_trio l r s t = trio_of l r s t.tables

abbrev pub run_trio : {L R S : Type 0} → Placements L → Placements R → Placements S → Run L R S → Trio
run_trio l r s t = trio_of l r s t.tables

-- how far a run has come
abbrev pub run_mode : {L R S : Type 0} → Run L R S → Mode
run_mode run = running run.order run.made

-- a run that has just begun, and the idle trio that is given back when it ends
abbrev pub run_begun : {L R S : Type 0} → Idle L R S → ℕ → Run L R S
run_begun t order = record { tables = t.tables; order = order; made = 0 }

abbrev pub run_ended : {L R S : Type 0} → Run L R S → Idle L R S
run_ended t = record { tables = t.tables }

abbrev pub not_begun : {L R S : Type 0} → Idle L R S → Refusal → Declined L R S
not_begun t refusal = record { idle = t; refusal = refusal }

-- what begin gives: the shapes are judged before the order
unfoldable pub begin_result : {L R S : Type 0} → Trio → Idle L R S → ℕ → Result (Run L R S) (Declined L R S)
begin_result t given order =
    cond (fits t) (cond (nat_le order 12) (Ok (run_begun given order)) (Err (not_begun given TileOrder))) (Err (not_begun given Mismatch))

-- whatever is an answer for an entry inside the table is f of its row and column
abbrev pub Computes : {E : Type 0} → Site → (ℕ → ℕ → E → Type 0) → (ℕ → ℕ → E) → Type 0
Computes {E} p answers f = (i j : ℕ) (x : E) → Inside p i j → answers i j x → x ≡ f i j
