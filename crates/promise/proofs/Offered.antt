-- Calls that an idle trio, or a run, does not have: nothing is done.
use Rattle.std.proofs.Common.{◌≡◌, ℕ, ◌⊎◌, List, refl, inl, inr}
use Rattle.kinds.specs.declared.kind.Kind.{Ghosts as Kinds}
use Rattle.calls.specs.declared.call.Call.{Call}
use Rattle.calls.specs.declared.call.Call.TheVariants.{Put, Get, Clear, Copy, Begin, Step, Remaining, End}
use Rattle.calls.specs.declared.call.Answer.TheVariants.{NotOffered}
use Rattle.calls.specs.Views.{running}
use Rattle.calls.specs.Moments.{Trio, Called, moment, opened}
use Rattle.calls.proofs.Outcomes.{called_at, step_resting, remaining_resting, end_resting}
use Rattle.calls.proofs.Steps.{put_running, get_running, clear_running, copy_running, begin_running}

module _ {E : Type 0} (kind : Kinds E) (t : Trio) (lefts rights results : List E) (c : Call E) where
  pub idle_offers_none : ((n : ℕ) × (c ≡ Step n)) ⊎ ((c ≡ Remaining) ⊎ (c ≡ End)) → Called kind t (opened lefts rights results) c NotOffered (opened lefts rights results)
  idle_offers_none (inl (n, is)) = called_at kind t _ _ _ c (Step n) is (step_resting kind t lefts rights results n)
  idle_offers_none (inr (inl is)) = called_at kind t _ _ _ c Remaining is (remaining_resting kind t lefts rights results)
  idle_offers_none (inr (inr is)) = called_at kind t _ _ _ c End is (end_resting kind t lefts rights results)

module _ {E : Type 0} (kind : Kinds E) (t : Trio) (lefts rights results : List E) (order made : ℕ) where
  pub run_offers_none : (c : Call E) → ((n : ℕ) → c ≡ Step n → ⊥) → (c ≡ Remaining → ⊥) → (c ≡ End → ⊥)
      → Called kind t (moment lefts rights results (running order made)) c NotOffered (moment lefts rights results (running order made))
  run_offers_none (Put n i j x) s r e = put_running kind t lefts rights results order made n i j x
  run_offers_none (Get n i j) s r e = get_running kind t lefts rights results order made n i j
  run_offers_none (Clear n) s r e = clear_running kind t lefts rights results order made n
  run_offers_none (Copy to from transposed) s r e = copy_running kind t lefts rights results order made to from transposed
  run_offers_none (Begin o) s r e = begin_running kind t lefts rights results order made o
  run_offers_none (Step n) s r e = absurd (s n refl)
  run_offers_none Remaining s r e = absurd (r refl)
  run_offers_none End s r e = absurd (e refl)
