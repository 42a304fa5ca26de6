-- What begin gives, by what the check of a run answers.
use Rattle.std.proofs.Common.{◌≡◌, ℕ, Bool, true, false, cond, nat_le, Ok, Err, Result, refl, arith}
use Rattle.masked.specs.declared.refusal.Refusal.{Refusal}
use Rattle.masked.specs.declared.refusal.Refusal.TheVariants.{Mismatch, TileOrder}
use Rattle.calls.specs.Moments.{Trio, fits}
use Rattle.trio.specs.declared.Idle.{Idle}
use Rattle.trio.specs.Trios.{run_begun, not_begun, begin_result}

module _ {L R S : Type 0} (given : Idle L R S) (order : ℕ) {w : Result (Unit {0}) Refusal} where
  begun_by : (b d : Bool) {u : Unit {0}} → w ≡ cond b (cond d (Ok tt) (Err TileOrder)) (Err Mismatch) → w ≡ Ok u
      → Ok (run_begun given order) ≡ cond b (cond d (Ok (run_begun given order)) (Err (not_begun given TileOrder))) (Err (not_begun given Mismatch))
  begun_by true true e o = refl
  begun_by true false {u} e o = let y : ◌≡◌ {A = ℕ} 0 1 = cc in absurd (omega arith)
  begun_by false d {u} e o = let y : ◌≡◌ {A = ℕ} 0 1 = cc in absurd (omega arith)

  declined_by : (b d : Bool) {r : Refusal} → w ≡ cond b (cond d (Ok tt) (Err TileOrder)) (Err Mismatch) → w ≡ Err r
      → Err (not_begun given r) ≡ cond b (cond d (Ok (run_begun given order)) (Err (not_begun given TileOrder))) (Err (not_begun given Mismatch))
  declined_by true true {r} e o = let y : ◌≡◌ {A = ℕ} 0 1 = cc in absurd (omega arith)
  declined_by true false {r} e o = let i : r ≡ TileOrder = cc in rw i refl
  declined_by false d {r} e o = let i : r ≡ Mismatch = cc in rw i refl

  module _ (t : Trio) (e : w ≡ cond (fits t) (cond (nat_le order 12) (Ok tt) (Err TileOrder)) (Err Mismatch)) where
    pub begins : {u : Unit {0}} → w ≡ Ok u → Ok (run_begun given order) ≡ begin_result t given order
    unfolding begin_result
    begins o = begun_by (fits t) (nat_le order 12) e o

    pub declines : {r : Refusal} → w ≡ Err r → Err (not_begun given r) ≡ begin_result t given order
    unfolding begin_result
    declines o = declined_by (fits t) (nat_le order 12) e o
