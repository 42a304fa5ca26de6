-- What a begin gave, as a call that was made.
use Rattle.std.proofs.Common.{◌≡◌, ℕ, Bool, true, false, cond, leb, List, Ok, Err, sym, refl, ap, ◌∙◌, arith}
use Rattle.masked.specs.declared.refusal.Refusal.TheVariants.{Mismatch, TileOrder}
use Rattle.kinds.specs.declared.kind.Kind.{Ghosts as Kinds}
use Rattle.calls.specs.declared.call.Call.TheVariants.{Begin}
use Rattle.calls.specs.declared.call.Answer.TheVariants.{Done, Refused}
use Rattle.calls.specs.Moments.{Trio, fits, moment, opened, Called}
use Rattle.calls.proofs.Outcomes.{begin_mismatched, begin_too_large, begin_made}
use Rattle.trio.specs.declared.Idle.{Idle}
use Rattle.trio.specs.declared.Run.{Run}
use Rattle.trio.specs.declared.Declined.{Declined}
use Rattle.trio.specs.Trios.{run_mode, run_begun, not_begun, begin_result}

module _ {L R S E : Type 0} (kind : Kinds E) (t : Trio) (given : Idle L R S) (order : ℕ) (lefts rights results : List E) where
  tested : (a b : Bool) → fits t ≡ a → leb order 12 ≡ b → begin_result t given order ≡ cond a (cond b (Ok (run_begun given order)) (Err (not_begun given TileOrder))) (Err (not_begun given Mismatch))
  unfolding begin_result
  tested a b ea eb =
      ap (λ (x : Bool). cond x (cond (leb order 12) (Ok (run_begun given order)) (Err (not_begun given TileOrder))) (Err (not_begun given Mismatch))) ea
      ∙ ap (λ (x : Bool). cond a (cond x (Ok (run_begun given order)) (Err (not_begun given TileOrder))) (Err (not_begun given Mismatch))) eb

  pub record Began (run : Run L R S) : Type 0 where
    pub made : Called kind t (opened lefts rights results) (Begin order) Done (moment lefts rights results (run_mode run))
    pub run_is : run ≡ run_begun given order

  pub began : (run : Run L R S) → begin_result t given order ≡ Ok run → Began run
  began run e = at (fits t) (leb order 12) refl refl
    where
      at : (a b : Bool) → fits t ≡ a → leb order 12 ≡ b → Began run
      at true true ea eb =
          let z : Ok (run_begun given order) ≡ Ok run = sym (tested true true ea eb) ∙ e in
          let y : run ≡ run_begun given order = cc in
          record {
            made = rw y (begin_made kind t lefts rights results order ea eb);
            run_is = y;
          }
      at true false ea eb = let z : Err (not_begun given TileOrder) ≡ Ok run = sym (tested true false ea eb) ∙ e in let y : ◌≡◌ {A = ℕ} 0 1 = cc in absurd (omega arith)
      at false b ea eb = let z : Err (not_begun given Mismatch) ≡ Ok run = sym (tested false b ea eb) ∙ e in let y : ◌≡◌ {A = ℕ} 0 1 = cc in absurd (omega arith)

  pub record Kept (d : Declined L R S) : Type 0 where
    pub made : Called kind t (opened lefts rights results) (Begin order) (Refused d.refusal) (opened lefts rights results)
    pub idle_is : d.idle ≡ given

  pub kept : (d : Declined L R S) → begin_result t given order ≡ Err d → Kept d
  kept d e = at (fits t) (leb order 12) refl refl
    where
      at : (a b : Bool) → fits t ≡ a → leb order 12 ≡ b → Kept d
      at true true ea eb = let z : Ok (run_begun given order) ≡ Err d = sym (tested true true ea eb) ∙ e in let y : ◌≡◌ {A = ℕ} 0 1 = cc in absurd (omega arith)
      at true false ea eb =
          let z : Err (not_begun given TileOrder) ≡ Err d = sym (tested true false ea eb) ∙ e in
          let y : d ≡ not_begun given TileOrder = cc in
          record { made = rw y (begin_too_large kind t lefts rights results order ea eb); idle_is = ap (λ (x : Declined L R S). x.idle) y }
      at false b ea eb =
          let z : Err (not_begun given Mismatch) ≡ Err d = sym (tested false b ea eb) ∙ e in
          let y : d ≡ not_begun given Mismatch = cc in
          record { made = rw y (begin_mismatched kind t lefts rights results order ea); idle_is = ap (λ (x : Declined L R S). x.idle) y }
