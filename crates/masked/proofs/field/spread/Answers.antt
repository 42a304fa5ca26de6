use Rattle.std.proofs.Common.{◌^◌, ◌≤◌, Ok, ap, ⊎_elim, arith}
use lib.Count.{ones}
use Rattle.std.proofs.lemmas.Bool.{cases_lt, lt-ltb, le-ltb}
use Rattle.fields.specs.Fields.{width}
use Rattle.fields.proofs.Fields.{spread_law}
use Rattle.fields.proofs.Turns.{spread_turn_one, spread_turn_zero, spread_fits, spread_done}
use Rattle.fields.proofs.Widths.{below_width, width_below}
use Rattle.masked.proofs.field.spread.Goals as goal
use Rattle.masked.proofs.field.spread.Goals.{then-bits-eq1, else-bits-eq1}

pub returns-then-width-mask : goal.returns-then-width-mask
returns-then-width-mask c =
    let over : 2 ^ ones c.args.mask ≤ c.args.n =
    ⊎_elim (λ l. absurd (let w = width_below c.args.n (ones c.args.mask) l in omega arith)) (λ l. l) (cases_lt c.args.n (2 ^ ones c.args.mask)) in
    record { value = rw (le-ltb c.args.n (2 ^ ones c.args.mask) over); law = tt }

pub loop-bits-init : goal.loop-bits-init
loop-bits-init c =
    let w : width c.args.n ≤ ones c.args.mask = omega arith in
    (omega arith, below_width c.args.n (ones c.args.mask) w, omega arith)

pub overflow_add-out : goal.overflow_add-out
overflow_add-out c =
    let next = spread_turn_one c.args.n c.args.mask _ _ _ (omega arith) c.if-bits-eq1.true c.loop-bits.invariant in
    let fits = spread_fits c.args.n c.args.mask _ _ _ (omega arith) next in
    omega arith

pub loop-bits-preserved : goal.loop-bits-preserved
loop-bits-preserved c =
    elim c.if-bits-eq1.branch [
      | then-bits-eq1 w ↦ rw w.out-is (spread_turn_one c.args.n c.args.mask _ _ _ (omega arith) w.if-bits-eq1.true c.loop-bits.invariant)
      | else-bits-eq1 w ↦ rw w.out-is (spread_turn_zero c.args.n c.args.mask _ _ _ (omega arith) (omega arith) (omega (arith, w.if-bits-eq1.false)) c.loop-bits.invariant)
    ]

pub returns : goal.returns
returns c =
    let done = spread_done c.args.n c.args.mask c.loop-bits.out c.loop-bits.bits c.loop-bits.left (omega arith) c.loop-bits.invariant in
    let w : width c.args.n ≤ ones c.args.mask = omega arith in
    let room = below_width c.args.n (ones c.args.mask) w in
    record {
      value = rw (lt-ltb c.args.n (2 ^ ones c.args.mask) room) (ap Ok done);
      law = rw done (spread_law c.args.n c.args.mask (omega arith));
    }
