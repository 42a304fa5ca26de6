use Rattle.std.proofs.Common.{arith}
use Rattle.fields.proofs.Fields.{undone}
use Rattle.fields.proofs.Widths.{width_below}
use Rattle.fields.proofs.Turns.{gather_begin, gather_one, gather_zero, gather_fits}
use Rattle.masked.proofs.field.gather.Goals as goal

pub returns-in_err-check_inside-clause-law : goal.returns-in_err-check_inside-clause-law
returns-in_err-check_inside-clause-law c = undone c.args.mask (omega arith)

pub loop-position-init : goal.loop-position-init
loop-position-init c = gather_begin c.args.v c.args.mask _ c.width-position.ensures.law.below

pub overflow_shr-mask : goal.overflow_shr-mask
overflow_shr-mask c = let le = width_below c.args.mask 32 (omega arith) in omega arith

pub overflow_shr-out : goal.overflow_shr-out
overflow_shr-out c = let le = width_below c.args.mask 32 (omega arith) in omega arith

pub overflow_mul-out : goal.overflow_mul-out
overflow_mul-out c =
    let fits = gather_fits c.args.v c.args.mask _ _ (omega arith) c.loop-position-test.true c.loop-position.invariant c.if-mask-position-eq1.true in
    omega arith

pub overflow_add-out : goal.overflow_add-out
overflow_add-out c =
    let fits = gather_fits c.args.v c.args.mask _ _ (omega arith) c.loop-position-test.true c.loop-position.invariant c.if-mask-position-eq1.true in
    omega arith

pub loop-position-preserved-then-mask-position-eq1 : goal.loop-position-preserved-then-mask-position-eq1
loop-position-preserved-then-mask-position-eq1 c = gather_one c.args.v c.args.mask _ _ (omega arith) c.loop-position-test.true c.loop-position.invariant c.if-mask-position-eq1.true

pub loop-position-preserved : goal.loop-position-preserved
loop-position-preserved c = gather_zero c.args.v c.args.mask _ _ (omega arith) c.loop-position-test.true c.loop-position.invariant c.if-mask-position-eq1.false

pub returns-clause-law : goal.returns-clause-law
returns-clause-law c = undone c.args.mask (omega arith)
