use Rattle.std.proofs.Common.{Ok, ap, arith}
use Rattle.fields.proofs.Registers.{equal_is, both_inside}
use Rattle.masked.proofs.Ordinary.{ordinary}
use Rattle.masked.proofs.arithmetic.equal.Goals as goal

pub returns-clause-value : goal.returns-clause-value
returns-clause-value c =
    let a = c.in_ok-check_inside.ensures.inside in
    let b = c.in_ok-check_inside-2.ensures.inside in
    rw (both_inside c.args.a c.args.b c.args.mask a b) (ap Ok (equal_is c.args.a c.args.b c.args.mask (omega arith) a b))

pub returns-in_err-check_inside-clause-law : goal.returns-in_err-check_inside-clause-law
returns-in_err-check_inside-clause-law c = ordinary c.args.mask (omega arith)

pub returns-in_err-check_inside-2-clause-law : goal.returns-in_err-check_inside-2-clause-law
returns-in_err-check_inside-2-clause-law c = ordinary c.args.mask (omega arith)

pub returns-clause-law : goal.returns-clause-law
returns-clause-law c = ordinary c.args.mask (omega arith)
