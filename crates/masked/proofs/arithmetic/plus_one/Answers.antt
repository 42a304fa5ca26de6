use Rattle.std.proofs.Common.{Ok, ap, arith}
use lib.Bits.{bit_and}
use Rattle.std.proofs.lemmas.Bool.{eq-eqb}
use Rattle.fields.proofs.Registers.{plus_one_is}
use Rattle.masked.proofs.Ordinary.{ordinary}
use Rattle.masked.proofs.arithmetic.plus_one.Goals as goal

pub returns-clause-value : goal.returns-clause-value
returns-clause-value c =
    let a = c.in_ok-check_inside.ensures.inside in
    rw (eq-eqb (bit_and c.args.a c.args.mask) c.args.a a) (ap Ok (plus_one_is c.args.a c.args.mask (omega arith) a))

pub returns-in_err-check_inside-clause-law : goal.returns-in_err-check_inside-clause-law
returns-in_err-check_inside-clause-law c = ordinary c.args.mask (omega arith)

pub returns-clause-law : goal.returns-clause-law
returns-clause-law c = ordinary c.args.mask (omega arith)
