use Rattle.std.proofs.Common.{arith}
use Rattle.writer.proofs.Numbers.{length_small, length_large, length_five}
use Rattle.writer.proofs.number.+number_len.Goals as goal

pub returns-then-n-lt128 : goal.returns-then-n-lt128
returns-then-n-lt128 t c = record { len = omega (arith, length_small c.args.n (omega arith)); short = omega arith }

pub returns-else-n-lt128 : goal.returns-else-n-lt128
returns-else-n-lt128 t c =
    let all = length_large c.args.n (omega arith) in
    record { len = omega (arith, c.number_len.ensures.len); short = omega (arith, length_five c.args.n (omega arith), c.number_len.ensures.len) }
