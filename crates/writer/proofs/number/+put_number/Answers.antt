use Rattle.std.proofs.Common.{refl, arith, length-set}
use Rattle.writer.proofs.Numbers.{length_small, length_large, length_pos}
use Rattle.writer.proofs.Writes.{written_last, room_left, written_more}
use Rattle.writer.proofs.number.+put_number.Goals as goal

pub bounds-bytes-0 : goal.bounds-bytes-0
bounds-bytes-0 t c = omega (arith, length_pos c.args.n, c.requires)

pub returns-then-n-lt128-clause-len : goal.returns-then-n-lt128-clause-len
returns-then-n-lt128-clause-len t c = omega (arith, length_small c.args.n (omega arith))

pub returns-then-n-lt128-clause-after : goal.returns-then-n-lt128-clause-after
returns-then-n-lt128-clause-after t c = written_last c.args.bytes.now c.args.n (omega arith) (omega (arith, length_pos c.args.n, c.requires))

pub bounds-bytes-0-2 : goal.bounds-bytes-0-2
bounds-bytes-0-2 t c = omega (arith, length_pos c.args.n, c.requires)

pub slice_bounds-put_number-count : goal.slice_bounds-put_number-count
slice_bounds-put_number-count t c = simp length-set (omega (arith, length_pos c.args.n, c.requires))

pub slice_bounds-put_number-start : goal.slice_bounds-put_number-start
slice_bounds-put_number-start t c = simp length-set (omega (arith, length_pos c.args.n, c.requires))

pub put_number-requires : goal.put_number-requires
put_number-requires t c = (omega (arith, c.decreases), room_left _ c.args.bytes.now c.args.bytes.now c.args.n c.if-n-lt128.false c.requires)

pub returns-clause-len : goal.returns-clause-len
returns-clause-len t c = omega (arith, length_large c.args.n (omega arith), c.put_number.ensures.len)

pub returns-clause-after : goal.returns-clause-after
returns-clause-after t c = written_more _ c.args.bytes.now c.put_number.new.bytes c.args.n c.if-n-lt128.false refl c.requires c.put_number.ensures.after
