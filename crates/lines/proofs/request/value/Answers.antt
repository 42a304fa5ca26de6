use Rattle.std.proofs.Common.{arith}
use Rattle.lines.proofs.Numbers.{value_room}
use Rattle.lines.proofs.request.value.Goals as goal

pub overflow_mul-n : goal.overflow_mul-n
overflow_mul-n c = record { fits = omega (arith, c.loop-d.invariant, value_room _ _ c.requires.all c.requires.short c.loop-d-test.true) }
