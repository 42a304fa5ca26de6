use Rattle.std.proofs.Common.{take}
use Rattle.writer.specs.Descriptors.{in_form}
use Rattle.writer.proofs.Writes.{Done}
use Rattle.writer.proofs.writer.put_numbers.Given as goal

abbrev pub invariant-loop-n : goal.invariant-loop-n
invariant-loop-n l = Done l.initial.bytes (in_form (take l.n-index l.numbers)) l.end l.bytes
