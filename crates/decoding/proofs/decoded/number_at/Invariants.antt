-- What is left to read, after the bytes so far, gives the number.
use Rattle.decoding.proofs.Decoding.{SoFar}
use Rattle.decoding.proofs.decoded.number_at.Given as goal

abbrev pub invariant-loop-group : goal.invariant-loop-group
invariant-loop-group l = SoFar l.input l.at l.group l.value
