use Rattle.std.proofs.Common.{◌≡◌, take}
use Rattle.lines.specs.Requests.{value_of}
use Rattle.lines.proofs.request.value.Given as goal

abbrev pub invariant-loop-d : goal.invariant-loop-d
invariant-loop-d l = l.n ≡ value_of (take l.d-index l.digits)
