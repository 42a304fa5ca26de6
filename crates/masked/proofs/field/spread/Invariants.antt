use Rattle.std.proofs.Common.{◌≡◌, ◌+◌, ◌^◌, ◌<◌, ◌≤◌}
use lib.Count.{ones}
use Rattle.fields.specs.Fields.{spread}
use Rattle.masked.proofs.field.spread.Given as goal

-- what is out and what is left to spread make up the whole
abbrev pub invariant-loop-bits : goal.invariant-loop-bits
invariant-loop-bits l = (l.out + spread l.bits l.left ≡ spread l.n l.mask) × (l.bits < 2 ^ ones l.left) × (l.left ≤ l.mask)

abbrev pub decreases-loop-bits : goal.decreases-loop-bits
decreases-loop-bits l = l.bits
