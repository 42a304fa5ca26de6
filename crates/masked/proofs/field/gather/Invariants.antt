use Rattle.std.proofs.Common.{◌≡◌, ◌/◌, ◌^◌}
use Rattle.fields.specs.Fields.{gather}
use Rattle.masked.proofs.field.gather.Given as goal

-- what is out is gathered from the positions that were passed
abbrev pub invariant-loop-position : goal.invariant-loop-position
invariant-loop-position l = l.out ≡ gather (l.v / 2 ^ l.position) (l.mask / 2 ^ l.position)
