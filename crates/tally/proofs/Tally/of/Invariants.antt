use Rattle.std.proofs.Common.{◌≡◌, ◌-◌, ◌^◌, length, min}
use Rattle.std.specs.Prelude.{filter}
use Rattle.tally.proofs.Tally.of.Given as goal

abbrev pub invariant-loop-is_good : goal.invariant-loop-is_good
invariant-loop-is_good g l =
    (l.tally.good ≡ min (length (filter (λ x. x) l.yielded)) (2 ^ 64 - 1))
    × (l.tally.all ≡ min (length l.yielded) (2 ^ 64 - 1))
