use Rattle.std.proofs.Common.{arith}
use Rattle.makers.proofs.Kept.{next_power}
use Rattle.makers.proofs.masks.side_bits.Goals as goal

pub returns : goal.returns
returns c =
    omega (arith, next_power c.args.entries c.next_power_of_two.result c.requires c.next_power_of_two.ensures.power c.next_power_of_two.ensures.lower_bound c.next_power_of_two.ensures.upper_bound)
