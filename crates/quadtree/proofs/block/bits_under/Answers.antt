use Rattle.std.proofs.Common.{arith}
use Rattle.quadtree.proofs.Places.{accepted, told}
use Rattle.quadtree.proofs.block.bits_under.Goals as goal

pub unwrap-requires : goal.unwrap-requires
unwrap-requires c = accepted c.args.morton _ (omega arith) c.gather.result c.gather.ensures.value

pub returns : goal.returns
returns c = told c.args.morton c.args.mask (omega arith) c.gather.result c.gather.ensures.value c.unwrap.result c.unwrap.ensures
