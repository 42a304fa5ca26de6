use Rattle.std.proofs.Common.{arith}
use Rattle.by_masks.proofs.Steps.{sum_accepted, sum_told}
use Rattle.by_masks.proofs.parts.moved_part.Goals as goal

pub unwrap-requires : goal.unwrap-requires
unwrap-requires c = sum_accepted c.args.from c.args.distance c.args.mask _ (omega arith) c.requires.inside c.requires.room c.part-step.ensures _ c.sum.ensures.value

pub returns : goal.returns
returns c = sum_told c.args.from c.args.distance c.args.mask _ (omega arith) c.requires.inside c.requires.room c.part-step.ensures _ c.sum.ensures.value _ c.unwrap.ensures
