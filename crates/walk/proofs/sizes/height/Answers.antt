use Rattle.walk.specs.Walks.{height_of, least_height}
use Rattle.walk.proofs.Grids.{least_law}
use Rattle.walk.proofs.sizes.height.Goals as goal

pub returns : goal.returns
unfolding height_of least_height
returns c = record {
  value = simp (c.saturating_sub-2.ensures, c.width.ensures.value, c.saturating_sub.ensures, c.max-longest.ensures, c.max.ensures);
  least = least_law c.args.sizes;
}
