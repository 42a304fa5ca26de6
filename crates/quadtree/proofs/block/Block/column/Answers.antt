use Rattle.quadtree.proofs.Places.{columns}
use Rattle.quadtree.proofs.block.Block.column.Goals as goal

pub returns-clause-law : goal.returns-clause-law
returns-clause-law c = columns
