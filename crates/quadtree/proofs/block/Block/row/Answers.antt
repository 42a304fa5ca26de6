use Rattle.quadtree.proofs.Places.{rows}
use Rattle.quadtree.proofs.block.Block.row.Goals as goal

pub returns-clause-law : goal.returns-clause-law
returns-clause-law c = rows
