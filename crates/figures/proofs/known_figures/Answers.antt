use Rattle.std.proofs.Common.{refl}
use Rattle.figures.proofs.Known.{known}
use Rattle.figures.proofs.known_figures.Goals as goal

pub returns : goal.returns
returns c = record { count = refl; figures = known }
