use Rattle.walk.proofs.place.+backward_forward.Given as goal

abbrev pub decreases-backward : goal.decreases-backward
decreases-backward l = l.cube.height

abbrev pub decreases-forward : goal.decreases-forward
decreases-forward l = l.cube.height
