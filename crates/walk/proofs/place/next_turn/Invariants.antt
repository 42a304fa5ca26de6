use Rattle.std.proofs.Common.{◌≡◌, true, drop}
use Rattle.walk.specs.Steps.{turn_of, size_of}
use Rattle.walk.proofs.Turning.{even}
use Rattle.walk.proofs.place.next_turn.Given as goal

-- the turn lies among the cubes that are left
abbrev pub invariant-loop-i : goal.invariant-loop-i
invariant-loop-i l = turn_of (size_of l.grid) (even l.i) (drop l.i l.cubes) l.left ≡ turn_of (size_of l.grid) true l.cubes l.n
