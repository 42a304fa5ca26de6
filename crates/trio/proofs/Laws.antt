-- The laws of three placements, together.
use Rattle.placement.specs.Sites.{Lawful}
use Rattle.placement.specs.declared.Placement.{Ghosts as Placements}
use Rattle.calls.specs.Moments.{Placed}
use Rattle.trio.specs.declared.tables.Tables.{Tables}
use Rattle.trio.specs.Trios.{trio_of}

pub all_lawful : {L R S : Type 0} (l : Placements L) (r : Placements R) (s : Placements S)
    → ((p : L) → Lawful (l.site p)) → ((p : R) → Lawful (r.site p)) → ((p : S) → Lawful (s.site p))
    → (t : Tables L R S) → Placed (trio_of l r s t)
all_lawful l r s left right result t = record { left = left t.left; right = right t.right; result = result t.result }
