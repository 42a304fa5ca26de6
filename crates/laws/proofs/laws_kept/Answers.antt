use Rattle.laws.specs.Products.{Adds}
use Rattle.laws.proofs.Runs.{run_law, sums_law}
use Rattle.laws.proofs.laws_kept.Goals as goal

pub returns : goal.returns
returns g c =
    let kept : Adds g.E.Kind.joined g.E.Kind.nought = record { associative = g.met.E.Kind.associative; commutative = g.met.E.Kind.commutative; neutral = g.met.E.Kind.neutral } in
    record { answer = c.laws_of_a_kind.ensures.answer; laws = kept; run = run_law g.E.Kind; sums = sums_law g.E.Kind kept }
