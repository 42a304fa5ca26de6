use Rattle.std.proofs.Common.{None, sym, ap, ◌∙◌, subst}
use Rattle.std.specs.List.{slice_get}
use Rattle.walk.specs.Walks.{triple}
use Rattle.walk.specs.Rooms.{Room}
use Rattle.walk.proofs.Allowed.{walk_of_other, walk_of_walks, whole_walk, placed, bounds, root_room}
use Rattle.walk.proofs.place.triple_at.Goals as goal

pub returns-then-not-is_allowed : goal.returns-then-not-is_allowed
returns-then-not-is_allowed c =
    let is = sym (ap (λ ts. slice_get ts c.args.n) (walk_of_other c.args.sizes (sym c.if-not-is_allowed.ensures))) in
    record {
      value = is;
      place = placed c.args.sizes c.args.n None is;
      walks = walk_of_walks c.args.sizes;
    }

pub grid-requires : goal.grid-requires
grid-requires c = (bounds c.args.sizes (sym c.if-not-is_allowed.ensures)).order

pub invariant_of-root : goal.invariant_of-root
invariant_of-root c = record {
  room = subst (λ h. Room h (triple 0 0 0)) (sym c.height.ensures.value) (root_room c.args.sizes (bounds c.args.sizes (sym c.if-not-is_allowed.ensures)));
}

pub returns : goal.returns
returns c =
    let all = whole_walk c.args.sizes c.height.result (sym c.if-not-is_allowed.ensures) c.height.ensures.value in
    let is = c.forward.ensures ∙ rw c.grid.ensures (ap (λ ts. slice_get ts c.args.n) all) in
    record {
      value = is;
      place = placed c.args.sizes c.args.n c.forward.result is;
      walks = walk_of_walks c.args.sizes;
    }
