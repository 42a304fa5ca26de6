use Rattle.std.proofs.Common.{◌≡◌, true, reverse, Some, None, sym, ap, ◌∙◌, arith}
use Rattle.walk.specs.declared.place.Turn.{Turn}
use Rattle.walk.specs.declared.place.Turn.TheVariants.{Forward, Backward}
use Rattle.walk.specs.Walks.{children_of}
use Rattle.walk.specs.Steps.{size_of, turn_of}
use Rattle.walk.proofs.Turning.{forward_one, backward_one, forward_leads, backward_leads, falls, stand_reverse}
use Rattle.walk.proofs.place.+backward_forward.Goals as goal

pub forward-returns-then-cube-eq0 : goal.forward-returns-then-cube-eq0
forward-returns-then-cube-eq0 t c = c.only_triple.ensures ∙ sym (forward_one c.args.grid c.args.cube.height c.args.cube.at c.args.n c.if-cube-eq0.true)

pub forward-returns-in_err-next : goal.forward-returns-in_err-next
forward-returns-in_err-next t c =
    forward_leads c.args.grid c.args.cube.height (omega arith) c.args.cube.at c.children-cubes.result c.args.n None (sym c.in_err-next.was ∙ c.next_turn.ensures)
    c.children-cubes.ensures c.from_residual.result c.from_residual.ensures

pub forward-forward-requires : goal.forward-forward-requires
forward-forward-requires t c =
    let is : Some (Forward c.in-Forward.next c.in-Forward.rest) ≡ turn_of (size_of c.args.grid) true c.children-cubes.result c.args.n = ap (λ (x : Turn). Some x) (sym c.in-Forward.is) ∙ sym c.in_ok-next.was ∙ c.next_turn.ensures in
    let low = falls c.args.grid c.args.cube.height (omega arith) c.args.cube.at c.children-cubes.result c.args.n (Some (Forward c.in-Forward.next c.in-Forward.rest)) is (children_of c.args.cube.at) c.children-cubes.ensures in
    (omega arith, tt)

pub forward-returns-in-Forward : goal.forward-returns-in-Forward
forward-returns-in-Forward t c =
    let is : Some (Forward c.in-Forward.next c.in-Forward.rest) ≡ turn_of (size_of c.args.grid) true c.children-cubes.result c.args.n = ap (λ (x : Turn). Some x) (sym c.in-Forward.is) ∙ sym c.in_ok-next.was ∙ c.next_turn.ensures in
    forward_leads c.args.grid c.args.cube.height (omega arith) c.args.cube.at c.children-cubes.result c.args.n (Some (Forward c.in-Forward.next c.in-Forward.rest)) is
    c.children-cubes.ensures c.forward.result c.forward.ensures

pub forward-backward-requires : goal.forward-backward-requires
forward-backward-requires t c =
    let is : Some (Backward c.in-Backward.next c.in-Backward.rest) ≡ turn_of (size_of c.args.grid) true c.children-cubes.result c.args.n = ap (λ (x : Turn). Some x) (sym c.in-Backward.is) ∙ sym c.in_ok-next.was ∙ c.next_turn.ensures in
    let low = falls c.args.grid c.args.cube.height (omega arith) c.args.cube.at c.children-cubes.result c.args.n (Some (Backward c.in-Backward.next c.in-Backward.rest)) is (children_of c.args.cube.at) c.children-cubes.ensures in
    (omega arith, tt)

pub forward-returns-in-Backward : goal.forward-returns-in-Backward
forward-returns-in-Backward t c =
    let is : Some (Backward c.in-Backward.next c.in-Backward.rest) ≡ turn_of (size_of c.args.grid) true c.children-cubes.result c.args.n = ap (λ (x : Turn). Some x) (sym c.in-Backward.is) ∙ sym c.in_ok-next.was ∙ c.next_turn.ensures in
    forward_leads c.args.grid c.args.cube.height (omega arith) c.args.cube.at c.children-cubes.result c.args.n (Some (Backward c.in-Backward.next c.in-Backward.rest)) is
    c.children-cubes.ensures c.backward.result c.backward.ensures

pub backward-returns-then-cube-eq0 : goal.backward-returns-then-cube-eq0
backward-returns-then-cube-eq0 t c = c.only_triple.ensures ∙ sym (backward_one c.args.grid c.args.cube.height c.args.cube.at c.args.n c.if-cube-eq0.true)

pub backward-returns-in_err-next : goal.backward-returns-in_err-next
backward-returns-in_err-next t c =
    backward_leads c.args.grid c.args.cube.height (omega arith) c.args.cube.at c.reverse.new.self c.args.n None (sym c.in_err-next.was ∙ c.next_turn.ensures)
    (rw c.reverse.ensures.after (stand_reverse c.args.cube.height (children_of c.args.cube.at) c.children-cubes.result c.children-cubes.ensures)) c.from_residual.result c.from_residual.ensures

pub backward-forward-requires : goal.backward-forward-requires
backward-forward-requires t c =
    let is : Some (Forward c.in-Forward.next c.in-Forward.rest) ≡ turn_of (size_of c.args.grid) true c.reverse.new.self c.args.n = ap (λ (x : Turn). Some x) (sym c.in-Forward.is) ∙ sym c.in_ok-next.was ∙ c.next_turn.ensures in
    let low = falls c.args.grid c.args.cube.height (omega arith) c.args.cube.at c.reverse.new.self c.args.n (Some (Forward c.in-Forward.next c.in-Forward.rest)) is (reverse (children_of c.args.cube.at)) (rw c.reverse.ensures.after (stand_reverse c.args.cube.height (children_of c.args.cube.at) c.children-cubes.result c.children-cubes.ensures)) in
    (omega arith, tt)

pub backward-returns-in-Forward : goal.backward-returns-in-Forward
backward-returns-in-Forward t c =
    let is : Some (Forward c.in-Forward.next c.in-Forward.rest) ≡ turn_of (size_of c.args.grid) true c.reverse.new.self c.args.n = ap (λ (x : Turn). Some x) (sym c.in-Forward.is) ∙ sym c.in_ok-next.was ∙ c.next_turn.ensures in
    backward_leads c.args.grid c.args.cube.height (omega arith) c.args.cube.at c.reverse.new.self c.args.n (Some (Forward c.in-Forward.next c.in-Forward.rest)) is
    (rw c.reverse.ensures.after (stand_reverse c.args.cube.height (children_of c.args.cube.at) c.children-cubes.result c.children-cubes.ensures)) c.forward.result c.forward.ensures

pub backward-backward-requires : goal.backward-backward-requires
backward-backward-requires t c =
    let is : Some (Backward c.in-Backward.next c.in-Backward.rest) ≡ turn_of (size_of c.args.grid) true c.reverse.new.self c.args.n = ap (λ (x : Turn). Some x) (sym c.in-Backward.is) ∙ sym c.in_ok-next.was ∙ c.next_turn.ensures in
    let low = falls c.args.grid c.args.cube.height (omega arith) c.args.cube.at c.reverse.new.self c.args.n (Some (Backward c.in-Backward.next c.in-Backward.rest)) is (reverse (children_of c.args.cube.at)) (rw c.reverse.ensures.after (stand_reverse c.args.cube.height (children_of c.args.cube.at) c.children-cubes.result c.children-cubes.ensures)) in
    (omega arith, tt)

pub backward-returns-in-Backward : goal.backward-returns-in-Backward
backward-returns-in-Backward t c =
    let is : Some (Backward c.in-Backward.next c.in-Backward.rest) ≡ turn_of (size_of c.args.grid) true c.reverse.new.self c.args.n = ap (λ (x : Turn). Some x) (sym c.in-Backward.is) ∙ sym c.in_ok-next.was ∙ c.next_turn.ensures in
    backward_leads c.args.grid c.args.cube.height (omega arith) c.args.cube.at c.reverse.new.self c.args.n (Some (Backward c.in-Backward.next c.in-Backward.rest)) is
    (rw c.reverse.ensures.after (stand_reverse c.args.cube.height (children_of c.args.cube.at) c.children-cubes.result c.children-cubes.ensures)) c.backward.result c.backward.ensures
