use Rattle.std.proofs.Common.{◌≡◌, ◌+◌, ◌*◌, ◌^◌, ◌<◌, ⊎_elim, arith}
use Rattle.std.proofs.lemmas.Bool.{cases_lt}
use Rattle.quadtree.specs.Blocks.{ahnentafel_of}
use Rattle.quadtree.proofs.Starts.{start_is}
use Rattle.quadtree.proofs.Indices.{ahnentafel_ordered, ahnentafel_apart, found, missing, there_and_back}
use Rattle.quadtree.proofs.block.Block.from_ahnentafel.Goals as goal
use Rattle.quadtree.proofs.block.Block.from_ahnentafel.Goals.{else-index-start-via-then-index-start+else-index-start-2, else-index-start-via-else-index-start}

pub returns-then-index-start-2 : goal.returns-then-index-start-2
returns-then-index-start-2 c =
    let s = start_is c.loop-level.level c.loop-level-test.true in
    record {
      value = found ahnentafel_of ahnentafel_ordered ahnentafel_apart _ c.args.index ((omega arith, omega (arith, c.if-index-start-2.true)), omega (arith, c.if-index-start.true));
      law = there_and_back ahnentafel_of ahnentafel_ordered ahnentafel_apart;
    }

pub loop-level-preserved : goal.loop-level-preserved
loop-level-preserved c k m less small is =
    let s = start_is c.loop-level.level c.loop-level-test.true in
    ⊎_elim
    (λ h. c.loop-level.invariant k m h small is)
    (λ h.
    let same : k ≡ c.loop-level.level = omega arith in
    let small' : m < 4 ^ c.loop-level.level = rw same at small in
    let is' : 3 * 4 ^ c.loop-level.level + m ≡ c.args.index = rw same at is in
    elim c.else-index-start.branch [
      | else-index-start-via-then-index-start+else-index-start-2 w ↦ omega (arith, w.if-index-start-2.false)
      | else-index-start-via-else-index-start w ↦ omega (arith, w.if-index-start.false)
    ])
    (cases_lt k c.loop-level.level)

pub returns : goal.returns
returns c = record {
  value = missing ahnentafel_of c.args.index (λ b h. c.loop-level.invariant b.level b.morton (omega (arith, h.0.0)) h.0.1 h.1);
  law = there_and_back ahnentafel_of ahnentafel_ordered ahnentafel_apart;
}
