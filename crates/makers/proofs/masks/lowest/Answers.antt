use Rattle.std.proofs.Common.{◌-◌, ◌^◌, ◌<◌, ◌≤◌, is_ok, ap, ◌∙◌, arith, pow_mono}
use lib.Count.{ones}
use Rattle.std.proofs.lemmas.Nat.{pow_pos}
use Rattle.std.proofs.lemmas.Bool.{lt-ltb}
use Rattle.fields.specs.Fields.{width}
use Rattle.makers.proofs.masks.lowest.Goals as goal

-- the bits are as many ones as are asked for
pub unwrap-requires : goal.unwrap-requires
unwrap-requires c =
    let some = pow_pos (width (c.args.entries - 1)) in
    let le : width (c.args.entries - 1) ≤ ones c.args.mask = c.requires.1 in
    let most = pow_mono le in
    let room : c.side_bits.result < 2 ^ ones c.args.mask = omega (arith, c.side_bits.ensures) in
    ap is_ok c.spread.ensures.value ∙ rw (lt-ltb c.side_bits.result (2 ^ ones c.args.mask) room)
