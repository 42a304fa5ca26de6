use Rattle.std.proofs.Common.{get_or, take, arith, rules}
use Rattle.std.proofs.Output.{has_written_append, has_written_of_eq}
use Rattle.texts.specs.Hex.{hex}
use Rattle.texts.proofs.Hexes.{written, hex_written_more}
use Rattle.texts.proofs.text.HexDisplay.fmt.Goals as goal

pub loop-byte-preserved : goal.loop-byte-preserved
loop-byte-preserved g c = λ p.
    let bytes = c.args.self.now.0.now in
    has_written_of_eq _ _ _ _ _ (hex_written_more bytes c.loop-byte.byte-index c.loop-byte-test.true (omega arith))
    (has_written_append _ _ (hex (take c.loop-byte.byte-index bytes)) _ (written (get_or bytes c.loop-byte.byte-index 0)) _ (c.loop-byte.invariant p) (search rules))
