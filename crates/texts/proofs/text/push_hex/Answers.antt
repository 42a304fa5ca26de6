use Rattle.std.proofs.Common.{◌/◌, ◌%◌, ◌++◌, get_or, string_bytes, ap, ◌∙◌, arith}
use Rattle.std.proofs.lemmas.List.{take_all}
use Rattle.texts.specs.Hex.{hex}
use Rattle.texts.proofs.Hexes.{pushed, hex_more}
use Rattle.texts.proofs.text.push_hex.Goals as goal

pub loop-byte-preserved : goal.loop-byte-preserved
loop-byte-preserved c =
    let x = get_or c.args.bytes.now c.loop-byte.byte-index 0 in
    let byte = (c.type_inv.bytes c.loop-byte.byte-index).fits in
    let old = string_bytes c.loop-byte.out in
    let mid = string_bytes c.push.new.self in
    let new = string_bytes c.push-in-loop-byte.new.self in
    let first = c.in_ok-push.ensures in
    let second = c.in_ok-push-2.ensures in
    hex_more (string_bytes c.args.out.now) c.args.bytes.now c.loop-byte.byte-index old mid {c = new} c.loop-byte-test.true c.loop-byte.invariant
    (pushed old {new = mid} (x / 16) (omega arith) c.hex_digit.ensures first.ascii first.bytes)
    (pushed mid {new = new} (x % 16) (omega arith) c.hex_digit-in-loop-byte.ensures second.ascii second.bytes)

pub returns : goal.returns
returns c = c.loop-byte.invariant ∙ ap (λ l. string_bytes c.args.out.now ++ hex l) (take_all _ c.args.bytes.now c.loop-byte-test.false)
