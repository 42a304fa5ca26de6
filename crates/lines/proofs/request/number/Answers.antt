use Rattle.std.proofs.Common.{sym, arith}
use Rattle.std.specs.Char.{is_ascii_digit}
use Rattle.std.proofs.lemmas.List.Sums.{prefix_len-le-length}
use Rattle.lines.proofs.Numbers.{digits_plain}
use Rattle.lines.proofs.request.number.Goals as goal

pub split_at-requires : goal.split_at-requires
split_at-requires c = omega (arith, prefix_len-le-length is_ascii_digit c.args.bytes.now)

pub value-requires : goal.value-requires
value-requires c =
    let h = digits_plain c.args.bytes.now _ c.digit_count.ensures c.split_at.ensures.front (sym c.if-is_plain.ensures) in
    record { all = h.0; short = h.1 }
