use Rattle.std.proofs.Common.{sym, arith}
use Rattle.fields.proofs.Widths.{wide_leading, width_is}
use Rattle.masked.proofs.field.width.Goals as goal

pub returns : goal.returns
returns c =
    let law = wide_leading c.args.n (omega arith) in
    record { value = sym (width_is c.args.n _ law); law = law }
