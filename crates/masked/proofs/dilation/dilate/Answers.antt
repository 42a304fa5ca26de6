use Rattle.std.proofs.Common.{◌≡◌, ◌+◌, ◌*◌, ◌/◌, ◌%◌, Ok, ap, arith}
use Rattle.std.proofs.lemmas.Bool.{lt-ltb}
use Rattle.fields.specs.Fields.{spread}
use Rattle.fields.proofs.Fields.{spread_le}
use Rattle.fields.proofs.Dilations.{dilate_split}
use Rattle.masked.proofs.dilation.dilate.Goals as goal

pub overflow_mul-result : goal.overflow_mul-result
overflow_mul-result c = let h = spread_le (c.args.n / 256) 0x5555 in omega arith

pub overflow_add-result : goal.overflow_add-result
overflow_add-result c =
    let h = spread_le (c.args.n / 256) 0x5555 in
    let l = spread_le (c.args.n % 256) 0x5555 in
    omega arith

pub returns : goal.returns
returns c =
    let e : c.dilated.result * 65536 + c.dilated-2.result ≡ spread c.args.n 0x5555_5555 = (let s = dilate_split c.args.n in omega arith) in
    rw (lt-ltb c.args.n 65536 (omega arith)) (ap Ok e)
