-- The calls are the ordinary arithmetic of the gathered numbers.
use Rattle.std.proofs.Common.{ℕ, ◌^◌, ◌<◌}
use lib.Bits.{bit_and}
use Rattle.std.proofs.lemmas.Bool.{eq-eqb}
use Rattle.fields.specs.Fields.{spread}
use Rattle.fields.proofs.Fields.{spread_inside, gather_spread}
use Rattle.masked.specs.Arithmetic.{Ordinary}

-- the calls are the ordinary arithmetic of all numbers that have room under m
pub ordinary : (m : ℕ) → m < 2 ^ 32 → Ordinary m
ordinary m h x y l r =
    let ix = eq-eqb (bit_and (spread x m) m) (spread x m) (spread_inside x m) in
    let iy = eq-eqb (bit_and (spread y m) m) (spread y m) (spread_inside y m) in
    let gx = gather_spread x m h l in
    let gy = gather_spread y m h r in
    record {
      summed = rw (ix, iy, gx, gy);
      subtracted = rw (ix, iy, gx, gy);
      one_more = rw (ix, gx);
      one_less = rw (ix, gx);
      ordered = rw (ix, iy, gx, gy);
      compared = rw (ix, iy, gx, gy);
    }
