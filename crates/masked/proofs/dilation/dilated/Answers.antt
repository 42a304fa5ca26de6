use Rattle.std.proofs.Common.{arith}
use Rattle.std.proofs.lemmas.List.FromFn.{get_or-map-range_with_len}
use Rattle.fields.specs.Fields.{spread, spread_over}
use Rattle.masked.proofs.dilation.dilated.Goals as goal

-- the table is the list of the first 256 numbers, each spread: antt computes both lists and compares them
pub returns : goal.returns
unfolding spread spread_over
returns c = get_or-map-range_with_len (λ k. spread k 0x5555) 0 256 c.args.byte c.args.byte 0 (omega arith) (omega arith)
