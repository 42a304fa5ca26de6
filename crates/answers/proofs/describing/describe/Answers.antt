use Rattle.std.proofs.Common.{string_bytes}
use Rattle.answers.proofs.Texts.{cut, line_none}
use Rattle.answers.proofs.describing.describe.Goals as goal

pub loop-line-init : goal.loop-line-init
loop-line-init c =
    line_none (string_bytes c.new-out.result) _ c.args.input.now c.new-out.ensures.bytes (cut c.args.input.now c.min.result c.min.ensures)
