use Rattle.std.proofs.Common.{length, drop, ap, ◌∙◌, arith, true-eqb, false-eqb}
use Rattle.std.proofs.lemmas.List.{nil_from_length, take_rest}
use Rattle.std.proofs.lemmas.List.Sums.{prefix_len-le-length}
use Rattle.lines.specs.Lines.{inside}
use Rattle.lines.proofs.Splits.{lines_law, split_from, rest_of_none}
use Rattle.lines.proofs.line.split_line.Goals as goal
use Rattle.lines.proofs.line.split_line.Goals.{then-end-input, else-end-input}

pub returns-then-is_empty : goal.returns-then-is_empty
returns-then-is_empty c = record { split = nil_from_length _ (true-eqb _ 0 c.if-is_empty.ensures); law = lines_law }

pub split_at-requires : goal.split_at-requires
split_at-requires c = omega (arith, prefix_len-le-length inside c.args.input.now)

pub returns : goal.returns
returns c =
    let back = c.split_at.ensures.back in
    record {
      split = split_from c.line_length-end.result (omega (arith, false-eqb _ 0 c.if-is_empty.ensures)) c.line_length-end.ensures c.split_at.ensures.front
          (elim c.if-end-input.branch [
            | then-end-input w ↦ ap (λ r. r.now) w.rest-is ∙ take_rest c.split_at.result.1.now 1 ∙ ap (drop 1) back
            | else-end-input w ↦ ap (λ r. r.now) w.rest-is ∙ back ∙ rest_of_none _ (omega (arith, w.if-end-input.false, ap length back, c.split_at.ensures.back_len))
          ]);
      law = lines_law;
    }
