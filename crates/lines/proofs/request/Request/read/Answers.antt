use Rattle.std.proofs.Common.{◌∙◌, rules}
use Rattle.lines.proofs.Reading.{behind, request_none, request_some, ended_none, ended_some, fields_first, fields_second, fields_third, fields_all}
use Rattle.lines.proofs.Spellings.{read_law}
use Rattle.lines.proofs.request.Request.read.Goals as goal

pub returns-in_default : goal.returns-in_default
returns-in_default c = record { exact = request_none c.args.line.now (search rules); law = read_law }

pub returns-in_err-rows : goal.returns-in_err-rows
returns-in_err-rows c =
    let line = c.args.line.now in
    let l = c.from-letter.result in
    record {
      exact = c.from_residual.ensures ∙ fields_first l (behind line) c.in_err-rows.ensures ∙ request_some line l c.from-letter.ensures (search rules);
      law = read_law;
    }

pub returns-in_err-columns : goal.returns-in_err-columns
returns-in_err-columns c =
    let line = c.args.line.now in
    let l = c.from-letter.result in
    record {
      exact = c.from_residual-in_err-columns.ensures ∙ fields_second l (behind line) c.in_ok-rows.ensures c.in_err-columns.ensures ∙ request_some line l c.from-letter.ensures (search rules);
      law = read_law;
    }

pub returns-in_err-inner : goal.returns-in_err-inner
returns-in_err-inner c =
    let line = c.args.line.now in
    let l = c.from-letter.result in
    record {
      exact = c.from_residual-in_err-inner.ensures ∙ fields_third l (behind line) c.in_ok-rows.ensures c.in_ok-columns.ensures c.in_err-inner.ensures ∙ request_some line l c.from-letter.ensures (search rules);
      law = read_law;
    }

pub returns-then-is_empty : goal.returns-then-is_empty
returns-then-is_empty c =
    let line = c.args.line.now in
    let l = c.from-letter.result in
    record {
      exact = ended_none _ c.in_ok-inner.rest.now c.if-is_empty.ensures ∙ fields_all l (behind line) c.in_ok-rows.ensures c.in_ok-columns.ensures c.in_ok-inner.ensures ∙ request_some line l c.from-letter.ensures (search rules);
      law = read_law;
    }

pub returns-else-is_empty : goal.returns-else-is_empty
returns-else-is_empty c =
    let line = c.args.line.now in
    let l = c.from-letter.result in
    record {
      exact = ended_some _ c.in_ok-inner.rest.now c.if-is_empty.ensures ∙ fields_all l (behind line) c.in_ok-rows.ensures c.in_ok-columns.ensures c.in_ok-inner.ensures ∙ request_some line l c.from-letter.ensures (search rules);
      law = read_law;
    }
