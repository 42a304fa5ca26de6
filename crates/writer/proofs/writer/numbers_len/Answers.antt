use Rattle.std.proofs.Common.{rules, ◌≡◌, ◌∙◌, sym, length}
use Rattle.std.proofs.lemmas.List.Concat.{length-flat_map}
use Rattle.std.specs.List.{sum_by}
use Rattle.writer.specs.Numbers.{groups}
use Rattle.writer.proofs.writer.numbers_len.Goals as goal

summed : (c : goal.After-sum) → c.sum.result ≡ sum_by (λ n. length (groups n)) c.args.numbers.now
summed c = search rules

pub returns : goal.returns
returns c = summed c ∙ sym (length-flat_map groups c.args.numbers.now)
