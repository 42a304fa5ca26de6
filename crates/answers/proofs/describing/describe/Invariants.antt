use Rattle.std.proofs.Common.{◌≡◌, ◌++◌, length, string_bytes}
use Rattle.std.specs.List.{flat_map}
use Rattle.lines.specs.Lines.{lines}
use Rattle.answers.specs.Answers.{line_answer, answers}
use Rattle.answers.proofs.describing.describe.Given as goal

-- what is out and the answers to the lines that are left make up the whole
abbrev pub invariant-loop-line : goal.invariant-loop-line
invariant-loop-line l = string_bytes l.out ++ flat_map line_answer (lines l.rest) ≡ answers l.input

abbrev pub decreases-loop-line : goal.decreases-loop-line
decreases-loop-line l = length l.rest
