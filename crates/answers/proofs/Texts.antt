-- The text of the answers, line by line.
use Rattle.std.proofs.Common.{◌≡◌, ℕ, ◌≤◌, ◌<◌, min, List, [], ◌++◌, length, take, ⊎_elim, arith}
use Rattle.std.specs.List.{flat_map}
use Rattle.std.proofs.lemmas.List.{take_all}
use Rattle.std.proofs.lemmas.Bool.{cases_lt}
use Rattle.lines.specs.Lines.{lines}
use Rattle.answers.specs.Answers.{line_answer, answers}

-- the first 4,096 bytes, as the code cuts them
pub cut : (input : List ℕ) (n : ℕ) → n ≡ min (length input) 4096 → take n input ≡ take 4096 input
cut input n e =
    ⊎_elim
    (λ h. let long : 4096 < length input = h in let some : n ≡ 4096 = omega arith in rw some)
    (λ h. let short : length input ≤ 4096 = h in let all : n ≡ length input = omega arith in rw (all, take_all (length input) input (omega arith), take_all 4096 input short))
    (cases_lt 4096 (length input))

-- at first nothing is out
pub line_none : (out read input : List ℕ) → out ≡ [] → read ≡ take 4096 input → out ++ flat_map line_answer (lines read) ≡ answers input
line_none out read input none is = rw (none, is)
