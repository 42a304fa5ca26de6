-- What the line program answers, line by line.
use Rattle.std.specs.Prelude.{ℕ, List, [], ◌∷◌, ◌++◌, take, Some, None, Ok, Err, decimal, Option, Result}
use Rattle.std.specs.List.{flat_map}
use Rattle.masked.specs.Refusals.{number_of}
use Rattle.masked.specs.declared.refusal.Refusal.{Refusal}
use Rattle.masked.specs.declared.refusal.Refusal.TheVariants.{Order}
use Rattle.placement.specs.Cells.{idle_of}
use Rattle.plans.specs.Plans.{Plan, site_of}
use Rattle.orders.specs.Orders.{named_order}
use Rattle.writer.specs.Descriptors.{bytes_of}
use Rattle.lines.specs.Lines.{lines}
use Rattle.lines.specs.Requests.{request_of}
use Rattle.lines.specs.declared.request.Request.{Request}
use Rattle.texts.specs.Hex.{hex}

-- the plan of the order that a line asks for; a line of another form is refused as an unknown order is
abbrev pub asked : Option Request → Result Plan Refusal
asked (Some q) = named_order q.letter q.rows q.columns q.inner
asked None = Err Order

-- the descriptor in hexadecimal, the span and the idle count, with one blank between and byte 10 at the end
abbrev pub plan_text : Plan → List ℕ
plan_text plan = hex (bytes_of plan) ++ (32 ∷ (decimal (site_of plan).span ++ (32 ∷ (decimal (idle_of (site_of plan)) ++ (10 ∷ [])))))

-- `no`, a blank and the refusal's number, and byte 10 at the end
abbrev pub refusal_text : Refusal → List ℕ
refusal_text refusal = 110 ∷ 111 ∷ 32 ∷ (decimal (number_of refusal) ++ (10 ∷ []))

abbrev pub answer_text : Result Plan Refusal → List ℕ
answer_text (Ok plan) = plan_text plan
answer_text (Err refusal) = refusal_text refusal

-- the answer to one line
abbrev pub line_answer : List ℕ → List ℕ
line_answer line = answer_text (asked (request_of line))

-- the answers to the lines of the first 4,096 bytes, one after another
abbrev pub answers : List ℕ → List ℕ
answers input = flat_map line_answer (lines (take 4096 input))
