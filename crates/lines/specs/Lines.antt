-- The lines of an input of bytes. Byte 10 ends a line, and so does the end of the input.
use Rattle.std.specs.Prelude.{◌≡◌, ℕ, ◌+◌, ◌<◌, Bool, cond, not, List, [], ◌∷◌, ◌++◌, length, take, drop, ◌==◌, ◌≢◌}
use Rattle.std.specs.List.{prefix_len, AllByRecursion}

-- A byte goes to the front of the first line.
abbrev pub front : ℕ → List (List ℕ) → List (List ℕ)
front b [] = (b ∷ []) ∷ []
front b (l ∷ ls) = (b ∷ l) ∷ ls

-- The lines without the bytes that end them. Where nothing is left to read, no line begins.
abbrev pub lines : List ℕ → List (List ℕ)
lines [] = []
lines (b ∷ bs) = cond (b == 10) ([] ∷ lines bs) (front b (lines bs))

-- No byte of l ends a line.
abbrev pub Unbroken : List ℕ → Type 0
Unbroken l = AllByRecursion (λ b. b ≢ 10) l

-- What `lines` means. Its three parts fix the lines of every input.
pub record LinesLaw : Type 0 where
  pub none : lines [] ≡ []
  pub ended : (l rest : List ℕ) → Unbroken l → lines (l ++ 10 ∷ rest) ≡ l ∷ lines rest
  pub last : (l : List ℕ) → Unbroken l → (l ≢ []) → lines l ≡ l ∷ []

-- A byte that does not end a line.
abbrev pub inside : ℕ → Bool
inside b = not (b == 10)

-- How long the first line is.
abbrev pub line_length : List ℕ → ℕ
line_length input = prefix_len inside input

-- The first line of an input that has one, and what follows the byte that ends it.
pub record Split (input line rest : List ℕ) : Type 0 where
  pub some : 0 < length input
  pub front_is : line ≡ take (line_length input) input
  pub back_is : rest ≡ drop (line_length input + 1) input
  pub whole : lines input ≡ line ∷ lines rest
  pub shorter : length rest < length input
