-- What a line asks for. A line is a letter, rows, columns and, for the letter H only, an inner width, with one blank
-- between. A line of another form asks for nothing.
use Rattle.std.specs.Prelude.{◌≡◌, ℕ, ◌+◌, ◌-◌, ◌*◌, ◌<◌, Bool, cond, not, ◌&&◌, ◌||◌, ◌⊎◌, List, [], ◌∷◌, ◌++◌, length, take, drop, Some, None, decimal, fold, Option, ◌==◌, ◌≢◌, slice_index}
use Rattle.std.specs.Char.{is_ascii_digit}
use Rattle.std.specs.Int.{is_in_range}
use Rattle.std.specs.List.{prefix_len}
use Rattle.lines.specs.declared.request.Request.{Request}

-- The number that digits write.
abbrev pub value_of : List ℕ → ℕ
value_of ds = fold (λ n d. n * 10 + (d - 48)) 0 ds

-- A number has one to four digits, and no zero in front unless it is just "0".
abbrev pub plain : List ℕ → Bool
plain ds = is_in_range 1 4 (length ds) && (length ds == 1 || not (slice_index ds 0 == 48))

-- How many digits stand at the front.
abbrev pub digit_count : List ℕ → ℕ
digit_count bs = prefix_len is_ascii_digit bs

-- The number that all digits at the front write, and the bytes after them.
abbrev pub number_at : List ℕ → Option (ℕ × List ℕ)
number_at bs = cond (plain (take (digit_count bs) bs)) (Some (value_of (take (digit_count bs) bs), drop (digit_count bs) bs)) None

-- A field is one blank and a number.
abbrev pub field_at : List ℕ → Option (ℕ × List ℕ)
field_at [] = None
field_at (b ∷ bs) = cond (b == 32) (number_at bs) None

-- R, C, Z and N ask for rows and columns only.
abbrev pub two_numbers : ℕ → Bool
two_numbers l = (l == 82 || l == 67) || (l == 90 || l == 78)

-- H has an inner width too, and no other byte is a letter of the format.
abbrev pub inner_at : ℕ → List ℕ → Option (ℕ × List ℕ)
inner_at l bs = cond (two_numbers l) (Some (0, bs)) (cond (l == 72) (field_at bs) None)

-- Reads on after what was read.
abbrev pub and_then : {A B : Type 0} → Option A → (A → Option B) → Option B
and_then None go = None
and_then (Some x) go = go x

abbrev pub request : ℕ → ℕ → ℕ → ℕ → Request
request l r c p = record { letter = l; rows = r; columns = c; inner = p }

-- Nothing is left after the last field.
abbrev pub ended : Request → List ℕ → Option Request
ended q [] = Some q
ended q (b ∷ bs) = None

-- The fields after the letter l.
abbrev pub fields : ℕ → List ℕ → Option Request
fields l bs =
    and_then (field_at bs) (λ r. and_then (field_at r.1) (λ c. and_then (inner_at l c.1) (λ p. ended (request l r.0 c.0 p.0) p.1)))

-- The first byte is the letter.
abbrev pub request_of : List ℕ → Option Request
request_of [] = None
request_of (l ∷ bs) = fields l bs

-- What follows the columns: for H a blank and the inner width, else nothing.
abbrev pub tail : ℕ → ℕ → List ℕ
tail l p = cond (l == 72) (32 ∷ decimal p) []

-- The line asks for l, r, c and p: its letter, and its numbers as they are written in decimal.
pub record Spelled (line : List ℕ) (l r c p : ℕ) : Type 0 where
  pub letter : (l ≡ 82) ⊎ ((l ≡ 67) ⊎ ((l ≡ 90) ⊎ ((l ≡ 78) ⊎ (l ≡ 72))))
  pub rows : r < 10000
  pub columns : c < 10000
  pub inner_width : p < 10000
  pub none : (l ≢ 72) → p ≡ 0
  pub text : line ≡ l ∷ 32 ∷ (decimal r ++ 32 ∷ (decimal c ++ tail l p))

-- A line is read as a request just where it spells that request.
pub record ReadLaw : Type 0 where
  pub spells : (line : List ℕ) (l r c p : ℕ) → request_of line ≡ Some (request l r c p) → Spelled line l r c p
  pub reads : (line : List ℕ) (l r c p : ℕ) → Spelled line l r c p → request_of line ≡ Some (request l r c p)
