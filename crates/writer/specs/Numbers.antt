-- The form in which a number is written: in groups of seven bits, the lowest group first, with 128 added to every byte but the last.
-- The shortest form is the only form.
use Rattle.std.specs.Prelude.{◌≡◌, ℕ, zero, suc, ◌+◌, ◌*◌, ◌/◌, ◌%◌, ◌^◌, ◌<◌, ◌≤◌, cond, List, [], ◌∷◌, ◌++◌, length, nat_lt, slice_index}

-- The bytes of n, with at most f bytes before the last. For f the number n itself is always enough.
unfoldable pub groups_by : ℕ → ℕ → List ℕ
groups_by zero n = n ∷ []
groups_by (suc f) n = cond (nat_lt n 128) (n ∷ []) ((128 + n % 128) ∷ groups_by f (n / 128))

-- The bytes in which n is written.
unfoldable pub groups : ℕ → List ℕ
groups n = groups_by n n

-- What bytes come to: the low seven bits of each, the first the lowest.
abbrev pub worth : List ℕ → ℕ
worth [] = 0
worth (b ∷ bs) = b % 128 + 128 * worth bs

-- The bytes bs are a proper form of n.
pub record Form (n : ℕ) (bs : List ℕ) : Type 0 where
  -- They come to n.
  pub value : worth bs ≡ n
  -- There is at least one.
  pub some : 0 < length bs
  -- Every byte but the last is 128 or more, and a byte.
  pub more : (k : ℕ) → k + 1 < length bs → (128 ≤ slice_index bs k) × (slice_index bs k < 256)
  -- The last is below 128.
  pub last : (k : ℕ) → k + 1 ≡ length bs → slice_index bs k < 128
  -- Where there are two or more, the last is not 0.
  pub short : (k : ℕ) → k + 1 ≡ length bs → 0 < k → 0 < slice_index bs k

-- The laws of the form.
pub record NumberLaw : Type 0 where
  -- Every number is written in a proper form.
  pub form : (n : ℕ) → Form n (groups n)
  -- A number has no other proper form.
  pub only : (n : ℕ) (bs : List ℕ) → Form n bs → bs ≡ groups n
  -- A number below 2 ^ 28 takes at most four bytes.
  pub four : (n : ℕ) → n < 2 ^ 28 → length (groups n) ≤ 4
  -- No form begins another, so that numbers written one after another can be told apart.
  pub apart : (m n : ℕ) (s t : List ℕ) → groups m ++ s ≡ groups n ++ t → (m ≡ n) × (s ≡ t)
