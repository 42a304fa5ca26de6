-- The laws of descriptors: what is written is read again, what is read is written again, and there is one descriptor for
-- each placement.
use Rattle.std.specs.Prelude.{◌≡◌, ℕ, ◌<◌, List, ◌∷◌, ◌++◌, length, Ok, slice_index}
use Rattle.placement.specs.Sites.{Site, Inside}
use Rattle.plans.specs.Plans.{Plan, Legal, site_of}
use Rattle.writer.specs.Descriptors.{bytes_of}
use Rattle.decoding.specs.Reading.{accepted}

-- each is a byte
abbrev pub Bytes : List ℕ → Type 0
Bytes bs = (k : ℕ) → slice_index bs k < 256

-- one shape, and one cell for every row and column inside
pub record Same (s t : Site) : Type 0 where
  pub rows : s.rows ≡ t.rows
  pub columns : s.columns ≡ t.columns
  pub cells : (i j : ℕ) → Inside s i j → s.cell i j ≡ t.cell i j

-- the reader and the writer undo each other
pub record ExchangeLaw : Type 0 where
  -- what the writer wrote, the reader accepts, as the plan that was written
  pub read_again : (p : Plan) → Legal p → accepted (bytes_of p) ≡ Ok p
  -- so it is one placement
  pub one_placement : (p q : Plan) → Legal p → accepted (bytes_of p) ≡ Ok q → Same (site_of p) (site_of q)
  -- what the reader accepts is legal, and the writer writes it again, byte for byte
  pub legal : (bs : List ℕ) (p : Plan) → Bytes bs → accepted bs ≡ Ok p → Legal p
  pub written_again : (bs : List ℕ) (p : Plan) → Bytes bs → accepted bs ≡ Ok p → bs ≡ bytes_of p

-- two byte strings that the reader accepts are equal exactly where they say one placement
abbrev pub OneForm : Type 0
OneForm = (a b : List ℕ) (p q : Plan) → Bytes a → Bytes b → accepted a ≡ Ok p → accepted b ≡ Ok q → (a ≡ b → Same (site_of p) (site_of q)) × (Same (site_of p) (site_of q) → a ≡ b)

-- of an input longer than thirteen bytes only the first thirteen matter
abbrev pub Bounded : Type 0
Bounded = (front s t : List ℕ) (x y : ℕ) → length front ≡ 13 → accepted (front ++ x ∷ s) ≡ accepted (front ++ y ∷ t)
