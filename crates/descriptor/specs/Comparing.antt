-- What two sites are told of their descriptors.
use Rattle.std.specs.Prelude.{◌≡◌, ℕ, Bool, List, Ok, Err, Decides, Result}
use Rattle.plans.specs.Plans.{Plan, site_of}
use Rattle.decoding.specs.Laws.{Same}
use Rattle.decoding.specs.Reading.{accepted}
use Rattle.decoding.specs.declared.fault.Fault.{Fault}
use Rattle.descriptor.specs.declared.exchange.Mismatch.{Mismatch}
use Rattle.descriptor.specs.declared.exchange.Mismatch.TheVariants.{Left, Right}

-- the answer on two descriptors
pub record Compared (left right : List ℕ) (answer : Result Bool Mismatch) : Type 0 where
  -- the left is judged first
  pub left_refused : (f : Fault) → accepted left ≡ Err f → answer ≡ Err (Left f)
  pub right_refused : (p : Plan) (f : Fault) → accepted left ≡ Ok p → accepted right ≡ Err f → answer ≡ Err (Right f)
  -- where both are accepted, it is told whether they are one placement
  pub told : (p q : Plan) → accepted left ≡ Ok p → accepted right ≡ Ok q → (same : Bool) × (answer ≡ Ok same) × Decides same (Same (site_of p) (site_of q))
