-- What two sites are told.
use Rattle.std.proofs.Common.{◌≡◌, ℕ, Bool, List, Ok, Decides, sym, refl, ◌∙◌}
use Rattle.plans.specs.Plans.{Plan}
use Rattle.decoding.specs.Laws.{Bytes}
use Rattle.decoding.specs.Reading.{accepted}
use Rattle.decoding.proofs.Accepted.{no_err}
use Rattle.decoding.proofs.OneForm.{one_form}
use Rattle.descriptor.specs.Comparing.{Compared}

-- both are accepted
pub compared_both : (left right : List ℕ) (p q : Plan) (same : Bool) → Bytes left → Bytes right → Ok p ≡ accepted left → Ok q ≡ accepted right → Decides same (left ≡ right) → Compared left right (Ok same)
compared_both left right p q same a b e d h = record {
  left_refused = λ f k. no_err f p (sym k ∙ sym e);
  right_refused = λ r f k l. no_err f q (sym l ∙ sym d);
  told = λ r s k l. (same, refl, (λ t. (one_form left right r s a b k l).0 (h.0 t), λ t. h.1 ((one_form left right r s a b k l).1 t)));
}
