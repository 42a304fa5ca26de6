-- Digits at the front of a list, and the numbers that they write.
use Rattle.std.proofs.Common.{◌≡◌, ℕ, zero, suc, ◌+◌, ◌-◌, ◌*◌, ◌<◌, ◌≤◌, true, false, leb, List, [], ◌∷◌, length, take, fold, refl, ap, ◌∙◌, ⊎_elim, one-add, arith, rules}
use Rattle.std.specs.Char.{is_ascii_digit}
use Rattle.std.specs.Int.{is_in_range}
use Rattle.std.specs.Str.{all_ascii_digits}
use Rattle.std.proofs.lemmas.List.{length-take-le}
use Rattle.std.proofs.lemmas.Str.Parse.{IsNumeralModel, numerals_by_fold, digits_value_short}
use Rattle.std.proofs.lemmas.Bool.{cases_Bool, and_parts, and_from, leb-true}
use Rattle.lines.specs.Requests.{value_of, plain, digit_count}

pub own : IsNumeralModel (λ ds. all_ascii_digits ds ≡ true) value_of
own = numerals_by_fold _ (search rules) (λ n ds. fold (λ m d. m * 10 + (d - 48)) n ds) (search rules)

pub all_take : (ds : List ℕ) (i : ℕ) → all_ascii_digits ds ≡ true → all_ascii_digits (take i ds) ≡ true
all_take [] zero a = refl
all_take [] (suc i) a = refl
all_take (d ∷ ds) zero a = refl
all_take (d ∷ ds) (suc i) a = let p = and_parts (is_ascii_digit d) (all_ascii_digits ds) a in and_from _ _ p.0 (all_take ds i p.1)

-- What stands at the front, up to the first byte that is no digit, is digits.
pub all_front : (bs : List ℕ) → all_ascii_digits (take (digit_count bs) bs) ≡ true
all_front [] = refl
all_front (b ∷ bs) =
    ⊎_elim
    (λ (e : is_ascii_digit b ≡ true). simp (e, one-add) (all_front bs))
    (λ (e : is_ascii_digit b ≡ false). simp e)
    (cases_Bool (is_ascii_digit b))

-- The first three digits of four leave room for one more.
pub value_room : (ds : List ℕ) (i : ℕ) → all_ascii_digits ds ≡ true → length ds ≤ 4 → i < length ds → value_of (take i ds) < 1000
value_room ds i a s h = digits_value_short own (take i ds) 3 (all_take ds i a) (omega (arith, length-take-le i ds (omega arith)))

pub plain_short : (ds : List ℕ) → plain ds ≡ true → length ds ≤ 4
plain_short ds p =
    leb-true (length ds) 4 (and_parts (leb 1 (length ds)) _ (and_parts (is_in_range 1 4 (length ds)) _ p).0).1

-- The digits at the front of bs, where n is their number.
module _ (bs : List ℕ) (n : ℕ) {ds : List ℕ} where
  pub front_is : n ≡ digit_count bs → ds ≡ take n bs → ds ≡ take (digit_count bs) bs
  front_is e f = f ∙ ap (λ k. take k bs) e

  pub digits_plain : n ≡ digit_count bs → ds ≡ take n bs → plain ds ≡ true → (all_ascii_digits ds ≡ true) × (length ds ≤ 4)
  digits_plain e f p = (ap all_ascii_digits (front_is e f) ∙ all_front bs, plain_short ds p)
