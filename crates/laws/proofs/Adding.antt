-- Sums by a plus that is associative and commutative and has a zero.
use Rattle.std.proofs.Common.{◌≡◌, ℕ, zero, suc, ◌+◌, ◌-◌, ◌<◌, ◌≤◌, Bool, true, false, cond, List, [], ◌∷◌, count_by, sym, refl, ap, ◌∙◌, arith}
use Rattle.std.proofs.lemmas.List.Sums.{sum_by-cons}
use Rattle.laws.specs.Products.{Adds, added, added_between}

-- ---- what holds of any plus

module _ {E : Type 0} (plus : E → E → E) where
  pub added_same : (x : E) (f g : ℕ → E) (n : ℕ) → ((k : ℕ) → k < n → f k ≡ g k) → added plus x f n ≡ added plus x g n
  added_same x f g zero e = refl
  added_same x f g (suc n) e =
      let a = added_same x f g n (λ k h. e k (omega arith)) in let b = e n (omega arith) in rw (a, b)

  -- the first m terms and then n more
  pub added_added : (x : E) (f : ℕ → E) (m n : ℕ) → added plus x f (m + n) ≡ added plus (added plus x f m) (λ k. f (m + k)) n
  added_added x f m zero = let e : m + 0 ≡ m = omega arith in ap (added plus x f) e
  added_added x f m (suc n) =
      let e : m + suc n ≡ suc (m + n) = omega arith in
      ap (added plus x f) e ∙ ap (λ (y : E). plus y (f (m + n))) (added_added x f m n)

  pub between_none : (x : E) (f : ℕ → E) (from to : ℕ) → to ≤ from → added_between plus x f from to ≡ x
  between_none x f from to h = let e : to - from ≡ 0 = omega arith in ap (added plus x (λ k. f (from + k))) e

  -- one term more at the end
  pub between_more : (x : E) (f : ℕ → E) (from k : ℕ) → from ≤ k → added_between plus x f from (k + 1) ≡ plus (added_between plus x f from k) (f k)
  between_more x f from k h =
      let e : k + 1 - from ≡ suc (k - from) = omega arith in
      let a : from + (k - from) ≡ k = omega arith in
      ap (added plus x (λ n. f (from + n))) e ∙ ap (λ (n : ℕ). plus (added_between plus x f from k) (f n)) a

-- ---- what holds under the three laws

module _ {E : Type 0} (plus : E → E → E) (nought : E) (laws : Adds plus nought) where
  pub right_neutral : (a : E) → plus a nought ≡ a
  right_neutral a = laws.commutative a nought ∙ laws.neutral a

  pub crossed : (a b c d : E) → plus (plus a b) (plus c d) ≡ plus (plus a c) (plus b d)
  crossed a b c d =
      laws.associative a b (plus c d)
      ∙ ap (plus a) (sym (laws.associative b c d) ∙ ap (λ (y : E). plus y d) (laws.commutative b c) ∙ laws.associative c b d)
      ∙ sym (laws.associative a c (plus b d))

  -- the terms may be summed first
  pub summed_first : (x : E) (f : ℕ → E) (n : ℕ) → added plus x f n ≡ plus x (added plus nought f n)
  summed_first x f zero = sym (right_neutral x)
  summed_first x f (suc n) =
      ap (λ (y : E). plus y (f n)) (summed_first x f n) ∙ laws.associative x (added plus nought f n) (f n)

  -- the sum of g over a list
  unfoldable pub total : {X : Type 0} → (X → E) → List X → E
  total g [] = nought
  total g (t ∷ ts) = plus (g t) (total g ts)

  pub total_same : {X : Type 0} (f g : X → E) → ((t : X) → f t ≡ g t) → (ts : List X) → total f ts ≡ total g ts
  unfolding total
  total_same f g e [] = refl
  total_same f g e (t ∷ ts) = let a = e t in let b = total_same f g e ts in rw (a, b)

  pub total_plus : {X : Type 0} (f g : X → E) (ts : List X) → total (λ t. plus (f t) (g t)) ts ≡ plus (total f ts) (total g ts)
  unfolding total
  total_plus f g [] = sym (laws.neutral nought)
  total_plus f g (t ∷ ts) =
      ap (plus (plus (f t) (g t))) (total_plus f g ts) ∙ crossed (f t) (g t) (total f ts) (total g ts)

  pub total_nought : {X : Type 0} (f : X → E) → ((t : X) → f t ≡ nought) → (ts : List X) → total f ts ≡ nought
  unfolding total
  total_nought f e [] = refl
  total_nought f e (t ∷ ts) = let a = e t in let b = total_nought f e ts in rw (a, b) (laws.neutral nought)

  -- the element e as often as a test passes
  pub total_counted : {X : Type 0} (p : X → Bool) (e : E) (ts : List X) → total (λ t. cond (p t) e nought) ts ≡ added plus nought (λ _. e) (count_by p ts)
  unfolding total
  total_counted p e [] = refl
  total_counted p e (t ∷ ts) =
      ap (plus (cond (p t) e nought)) (total_counted p e ts)
      ∙ step (p t) (count_by p ts)
      ∙ ap (added plus nought (λ _. e)) (sym (sum_by-cons (λ x. cond (p x) 1 0) t ts))
    where
      step : (b : Bool) (n : ℕ) → plus (cond b e nought) (added plus nought (λ _. e) n) ≡ added plus nought (λ _. e) (cond b 1 0 + n)
      step true n =
          let a : 1 + n ≡ suc n = omega arith in
          laws.commutative e (added plus nought (λ _. e) n) ∙ sym (ap (added plus nought (λ _. e)) a)
      step false n =
          let a : 0 + n ≡ n = omega arith in
          laws.neutral (added plus nought (λ _. e) n) ∙ sym (ap (added plus nought (λ _. e)) a)
