-- The width of a number: its law, and what follows from the law alone.
use Rattle.std.proofs.Common.{◌≡◌, ℕ, zero, suc, ◌+◌, ◌-◌, ◌*◌, ◌/◌, ◌^◌, ◌<◌, ◌≤◌, sym, refl, ap, ◌∙◌, subst, ⊎_elim, pow-suc, arith, lit≤, pow_mono}
use lib.Count.{count_leading_zeros, leading_length}
use Rattle.std.proofs.lemmas.Int.Digits.{length-digits_of_step}
use Rattle.std.proofs.lemmas.Bool.{cases_lt, cases_order}
use Rattle.fields.specs.Fields.{width, Wide}

pub width_step : (n : ℕ) → 0 < n → width n ≡ width (n / 2) + 1
unfolding width
width_step n h = length-digits_of_step 2 n (lit≤ tt) h

pub width_zero : width 0 ≡ 0
unfolding width
width_zero = refl

-- twice the power
pub pow_more : (w : ℕ) → 2 ^ (w + 1) ≡ 2 * 2 ^ w
pow_more w = let e : w + 1 ≡ suc w = omega arith in rw (e, pow-suc 2 w) (omega arith)

pub pow_less : (w : ℕ) → 0 < w → 2 ^ w ≡ 2 * 2 ^ (w - 1)
pow_less w h = let e : w ≡ (w - 1) + 1 = omega arith in ap (λ x. 2 ^ x) e ∙ pow_more (w - 1)

-- one binary digit more
wide_more : (n w : ℕ) → 0 < n → Wide (n / 2) w → Wide n (w + 1)
wide_more n w h l = record {
  below = let b = l.below in rw (pow_more w) (omega arith);
  reached = λ _. ⊎_elim low none (cases_lt 0 w);
} where
  low : 0 < w → 2 ^ (w + 1 - 1) ≤ n
  low z = let e : w + 1 - 1 ≡ w = omega arith in let r = l.reached z in rw (e, pow_less w z) (omega arith)

  none : w ≤ 0 → 2 ^ (w + 1 - 1) ≤ n
  none z = let e : w + 1 - 1 ≡ 0 = omega arith in rw e (omega arith)

wide_none : (n : ℕ) → n ≤ 0 → Wide n (width n)
wide_none n h =
    let z : n ≡ 0 = omega arith in
    let P : ℕ → Type 0 = λ x. Wide x (width x) in
    let at_zero : Wide 0 (width 0) = rw width_zero (record { below = omega arith; reached = λ p. absurd (omega arith) }) in
    subst P (sym z) at_zero

wide_by : (k n : ℕ) → n ≤ k → Wide n (width n)
wide_by zero n h = wide_none n h
wide_by (suc k) n h =
    ⊎_elim
    (λ p. rw (width_step n p) (wide_more n (width (n / 2)) p (wide_by k (n / 2) (omega arith))))
    (wide_none n) (cases_lt 0 n)

pub wide_width : (n : ℕ) → Wide n (width n)
wide_width n = wide_by n n (omega arith)

wide_not_below : (n v w : ℕ) → Wide n v → Wide n w → v < w → ⊥
wide_not_below n v w a b h =
    let le : v ≤ w - 1 = omega arith in
    let p = pow_mono le in
    let pos : 0 < w = omega arith in
    omega (arith, a.below, b.reached pos)

-- the law leaves one number
pub wide_same : (n v w : ℕ) → Wide n v → Wide n w → v ≡ w
wide_same n v w a b = ⊎_elim (λ e. e) (⊎_elim (λ h. absurd (wide_not_below n v w a b h)) (λ h. absurd (wide_not_below n w v b a h))) (cases_order v w)

pub width_is : (n w : ℕ) → Wide n w → width n ≡ w
width_is n w h = wide_same n (width n) w (wide_width n) h

-- n is below 2^k exactly where its width is at most k
pub below_width : (n k : ℕ) → width n ≤ k → n < 2 ^ k
below_width n k h = let p = pow_mono h in omega (arith, (wide_width n).below)

pub width_below : (n k : ℕ) → n < 2 ^ k → width n ≤ k
width_below n k h = ⊎_elim (λ l. absurd (over l)) (λ l. l) (cases_lt k (width n))
  where
    over : k < width n → ⊥
    over l =
        let le : k ≤ width n - 1 = omega arith in
        let p = pow_mono le in
        let pos : 0 < width n = omega arith in
        omega (arith, (wide_width n).reached pos)

-- what the machine counts is the width
pub wide_leading : (n : ℕ) → n < 2 ^ 32 → Wide n (32 - count_leading_zeros 32 n)
wide_leading n h = go (leading_length 32 n h)
  where
    go : ((m : ℕ) × (count_leading_zeros 32 n + m ≡ 32) × (n < 2 ^ m) × (2 ^ m ≤ 2 * n + 1)) → Wide n (32 - count_leading_zeros 32 n)
    go (m, e, below, above) =
        let is : 32 - count_leading_zeros 32 n ≡ m = omega arith in
        rw is (record { below = below; reached = λ pos. (let p = pow_less m pos in omega arith) })
