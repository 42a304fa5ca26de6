-- The laws of the form in which a number is written.
use Rattle.std.proofs.Common.{◌≡◌, ℕ, zero, suc, ◌+◌, ◌*◌, ◌/◌, ◌%◌, ◌^◌, ◌<◌, ◌≤◌, Bool, true, false, cond, ltb, List, [], ◌∷◌, ◌++◌, length, get_or, sym, refl, ap, ◌∙◌, subst, inl, inr, arith}
use Rattle.std.proofs.lemmas.Bool.{cases_lt, cond-true, cond-false, lt-ltb, le-ltb, ltb-false}
use Rattle.writer.specs.Numbers.{groups_by, groups, worth, Form, NumberLaw}

-- ---- the step

-- Two choices by one test agree if they agree where the test fails.
same_else : (b : Bool) (x y z : List ℕ) → (b ≡ false → y ≡ z) → cond b x y ≡ cond b x z
same_else true x y z h = refl
same_else false x y z h = h refl

-- Any two bounds on the groups that are at least n give the same bytes.
enough : (f g n : ℕ) → n ≤ f → n ≤ g → groups_by f n ≡ groups_by g n
unfolding groups_by
enough zero zero n p q = refl
enough zero (suc g) n p q =
    let z : ltb n 128 ≡ true = lt-ltb n 128 (omega arith) in sym (cond-true (ltb n 128) _ _ z)
enough (suc f) zero n p q =
    let z : ltb n 128 ≡ true = lt-ltb n 128 (omega arith) in cond-true (ltb n 128) _ _ z
enough (suc f) (suc g) n p q =
    same_else (ltb n 128) (n ∷ []) ((128 + n % 128) ∷ groups_by f (n / 128)) ((128 + n % 128) ∷ groups_by g (n / 128))
    (λ e. let big : 128 ≤ n = ltb-false n 128 e in ap (λ (r : List ℕ). (128 + n % 128) ∷ r) (enough f g (n / 128) (omega arith) (omega arith)))

-- A number below 128 is one byte; of any other the low seven bits come first, and then the groups of the rest.
pub groups_step : (n : ℕ) → groups n ≡ cond (ltb n 128) (n ∷ []) ((128 + n % 128) ∷ groups (n / 128))
unfolding groups groups_by
groups_step zero = refl
groups_step (suc n) =
    same_else (ltb (suc n) 128) (suc n ∷ []) ((128 + suc n % 128) ∷ groups_by n (suc n / 128)) ((128 + suc n % 128) ∷ groups (suc n / 128))
    (λ e. let big : 128 ≤ suc n = ltb-false (suc n) 128 e in ap (λ (r : List ℕ). (128 + suc n % 128) ∷ r) (enough n (suc n / 128) (suc n / 128) (omega arith) (omega arith)))

pub groups_small : (n : ℕ) → n < 128 → groups n ≡ n ∷ []
groups_small n h = groups_step n ∙ cond-true (ltb n 128) _ _ (lt-ltb n 128 h)

pub groups_large : (n : ℕ) → 128 ≤ n → groups n ≡ (128 + n % 128) ∷ groups (n / 128)
groups_large n h = groups_step n ∙ cond-false (ltb n 128) _ _ (le-ltb n 128 h)

-- ---- how many bytes

pub length_small : (n : ℕ) → n < 128 → length (groups n) ≡ 1
length_small n h = ap length (groups_small n h)

pub length_large : (n : ℕ) → 128 ≤ n → length (groups n) ≡ 1 + length (groups (n / 128))
length_large n h = let e : length (groups n) ≡ suc (length (groups (n / 128))) = ap length (groups_large n h) in omega arith

pub length_pos : (n : ℕ) → 0 < length (groups n)
length_pos n =
    elim (cases_lt n 128) [
      | inl h ↦ omega (arith, length_small n h)
      | inr h ↦ omega (arith, length_large n h)
    ]

length_next : (n : ℕ) → length (groups n) ≤ 1 + length (groups (n / 128))
length_next n =
    elim (cases_lt n 128) [
      | inl h ↦ omega (arith, length_small n h)
      | inr h ↦ omega (arith, length_large n h)
    ]

pub length_two : (n : ℕ) → n < 2 ^ 14 → length (groups n) ≤ 2
length_two n h = omega (arith, length_next n, length_small (n / 128) (omega arith))

pub length_three : (n : ℕ) → n < 2 ^ 21 → length (groups n) ≤ 3
length_three n h = omega (arith, length_next n, length_two (n / 128) (omega arith))

pub length_four : (n : ℕ) → n < 2 ^ 28 → length (groups n) ≤ 4
length_four n h = omega (arith, length_next n, length_three (n / 128) (omega arith))

pub length_five : (n : ℕ) → n < 2 ^ 32 → length (groups n) ≤ 5
length_five n h = omega (arith, length_next n, length_four (n / 128) (omega arith))

-- ---- the form is proper

form_one : (n : ℕ) → n < 128 → Form n (n ∷ [])
form_one n h = record {
  value = omega arith;
  some = omega arith;
  more = λ k l. let no : ⊥ = omega arith in absurd no;
  last = one_last n h;
  short = λ k l p. let no : ⊥ = omega arith in absurd no;
}
  where
    one_last : (n : ℕ) → n < 128 → (k : ℕ) → k + 1 ≡ 1 → get_or (n ∷ []) k 0 < 128
    one_last n h zero e = h
    one_last n h (suc k) e = let no : ⊥ = omega arith in absurd no

-- Bytes that come to more than 0, if there is one alone, are not 0.
one_pos : (bs : List ℕ) → length bs ≡ 1 → 0 < worth bs → 0 < get_or bs 0 0
one_pos [] l p = let no : ⊥ = omega arith in absurd no
one_pos (b ∷ []) l p = omega arith
one_pos (b ∷ c ∷ bs) l p = let no : ⊥ = omega arith in absurd no

module _ (m a : ℕ) (bs : List ℕ) (small : a < 128) (pos : 0 < m) (f : Form m bs) where
  more_more : (k : ℕ) → k + 1 < length ((128 + a) ∷ bs) → (128 ≤ get_or ((128 + a) ∷ bs) k 0) × (get_or ((128 + a) ∷ bs) k 0 < 256)
  more_more zero l = (omega arith, omega arith)
  more_more (suc k) l = f.more k (omega arith)

  more_last : (k : ℕ) → k + 1 ≡ length ((128 + a) ∷ bs) → get_or ((128 + a) ∷ bs) k 0 < 128
  more_last zero l = let no : ⊥ = omega (arith, f.some) in absurd no
  more_last (suc k) l = f.last k (omega arith)

  more_short : (k : ℕ) → k + 1 ≡ length ((128 + a) ∷ bs) → 0 < k → 0 < get_or ((128 + a) ∷ bs) k 0
  more_short zero l p = omega arith
  more_short (suc zero) l p = one_pos bs (omega arith) (omega (arith, f.value))
  more_short (suc (suc k)) l p = f.short (suc k) (omega arith) (omega arith)

  -- One group more in front of a proper form of a number that is not 0.
  form_more : Form (a + 128 * m) ((128 + a) ∷ bs)
  form_more = record { value = omega (arith, f.value); some = omega arith; more = more_more; last = more_last; short = more_short }

form_upto : (f n : ℕ) → n ≤ f → Form n (groups n)
form_upto zero n le = subst (Form n) (sym (groups_small n (omega arith))) (form_one n (omega arith))
form_upto (suc f) n le =
    elim (cases_lt n 128) [
      | inl h ↦ subst (Form n) (sym (groups_small n h)) (form_one n h)
      | inr h ↦
          let parts : n % 128 + 128 * (n / 128) ≡ n = omega arith in
          let low : n % 128 < 128 = omega arith in
          let high : 0 < n / 128 = omega arith in
          let rest : Form (n / 128) (groups (n / 128)) = form_upto f (n / 128) (omega arith) in
          let one_more : Form (n % 128 + 128 * (n / 128)) ((128 + n % 128) ∷ groups (n / 128)) = form_more (n / 128) (n % 128) (groups (n / 128)) low high rest in
          subst (Form n) (sym (groups_large n h)) (subst (λ (v : ℕ). Form v ((128 + n % 128) ∷ groups (n / 128))) parts one_more)
    ]

pub form_of : (n : ℕ) → Form n (groups n)
form_of n = form_upto n n (omega arith)

-- ---- the form is the only one

-- Bytes whose last is from 1 to 127 come to more than 0.
worth_pos : (bs : List ℕ) (k : ℕ) → k + 1 ≡ length bs → 0 < get_or bs k 0 → get_or bs k 0 < 128 → 0 < worth bs
worth_pos [] k l p q = let no : ⊥ = omega arith in absurd no
worth_pos (b ∷ bs) zero l p q = omega arith
worth_pos (b ∷ bs) (suc k) l p q = let r : 0 < worth bs = worth_pos bs k (omega arith) p q in omega arith

pub only_form : (n : ℕ) (bs : List ℕ) → Form n bs → bs ≡ groups n
only_form n [] f = let no : ⊥ = omega (arith, f.some) in absurd no
only_form n (b ∷ []) f =
    let low : b < 128 = f.last 0 (omega arith) in
    let same : b ≡ n = omega (arith, f.value) in
    ap (λ (x : ℕ). x ∷ []) same ∙ sym (groups_small n (omega arith))
only_form n (b ∷ c ∷ bs) f =
    let k : ℕ = length bs in
    let end : k + 1 + 1 ≡ length (b ∷ c ∷ bs) = omega arith in
    let low : get_or (c ∷ bs) k 0 < 128 = f.last (suc k) (omega arith) in
    let not0 : 0 < get_or (c ∷ bs) k 0 = f.short (suc k) (omega arith) (omega arith) in
    let high : 0 < worth (c ∷ bs) = worth_pos (c ∷ bs) k (omega arith) not0 low in
    let first : (128 ≤ b) × (b < 256) = f.more 0 (omega arith) in
    let value : b % 128 + 128 * worth (c ∷ bs) ≡ n = f.value in
    let head : b ≡ 128 + n % 128 = omega (arith, first.0, first.1) in
    let rest : Form (n / 128) (c ∷ bs) = record {
      value = omega arith;
      some = omega arith;
      more = λ j l. f.more (suc j) (omega arith);
      last = λ j l. f.last (suc j) (omega arith);
      short = λ j l p. f.short (suc j) (omega arith) (omega arith);
    } in
    let tail : c ∷ bs ≡ groups (n / 128) = only_form (n / 128) (c ∷ bs) rest in
    let whole : groups n ≡ (128 + n % 128) ∷ groups (n / 128) = groups_large n (omega arith) in
    cc

-- ---- no form begins another

-- The same bytes with each number's form put for it.
both : (m n : ℕ) (s t a b : List ℕ) → groups m ≡ a → groups n ≡ b → groups m ++ s ≡ groups n ++ t → a ++ s ≡ b ++ t
both m n s t a b p q e = sym (ap (λ (r : List ℕ). r ++ s) p) ∙ e ∙ ap (λ (r : List ℕ). r ++ t) q

apart_low : (m n : ℕ) (s t : List ℕ) → m < 128 → groups m ++ s ≡ groups n ++ t → (m ≡ n) × (s ≡ t)
apart_low m n s t h e =
    elim (cases_lt n 128) [
      | inl k ↦
          let same : m ∷ s ≡ n ∷ t = both m n s t (m ∷ []) (n ∷ []) (groups_small m h) (groups_small n k) e in
          ((cc), (cc))
      | inr k ↦
          let same : m ∷ s ≡ (128 + n % 128) ∷ (groups (n / 128) ++ t) = both m n s t (m ∷ []) ((128 + n % 128) ∷ groups (n / 128)) (groups_small m h) (groups_large n k) e in
          let first : m ≡ 128 + n % 128 = cc in
          let no : ⊥ = omega arith in absurd no
    ]

apart_upto : (f m n : ℕ) (s t : List ℕ) → m ≤ f → groups m ++ s ≡ groups n ++ t → (m ≡ n) × (s ≡ t)
apart_upto zero m n s t le e = apart_low m n s t (omega arith) e
apart_upto (suc f) m n s t le e =
    elim (cases_lt m 128) [
      | inl h ↦ apart_low m n s t h e
      | inr h ↦ elim (cases_lt n 128) [
        | inl k ↦ let back : (n ≡ m) × (t ≡ s) = apart_low n m t s k (sym e) in (sym back.0, sym back.1)
        | inr k ↦
            let same : (128 + m % 128) ∷ (groups (m / 128) ++ s) ≡ (128 + n % 128) ∷ (groups (n / 128) ++ t) =
            both m n s t ((128 + m % 128) ∷ groups (m / 128)) ((128 + n % 128) ∷ groups (n / 128)) (groups_large m h) (groups_large n k) e in
            let first : 128 + m % 128 ≡ 128 + n % 128 = cc in
            let rest : groups (m / 128) ++ s ≡ groups (n / 128) ++ t = cc in
            let below : (m / 128 ≡ n / 128) × (s ≡ t) = apart_upto f (m / 128) (n / 128) s t (omega arith) rest in
            (omega (arith, below.0), below.1)
      ]
    ]

pub forms_apart : (m n : ℕ) (s t : List ℕ) → groups m ++ s ≡ groups n ++ t → (m ≡ n) × (s ≡ t)
forms_apart m n s t e = apart_upto m m n s t (omega arith) e

pub number_law : NumberLaw
number_law = record { form = form_of; only = only_form; four = length_four; apart = forms_apart }
