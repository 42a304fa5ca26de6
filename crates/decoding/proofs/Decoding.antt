-- A number read byte by byte.
use Rattle.std.proofs.Common.{◌≡◌, ℕ, suc, ◌+◌, ◌-◌, ◌*◌, ◌%◌, ◌^◌, ◌<◌, ◌≤◌, Bool, true, false, cond, not, ◌&&◌, eqb, ltb, ◌⊎◌, List, length, get_or, take, drop, Ok, Err, Result, sym, refl, ap, ◌∙◌, ⊎_elim, min, add-zero, arith, length-take, length-drop, get_or-take, get_or-drop}
use Rattle.std.proofs.lemmas.Nat.{pow-add, shl_whole, mul-le}
use Rattle.std.proofs.lemmas.List.{drop_more}
use Rattle.std.proofs.lemmas.Bool.{cond-true, cond-false, lt-ltb, le-ltb, cases_eq, eq-eqb, ne_eqb}
use Rattle.masked.specs.declared.refusal.Refusal.TheVariants.{Padded}
use Rattle.decoding.specs.Reading.{fault, number, and_then, unless, led_by, number_by, number_at}
use Rattle.decoding.specs.declared.decoded.Number.{Number}
use Rattle.decoding.specs.declared.fault.Fault.{Fault}

-- g bytes that come to value, before the rest of a number
abbrev pub after : (first g value : ℕ) → Result Number Fault → Result Number Fault
after first g value rest =
    and_then rest (λ n. unless (not (ltb 0 g && eqb n.value 0)) Padded first (Ok (number (value + 2 ^ (7 * g) * n.value) n.next)))

-- the first g bytes are read
pub record SoFar (input : List ℕ) (first g value : ℕ) : Type 0 where
  pub small : value < 2 ^ (7 * g)
  pub gives : after first g value (number_by (length input) first (4 - g) (first + g) (drop (first + g) input)) ≡ number_at input first

-- no byte so far
after_none : (first : ℕ) (r : Result Number Fault) → after first 0 0 r ≡ r
after_none first (Ok n) = let e : 0 + 2 ^ (7 * 0) * n.value ≡ n.value = omega arith in ap (λ (v : ℕ). Ok (number v n.next)) e
after_none first (Err f) = refl

pub so_far_none : (input : List ℕ) (at : ℕ) → SoFar input at 0 0
unfolding number_at
so_far_none input at = record {
  small = omega arith;
  gives = rw (add-zero at) (after_none at (number_by (length input) at 4 at (drop at input)));
}

-- one byte more
pub power_more : (g : ℕ) → 2 ^ (7 * (g + 1)) ≡ 128 * 2 ^ (7 * g)
power_more g = let e : 7 * (g + 1) ≡ 7 + 7 * g = omega arith in ap (λ (k : ℕ). 2 ^ k) e ∙ pow-add 2 7 (7 * g)

and_none : (t : Bool) → (t && false) ≡ false
and_none true = refl
and_none false = refl

after_led : (first g value b : ℕ) (r : Result Number Fault) → after first g value (led_by first b r) ≡ after first (g + 1) (value + (b % 128) * 2 ^ (7 * g)) r
after_led first g value b (Err f) = refl
after_led first g value b (Ok n) =
    let some : ltb 0 (g + 1) ≡ true = lt-ltb 0 (g + 1) (omega arith) in
    ⊎_elim
    (λ z. let t : eqb n.value 0 ≡ true = eq-eqb n.value 0 z in rw (t, some))
    (λ z.
    let t : eqb n.value 0 ≡ false = ne_eqb n.value 0 z in
    let u : eqb (b % 128 + 128 * n.value) 0 ≡ false = ne_eqb (b % 128 + 128 * n.value) 0 (λ e. z (omega arith)) in
    let w : (ltb 0 g && false) ≡ false = and_none (ltb 0 g) in
    let v : value + 2 ^ (7 * g) * (b % 128 + 128 * n.value) ≡ value + (b % 128) * 2 ^ (7 * g) + 2 ^ (7 * (g + 1)) * n.value = rw (power_more g) (omega arith) in
    rw (t, some, u, w, v))
    (cases_eq n.value 0)

-- the number from an offset on, by the byte there
number_more : (input : List ℕ) (first k at : ℕ) → at < length input → number_by (length input) first (suc k) at (drop at input) ≡ cond (ltb (get_or input at 0) 128) (Ok (number (get_or input at 0) (at + 1))) (led_by first (get_or input at 0) (number_by (length input) first k (at + 1) (drop (at + 1) input)))
number_more input first k at h = ap (number_by (length input) first (suc k) at) (drop_more input at 0 h)

-- a group in its place
pub group_shifted : (b g : ℕ) → g < 4 → ((b % 128) * 2 ^ (7 * g)) % 2 ^ 32 ≡ (b % 128) * 2 ^ (7 * g)
group_shifted b g h = shl_whole (b % 128) 7 (7 * g) 32 (omega arith) (omega arith)

pub group_fits : (value b g : ℕ) → g < 4 → value < 2 ^ (7 * g) → value + ((b % 128) * 2 ^ (7 * g)) % 2 ^ 32 < 2 ^ (7 * (g + 1))
group_fits value b g h l =
    let s = group_shifted b g h in
    let p = power_more g in
    let low : b % 128 ≤ 127 = omega arith in
    let m = times (b % 128) (2 ^ (7 * g)) low in
    omega arith
  where
    times : (a p : ℕ) → a ≤ 127 → a * p ≤ 127 * p
    times a p h = mul-le a p 127 p h (omega arith)

-- the last byte: a zero byte after others, or the number
pub last_padded : (first g value b next : ℕ) → 0 < g → b ≡ 0 → Err (fault Padded first) ≡ after first g value (Ok (number b next))
last_padded first g value b next h z =
    let some : ltb 0 g ≡ true = lt-ltb 0 g h in
    let none : eqb b 0 ≡ true = eq-eqb b 0 z in
    rw (some, none)

pub last_kept : (first g value b next : ℕ) → g < 4 → b < 128 → ((b ≡ 0) × (g ≤ 0)) ⊎ (b ≡ 0 → ⊥) → Ok (number (value + ((b % 128) * 2 ^ (7 * g)) % 2 ^ 32) next) ≡ after first g value (Ok (number b next))
last_kept first g value b next l low = ⊎_elim
    (λ h. let t : ltb 0 g ≡ false = le-ltb 0 g h.1 in rw t (ap (λ (v : ℕ). Ok (number v next)) value_is))
    (λ h. let t : eqb b 0 ≡ false = ne_eqb b 0 h in rw (t, and_none (ltb 0 g)) (ap (λ (v : ℕ). Ok (number v next)) value_is))
  where
    value_is : value + ((b % 128) * 2 ^ (7 * g)) % 2 ^ 32 ≡ value + 2 ^ (7 * g) * b
    value_is = let s = group_shifted b g l in let same : b % 128 ≡ b = omega arith in rw s (rw same (omega arith))

-- of the first four bytes from an offset on, each stands there in the input
pub record FourAt (input bytes : List ℕ) (at g : ℕ) : Type 0 where
  pub few : g < 4
  pub inside : at + g < length input
  pub same : get_or bytes g 0 ≡ get_or input (at + g) 0

pub four_at : (input bytes : List ℕ) (at g : ℕ) → bytes ≡ take 4 (drop at input) → g < length bytes → FourAt input bytes at g
four_at input bytes at g e h =
    let long : length bytes ≡ min 4 (length input - at) = rw e (simp (length-take, length-drop) refl) in
    let few : g < 4 = omega arith in
    record {
      few = few;
      inside = omega arith;
      same = rw e (get_or-take 4 (drop at input) g 0 few ∙ get_or-drop at input g 0);
    }

module _ (input : List ℕ) (first g value : ℕ) (h : SoFar input first g value) where
  -- what is left, once it is known
  left_is : (r : Result Number Fault) → number_by (length input) first (4 - g) (first + g) (drop (first + g) input) ≡ r → after first g value r ≡ number_at input first
  left_is r e = ap (after first g value) (sym e) ∙ h.gives

  -- at least one byte may follow
  left_more : g < 4 → number_by (length input) first (4 - g) (first + g) (drop (first + g) input) ≡ number_by (length input) first (suc (3 - g)) (first + g) (drop (first + g) input)
  left_more l = let e : 4 - g ≡ suc (3 - g) = omega arith in ap (λ (k : ℕ). number_by (length input) first k (first + g) (drop (first + g) input)) e

  -- the last byte
  pub so_far_last : (b : ℕ) → g < 4 → (first + g) < length input → b ≡ get_or input (first + g) 0 → b < 128 → after first g value (Ok (number b ((first + g) + 1))) ≡ number_at input first
  so_far_last b l e is low =
      let t : ltb (get_or input (first + g) 0) 128 ≡ true = lt-ltb (get_or input (first + g) 0) 128 (omega arith) in
      left_is (Ok (number b ((first + g) + 1)))
      (left_more l ∙ number_more input first (3 - g) (first + g) e ∙ cond-true (ltb (get_or input (first + g) 0) 128) _ _ t ∙ ap (λ (v : ℕ). Ok (number v ((first + g) + 1))) (sym is))

  -- any other
  pub so_far_more : (b : ℕ) → g < 4 → (first + g) < length input → b ≡ get_or input (first + g) 0 → 128 ≤ b → SoFar input first (g + 1) (value + ((b % 128) * 2 ^ (7 * g)) % 2 ^ 32)
  so_far_more b l e is high =
      let t : ltb (get_or input (first + g) 0) 128 ≡ false = le-ltb (get_or input (first + g) 0) 128 (omega arith) in
      let rest : Result Number Fault = number_by (length input) first (3 - g) ((first + g) + 1) (drop ((first + g) + 1) input) in
      let led = left_is (led_by first b rest) (left_more l ∙ number_more input first (3 - g) (first + g) e ∙ cond-false (ltb (get_or input (first + g) 0) 128) _ _ t ∙ ap (λ (v : ℕ). led_by first v rest) (sym is)) in
      let fewer : 4 - (g + 1) ≡ 3 - g = omega arith in
      let shifted = group_shifted b g l in
      let on : first + (g + 1) ≡ first + g + 1 = omega arith in
      record {
        small = group_fits value b g l h.small;
        gives = rw (fewer, shifted, on) (sym (after_led first g value b rest) ∙ led);
      }

-- the number ends with the byte b, the next of the four
module _ (input bytes : List ℕ) (first g value b : ℕ) (h : SoFar input first g value) (four : bytes ≡ take 4 (drop first input)) (more : g < length bytes) (is : b ≡ get_or bytes g 0) (low : b < 128) where
  ends : after first g value (Ok (number b ((first + g) + 1))) ≡ number_at input first
  ends = let f = four_at input bytes first g four more in so_far_last input first g value h b f.few f.inside (is ∙ f.same) low

  pub ends_padded : 0 < g → b ≡ 0 → Err (fault Padded first) ≡ number_at input first
  ends_padded some none = last_padded first g value b ((first + g) + 1) some none ∙ ends

  pub ends_kept : ((b ≡ 0) × (g ≤ 0)) ⊎ (b ≡ 0 → ⊥) → Ok (number (value + ((b % 128) * 2 ^ (7 * g)) % 2 ^ 32) ((first + g) + 1)) ≡ number_at input first
  ends_kept either = let f = four_at input bytes first g four more in last_kept first g value b ((first + g) + 1) f.few low either ∙ ends
