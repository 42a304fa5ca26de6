-- A number that was written is read, and one that was read is written again.
use Rattle.std.proofs.Common.{◌≡◌, ℕ, zero, suc, ◌+◌, ◌*◌, ◌/◌, ◌%◌, ◌^◌, ◌<◌, ◌≤◌, true, false, not, eqb, ltb, List, [], ◌∷◌, ◌++◌, length, drop, Ok, sym, refl, ap, ◌∙◌, subst, inl, inr, arith, get_or-drop}
use Rattle.std.proofs.lemmas.List.{drop_at, drop-drop}
use Rattle.std.proofs.lemmas.Bool.{cases_lt, cases_Bool, cond-true, cond-false, lt-ltb, le-ltb, ltb-true, ltb-false, ne_eqb, eqb-false, not-true}
use Rattle.masked.specs.declared.refusal.Refusal.TheVariants.{Ended, TooLong, Padded}
use Rattle.writer.specs.Numbers.{groups}
use Rattle.writer.proofs.Numbers.{groups_small, groups_large, length_small, length_large, length_pos, length_four}
use Rattle.decoding.specs.Laws.{Bytes}
use Rattle.decoding.specs.Reading.{fault, number, led_by, number_by, number_at}
use Rattle.decoding.specs.declared.decoded.Number.{Number}
use Rattle.decoding.proofs.Accepted.{no_err, ok_same, and_then_ok, unless_ok}

-- ---- what was written is read

led_ok : (first b v next : ℕ) → 0 < v → led_by first b (Ok (number v next)) ≡ Ok (number (b % 128 + 128 * v) next)
led_ok first b v next h = let t : eqb v 0 ≡ false = ne_eqb v 0 (λ e. omega arith) in rw t

small_by : (end first k at n : ℕ) (rest : List ℕ) → n < 128 → number_by end first (suc k) at (groups n ++ rest) ≡ Ok (number n (at + length (groups n)))
small_by end first k at n rest h = let t : ltb n 128 ≡ true = lt-ltb n 128 h in rw (groups_small n h, t)

large_by : (end first k at n : ℕ) (rest : List ℕ) → 128 ≤ n → number_by end first k (at + 1) (groups (n / 128) ++ rest) ≡ Ok (number (n / 128) (at + 1 + length (groups (n / 128)))) → number_by end first (suc k) at (groups n ++ rest) ≡ Ok (number n (at + length (groups n)))
large_by end first k at n rest h e =
    let b : ℕ = 128 + n % 128 in
    let next : ℕ = at + 1 + length (groups (n / 128)) in
    let value_is : (128 + n % 128) % 128 + 128 * (n / 128) ≡ n = omega arith in
    let next_is : at + 1 + length (groups (n / 128)) ≡ at + length (groups n) = omega (arith, length_large n h) in
    ap (λ (g : List ℕ). number_by end first (suc k) at (g ++ rest)) (groups_large n h)
    ∙ cond-false (ltb b 128) _ _ (le-ltb b 128 (omega arith))
    ∙ ap (led_by first b) e
    ∙ led_ok first b (n / 128) next (omega arith)
    ∙ ap (λ (v : ℕ). Ok (number v next)) value_is
    ∙ ap (λ (a : ℕ). Ok (number n a)) next_is

read_by : (end first k at n : ℕ) (rest : List ℕ) → length (groups n) ≤ k → number_by end first k at (groups n ++ rest) ≡ Ok (number n (at + length (groups n)))
read_by end first zero at n rest l = absurd (omega (arith, length_pos n))
read_by end first (suc k) at n rest l =
    elim (cases_lt n 128) [
      | inl h ↦ small_by end first k at n rest h
      | inr h ↦ large_by end first k at n rest h (read_by end first k (at + 1) (n / 128) rest (omega (arith, length_large n h)))
    ]

pub read_here : (input : List ℕ) (at n : ℕ) (rest : List ℕ) → drop at input ≡ groups n ++ rest → n < 2 ^ 28 → (number_at input at ≡ Ok (number n (at + length (groups n)))) × (drop (at + length (groups n)) input ≡ rest)
unfolding number_at
read_here input at n rest e h = (
  ap (number_by (length input) at 4 at) e ∙ read_by (length input) at 4 at n rest (length_four n h),
  sym (drop-drop (length (groups n)) at input) ∙ ap (drop (length (groups n))) e ∙ drop_at (groups n) rest (length (groups n)) refl,
)

-- ---- what was read is written again

-- the bytes begin with a number
pub record Begins (bs : List ℕ) (at : ℕ) (n : Number) : Type 0 where
  pub rest : List ℕ
  pub split : bs ≡ groups n.value ++ rest
  pub next_is : n.next ≡ at + length (groups n.value)

begins_one : (b at : ℕ) (bs : List ℕ) (n : Number) → b < 128 → number b (at + 1) ≡ n → Begins (b ∷ bs) at n
begins_one b at bs n h e = subst (λ (m : Number). Begins (b ∷ bs) at m) e (record {
  rest = bs;
  split = ap (λ (g : List ℕ). g ++ bs) (sym (groups_small b h));
  next_is = ap (λ (l : ℕ). at + l) (sym (length_small b h));
})

begins_more : (b at : ℕ) (bs : List ℕ) (m n : Number) → 128 ≤ b → b < 256 → (m.value ≡ 0 → ⊥) → Begins bs (at + 1) m → number (b % 128 + 128 * m.value) m.next ≡ n → Begins (b ∷ bs) at n
begins_more b at bs m n high byte some r e = subst (λ (z : Number). Begins (b ∷ bs) at z) e (
    let v = b % 128 + 128 * m.value in
    let big : 128 ≤ b % 128 + 128 * m.value = omega arith in
    let half : (b % 128 + 128 * m.value) / 128 ≡ m.value = omega arith in
    let low : 128 + (b % 128 + 128 * m.value) % 128 ≡ b = omega arith in
    let g : groups (b % 128 + 128 * m.value) ≡ b ∷ groups m.value = groups_large (b % 128 + 128 * m.value) big ∙ rw (half, low) in
    record {
      rest = r.rest;
      split = ap (λ (s : List ℕ). b ∷ s) r.split ∙ ap (λ (s : List ℕ). s ++ r.rest) (sym g);
      next_is = omega (arith, r.next_is, ap length g);
    })

written_by : (end first k at : ℕ) (bs : List ℕ) (n : Number) → Bytes bs → number_by end first k at bs ≡ Ok n → Begins bs at n
written_by end first zero at bs n h e = no_err (fault TooLong first) n e
written_by end first (suc k) at [] n h e = no_err (fault Ended end) n e
written_by end first (suc k) at (b ∷ bs) n h e =
    elim (cases_Bool (ltb b 128)) [
      | inl t ↦ begins_one b at bs n (ltb-true b 128 t) (ok_same (number b (at + 1)) n (sym (cond-true (ltb b 128) _ _ t) ∙ e))
      | inr t ↦
          let a = and_then_ok (number_by end first k (at + 1) bs) _ n (sym (cond-false (ltb b 128) _ _ t) ∙ e) in
          let m : Number = a.0 in
          let v : Number = number (b % 128 + 128 * m.value) m.next in
          let u = unless_ok (not (eqb m.value 0)) Padded first (Ok v) n a.2 in
          begins_more b at bs m n (ltb-false b 128 t) (h 0) (eqb-false m.value 0 (not-true (eqb m.value 0) u.0))
          (written_by end first k (at + 1) bs m (λ j. h (suc j)) a.1)
          (ok_same v n u.1)
    ]

-- the bytes from an offset on begin with the number that was read there, and the next offset is after it
pub written_here : (input : List ℕ) (at : ℕ) (n : Number) → Bytes input → number_at input at ≡ Ok n → drop at input ≡ groups n.value ++ drop n.next input
unfolding number_at
written_here input at n h e =
    let b = written_by (length input) at 4 at (drop at input) n (λ k. rw (get_or-drop) (h (at + k))) e in
    let past : drop n.next input ≡ b.rest =
    ap (λ (k : ℕ). drop k input) b.next_is ∙ sym (drop-drop (length (groups n.value)) at input) ∙ ap (drop (length (groups n.value))) b.split ∙ drop_at (groups n.value) b.rest (length (groups n.value)) refl in
    b.split ∙ ap (λ (s : List ℕ). groups n.value ++ s) (sym past)
