-- The row and the column of a Morton index: the laws of the children, and what the calls of gather answer.
use Rattle.std.proofs.Common.{◌≡◌, ℕ, zero, suc, ◌+◌, ◌*◌, ◌/◌, ◌%◌, ◌^◌, ◌<◌, true, is_ok, Ok, Result, sym, refl, ap, ◌∙◌, arith}
use lib.Bits.{bit_and}
use lib.Pow.{mod-mod-pow, field}
use Rattle.std.proofs.lemmas.Bool.{eq-eqb}
use Rattle.fields.specs.Fields.{gather, gather_over}
use Rattle.fields.proofs.Fields.{spread_gather, spread_inside, gather_spread, gather_below, gather_even, gather_odd}
use Rattle.fields.proofs.Spreads as over
use Rattle.masked.specs.Fields.{gather_answer}
use Rattle.masked.specs.declared.refusal.Refusal.{Refusal}
use Rattle.quadtree.specs.Places.{ChildRows, ChildColumns}

-- gather asks nothing of the bits outside the mask
inside : (v m : ℕ) → m < 2 ^ 32 → bit_and (bit_and v m) m ≡ bit_and v m
inside v m h = let e = spread_gather v m h in let i = spread_inside (gather v m) m in cc

gather_inside : (v m : ℕ) → m < 2 ^ 32 → gather (bit_and v m) m ≡ gather v m
gather_inside v m h = ap (λ (x : ℕ). gather x m) (sym (spread_gather v m h)) ∙ gather_spread (gather v m) m h (gather_below v m h)

module _ (v m : ℕ) (h : m < 2 ^ 32) (r : Result ℕ Refusal) (e : r ≡ gather_answer (bit_and v m) m) where
  answered : r ≡ Ok (gather v m)
  answered = e ∙ rw (eq-eqb (bit_and (bit_and v m) m) (bit_and v m) (inside v m h)) (ap Ok (gather_inside v m h))

  pub accepted : is_ok r ≡ true
  accepted = ap is_ok answered

  pub told : (x : ℕ) → r ≡ Ok x → x ≡ gather v m
  told x p = let a = answered in cc

-- a number below 2^k has nothing to gather at position k
gather_short : (k v m : ℕ) → v < 2 ^ k → gather_over (suc k) v m ≡ gather_over k v m
gather_short zero v m h =
    let z : v ≡ 0 = omega arith in
    over.by_parity m
    (λ p. rw (over.gather_even 0 v m p, over.gather_none (v / 2) (m / 2), over.gather_none v m))
    (λ p. rw (over.gather_odd 0 v m p, over.gather_none (v / 2) (m / 2), over.gather_none v m, z))
gather_short (suc k) v m h =
    let r = gather_short k (v / 2) (m / 2) (over.half_below k v h) in
    over.by_parity m
    (λ p. rw (over.gather_even (suc k) v m p, r, over.gather_even k v m p))
    (λ p. rw (over.gather_odd (suc k) v m p, r, over.gather_odd k v m p))

gather_low : (v m : ℕ) → v < 2 ^ 30 → gather v m ≡ gather_over 30 v m
unfolding gather
gather_low v m h = gather_short 31 v m (omega arith) ∙ gather_short 30 v m h

-- masks of the same k lowest bits gather the same from the k lowest positions
gather_same : (k v a b : ℕ) → a % 2 ^ k ≡ b % 2 ^ k → gather_over k v a ≡ gather_over k v b
gather_same zero v a b h = rw (over.gather_none v a, over.gather_none v b)
gather_same (suc k) v a b h =
    let e : suc k ≡ k + 1 = omega arith in
    let h' : a % 2 ^ (k + 1) ≡ b % 2 ^ (k + 1) = rw e at h in
    let low : a % 2 ≡ b % 2 = sym (mod-mod-pow a k 1) ∙ ap (λ (x : ℕ). x % 2) h' ∙ mod-mod-pow b k 1 in
    let half : a / 2 % 2 ^ k ≡ b / 2 % 2 ^ k = sym (field a k 1) ∙ ap (λ (x : ℕ). x / 2) h' ∙ field b k 1 in
    let r = gather_same k (v / 2) (a / 2) (b / 2) half in
    over.by_parity a
    (λ p. rw (over.gather_even k v a p, over.gather_even k v b (sym low ∙ p), r))
    (λ p. rw (over.gather_odd k v a p, over.gather_odd k v b (sym low ∙ p), r))

-- so below 2^30 only the 30 lowest bits of a mask matter
gather_either : (v a b : ℕ) → v < 2 ^ 30 → a % 2 ^ 30 ≡ b % 2 ^ 30 → gather v a ≡ gather v b
gather_either v a b h e = gather_low v a h ∙ gather_same 30 v a b e ∙ sym (gather_low v b h)

pub rows : ChildRows
rows = record {
  child = λ m p q h i j.
      let half : (4 * m + 2 * p + q) / 2 ≡ 2 * m + p = omega arith in
      let quarter : (2 * m + p) / 2 ≡ m = omega arith in
      let bit : (2 * m + p) % 2 ≡ p = omega arith in
      let low : m < 2 ^ 30 = omega arith in
      let one = gather_even (4 * m + 2 * p + q) 0xaaaa_aaaa (omega arith) refl in
      let two = gather_odd (2 * m + p) 0x5555_5555 (omega arith) refl in
      rw (one, half, two, quarter, bit, gather_either m 0x2aaa_aaaa 0xaaaa_aaaa low refl);
}

pub columns : ChildColumns
columns = record {
  child = λ m p q h i j.
      let half : (4 * m + 2 * p + q) / 2 ≡ 2 * m + p = omega arith in
      let quarter : (2 * m + p) / 2 ≡ m = omega arith in
      let bit : (4 * m + 2 * p + q) % 2 ≡ q = omega arith in
      let low : m < 2 ^ 30 = omega arith in
      let one = gather_odd (4 * m + 2 * p + q) 0x5555_5555 (omega arith) refl in
      let two = gather_even (2 * m + p) 0x2aaa_aaaa (omega arith) refl in
      rw (one, half, bit, two, quarter, gather_either m 0x1555_5555 0x5555_5555 low refl);
}
