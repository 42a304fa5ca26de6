-- The reflected walk has each triple that begins inside exactly once, and no other.
use Rattle.std.proofs.Common.{◌≡◌, ℕ, zero, suc, ◌+◌, ◌*◌, ◌^◌, ◌<◌, ◌≤◌, Bool, true, false, cond, eqb, ltb, leb, ◌⊎◌, count_by, sym, refl, ◌∙◌, inl, inr, pow-suc, arith}
use Rattle.std.proofs.lemmas.Nat.{mul-le}
use Rattle.std.proofs.lemmas.Bool.{cases_lt, cases_eq, eq-eqb, ne_eqb, lt-ltb, le-ltb, le-leb}
use Rattle.std.proofs.lemmas.Bool.Decides.{nat_tests}
use Rattle.walk.specs.declared.sizes.Triple.{Triple}
use Rattle.walk.specs.declared.sizes.Sizes.{Sizes}
use Rattle.walk.specs.Walks.{walk, inside, least_height, height_of, reflected, triple, same, Walks}
use Rattle.walk.proofs.Totals.{over, over_zero, over_suc, weight, total, sum_by_same, sum_by_kept}
use Rattle.walk.proofs.Grids.{least_law, covers, three}

-- k at a, and 0 elsewhere
abbrev pub only : ℕ → ℕ → ℕ → ℕ
only a k x = cond (eqb a x) k 0

-- 1 where the tile a of size T begins below n, and 0 elsewhere
abbrev begins : ℕ → ℕ → ℕ → ℕ
begins T n a = cond (ltb (a * T) n) 1 0

-- the two halves of a range
halves : (a k z P : ℕ) → cond (leb z a) (cond (ltb a (z + P)) k 0) 0 + cond (leb (z + P) a) (cond (ltb a (z + P + P)) k 0) 0 ≡ cond (leb z a) (cond (ltb a (z + P * 2)) k 0) 0
halves a k z P = grind (arith, nat_tests)

pub over_only : (a k g x : ℕ) → over (only a k) g x ≡ cond (leb (x * 2 ^ g) a) (cond (ltb a (x * 2 ^ g + 2 ^ g)) k 0) 0
over_only a k zero x = over_zero (only a k) x ∙ grind (arith, nat_tests)
over_only a k (suc g) x =
    let l = over_only a k g (2 * x + 0) in
    let r = over_only a k g (2 * x + 1) in
    let first : (2 * x + 0) * 2 ^ g ≡ x * (2 ^ g * 2) = omega arith in
    let second : (2 * x + 1) * 2 ^ g ≡ x * (2 ^ g * 2) + 2 ^ g = omega arith in
    over_suc (only a k) g x ∙ rw (l, r, pow-suc 2 g, first, second) (halves a k (x * (2 ^ g * 2)) (2 ^ g))

-- a number of the first 2^g is there; past them none begins inside
first_range : (a n T g : ℕ) → n ≤ T * 2 ^ g → over (only a (begins T n a)) g 0 ≡ begins T n a
first_range a n T g h = over_only a (begins T n a) g 0 ∙ rw (le-leb (0 * 2 ^ g) a (omega arith)) (by (cases_lt a (2 ^ g)))
  where
    by : (a < 2 ^ g) ⊎ (2 ^ g ≤ a) → cond (ltb a (0 * 2 ^ g + 2 ^ g)) (begins T n a) 0 ≡ begins T n a
    by (inl l) = rw (lt-ltb a (0 * 2 ^ g + 2 ^ g) (omega arith))
    by (inr l) =
        let m = mul-le (2 ^ g) T a T l (omega arith) in
        rw (le-ltb (a * T) n (omega arith), le-ltb a (0 * 2 ^ g + 2 ^ g) (omega arith))

two : (a b : Bool) → cond a (cond b 1 0) 0 ≡ cond a 1 0 * cond b 1 0
two true true = refl
two true false = refl
two false true = refl
two false false = refl

-- where the numbers are equal, the one begins inside as the other does
moved : (a x T n : ℕ) → begins T n x * cond (eqb a x) 1 0 ≡ only a (begins T n a) x
moved a x T n = by (cases_eq a x)
  where
    by : (a ≡ x) ⊎ (a ≡ x → ⊥) → begins T n x * cond (eqb a x) 1 0 ≡ only a (begins T n a) x
    by (inl e) = rw (eq-eqb a x e, e) (omega arith)
    by (inr e) = rw (ne_eqb a x e) (omega arith)

module _ (s : Sizes) (t : Triple) where
  here : ℕ → ℕ → ℕ → ℕ
  here n a x = only a (begins (2 ^ s.order) n a) x

  at_each : (x : Triple) → cond (inside s x) (cond (same t x) 1 0) 0 ≡ weight (here s.rows t.row) (here s.columns t.column) (here s.middle t.middle) x
  unfolding inside here
  at_each x =
      let T = 2 ^ s.order in
      let a = moved t.row x.row T s.rows in
      let b = moved t.column x.column T s.columns in
      let c = moved t.middle x.middle T s.middle in
      two (inside s x) (same t x)
      ∙ rw (three (ltb (x.row * T) s.rows) (ltb (x.column * T) s.columns) (ltb (x.middle * T) s.middle), three (eqb t.row x.row) (eqb t.column x.column) (eqb t.middle x.middle), ← a, ← b, ← c) (omega arith)

  pub once : count_by (same t) (reflected s) ≡ cond (inside s t) 1 0
  unfolding reflected inside here height_of
  once =
      let T = 2 ^ s.order in
      let ws = walk (height_of s) (triple 0 0 0) in
      let l = least_law s in
      sum_by_kept (λ x. cond (same t x) 1 0) (inside s) ws
      ∙ sum_by_same (λ x. cond (inside s x) (cond (same t x) 1 0) 0) (weight (here s.rows t.row) (here s.columns t.column) (here s.middle t.middle)) at_each ws
      ∙ total (here s.rows t.row) (here s.columns t.column) (here s.middle t.middle) (height_of s) (triple 0 0 0)
      ∙ rw (first_range t.row s.rows T (height_of s) (covers s.rows (least_height s) s.order l.rows), first_range t.column s.columns T (height_of s) (covers s.columns (least_height s) s.order l.columns), first_range t.middle s.middle T (height_of s) (covers s.middle (least_height s) s.order l.middle))
      (sym (three (ltb (t.row * T) s.rows) (ltb (t.column * T) s.columns) (ltb (t.middle * T) s.middle)))

pub reflected_walks : (s : Sizes) → Walks s (reflected s)
reflected_walks s t = once s t
