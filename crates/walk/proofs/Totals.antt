-- Sums over a walk: for any three functions, the sum of the products of u(row), v(column) and w(middle)
-- over the walk of a cube is the product of three sums over ranges.
use Rattle.std.proofs.Common.{◌≡◌, ℕ, zero, suc, ◌+◌, ◌*◌, Bool, true, false, cond, List, [], ◌∷◌, reverse, sum_by, filter, sym, refl, ◌∙◌, arith}
use mathlib.Core.List.{reverse_aux}
use Rattle.std.proofs.lemmas.List.Sums.{sum_by-cons, sum_by-append}
use Rattle.walk.specs.declared.sizes.Triple.{Triple}
use Rattle.walk.specs.Walks.{walk, in_turn, children_of}

-- the sum of u over the 2^g numbers from x × 2^g on
pub over : (ℕ → ℕ) → ℕ → ℕ → ℕ
over u zero x = u x
over u (suc g) x = over u g (2 * x + 0) + over u g (2 * x + 1)

pub over_zero : (u : ℕ → ℕ) (x : ℕ) → over u zero x ≡ u x
unfolding over
over_zero u x = refl

pub over_suc : (u : ℕ → ℕ) (g x : ℕ) → over u (suc g) x ≡ over u g (2 * x + 0) + over u g (2 * x + 1)
unfolding over
over_suc u g x = refl

abbrev pub weight : (ℕ → ℕ) → (ℕ → ℕ) → (ℕ → ℕ) → Triple → ℕ
weight u v w t = u t.row * v t.column * w t.middle

module _ {X : Type 0} (f : X → ℕ) where
  pub sum_by_same : (g : X → ℕ) → ((x : X) → f x ≡ g x) → (xs : List X) → sum_by f xs ≡ sum_by g xs
  sum_by_same g e [] = refl
  sum_by_same g e (x ∷ xs) = sum_by-cons f x xs ∙ let h = e x in let r = sum_by_same g e xs in omega (arith, sum_by-cons g x xs)

  sum_by_reverse_aux : (xs ys : List X) → sum_by f (reverse_aux xs ys) ≡ sum_by f xs + sum_by f ys
  sum_by_reverse_aux [] ys = omega arith
  sum_by_reverse_aux (x ∷ xs) ys =
      sum_by_reverse_aux xs (x ∷ ys) ∙ omega (arith, sum_by-cons f x ys, sum_by-cons f x xs)

  pub sum_by_reverse : (xs : List X) → sum_by f (reverse xs) ≡ sum_by f xs
  sum_by_reverse xs = sum_by_reverse_aux xs [] ∙ omega arith

  kept_step : (p : X → Bool) (x : X) (ks : List X) (n : ℕ) → sum_by f ks ≡ n → (b : Bool) → sum_by f (cond b (x ∷ ks) ks) ≡ cond b (f x) 0 + n
  kept_step p x ks n e true = omega (arith, sum_by-cons f x ks)
  kept_step p x ks n e false = omega arith

  -- what is not kept adds nothing
  pub sum_by_kept : (p : X → Bool) (xs : List X) → sum_by f (filter p xs) ≡ sum_by (λ x. cond (p x) (f x) 0) xs
  sum_by_kept p [] = refl
  sum_by_kept p (x ∷ xs) =
      kept_step p x (filter p xs) _ (sum_by_kept p xs) (p x) ∙ sym (sum_by-cons (λ y. cond (p y) (f y) 0) x xs)

-- the sum over the lists by turns, where both ways have the sum that s says
pub sum_by_turns : (f : Triple → ℕ) (a b : Triple → List Triple) (s : Triple → ℕ) → ((t : Triple) → sum_by f (a t) ≡ s t) → ((t : Triple) → sum_by f (b t) ≡ s t) → (ts : List Triple) → sum_by f (in_turn a b ts) ≡ sum_by s ts
sum_by_turns f a b s ha hb [] = refl
sum_by_turns f a b s ha hb (t ∷ ts) =
    let h = ha t in
    let r = sum_by_turns f b a s hb ha ts in
    omega (arith, sum_by-append f (a t) (in_turn b a ts), sum_by-cons s t ts)

pub total : (u v w : ℕ → ℕ) (g : ℕ) (t : Triple) → sum_by (weight u v w) (walk g t) ≡ over u g t.row * over v g t.column * over w g t.middle
unfolding walk over
total u v w zero t = omega arith
total u v w (suc g) t =
    sum_by_turns (weight u v w) (walk g) (λ c. reverse (walk g c))
    (λ c. over u g c.row * over v g c.column * over w g c.middle)
    (total u v w g)
    (λ c. sum_by_reverse (weight u v w) (walk g c) ∙ total u v w g c)
    (children_of t)
    ∙ omega arith
