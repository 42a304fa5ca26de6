-- The triple at a place of a walk, child by child.
use Rattle.std.proofs.Common.{◌≡◌, ℕ, zero, suc, ◌+◌, ◌-◌, ◌%◌, ◌<◌, ◌≤◌, Bool, true, false, cond, not, eqb, ltb, ◌⊎◌, List, [], ◌∷◌, ◌++◌, reverse, length, Some, None, filter, Option, sym, refl, ap, ◌∙◌, inl, inr, arith}
use mathlib.Core.List.{reverse_aux}
use Rattle.std.specs.List.{slice_get}
use Rattle.std.proofs.lemmas.List.Elements.{filter-append}
use Rattle.std.proofs.lemmas.List.{append_assoc, append-nil, reverse-append, reverse-reverse, length-reverse}
use Rattle.std.proofs.lemmas.Bool.{cases_lt, lt-ltb, le-ltb}
use Rattle.walk.specs.declared.sizes.Triple.{Triple}
use Rattle.walk.specs.declared.sizes.Grid.{Grid}
use Rattle.walk.specs.declared.cubes.Cube.{Cube}
use Rattle.walk.specs.declared.place.Turn.{Turn}
use Rattle.walk.specs.declared.place.Turn.TheVariants.{Forward, Backward}
use Rattle.walk.specs.Walks.{walk, in_turn, children_of}
use Rattle.walk.specs.Steps.{within, walked, size_at, size_of, turn_of, StandAt}
use Rattle.walk.proofs.Grids.{length_walked}

kept_reverse_aux : {X : Type 0} (p : X → Bool) (xs ys : List X) → filter p (reverse_aux xs ys) ≡ reverse_aux (filter p xs) (filter p ys)
kept_reverse_aux p [] ys = refl
kept_reverse_aux p (x ∷ xs) ys = kept_reverse_aux p xs (x ∷ ys) ∙ step p x (filter p xs) (filter p ys) (p x)
  where
    step : {X : Type 0} (p : X → Bool) (x : X) (ks ls : List X) (b : Bool) → reverse_aux ks (cond b (x ∷ ls) ls) ≡ reverse_aux (cond b (x ∷ ks) ks) ls
    step p x ks ls true = refl
    step p x ks ls false = refl

-- what is kept of a list read from its end
kept_reverse : {X : Type 0} (p : X → Bool) (xs : List X) → filter p (reverse xs) ≡ reverse (filter p xs)
kept_reverse p xs = kept_reverse_aux p xs []

-- what is kept of lists by turns
kept_turns : (p : Triple → Bool) (f b : Triple → List Triple) (a r : Triple → List Triple) → ((t : Triple) → filter p (f t) ≡ a t) → ((t : Triple) → filter p (b t) ≡ r t) → (ts : List Triple) → filter p (in_turn f b ts) ≡ in_turn a r ts
kept_turns p f b a r hf hb [] = refl
kept_turns p f b a r hf hb (t ∷ ts) = filter-append p (f t) (in_turn b f ts) ∙ rw (hf t, kept_turns p b f r a hb hf ts)

module _ (g : Grid) where
  -- the backward walk
  abbrev pub back : ℕ → Triple → List Triple
  back h t = reverse (walked g h t)

  walked_suc : (h : ℕ) (t : Triple) → walked g (suc h) t ≡ in_turn (walked g h) (back h) (children_of t)
  unfolding walk
  walked_suc h t =
      kept_turns (within g) (walk h) (λ c. reverse (walk h c)) (walked g h) (back h)
      (λ c. refl) (λ c. kept_reverse (within g) (walk h c)) (children_of t)

-- eight lists by turns, read from the end: the eight in the other order, again by turns
mirrored : (f : Triple → List Triple) (a b c d e k l m : Triple) → reverse (in_turn f (λ t. reverse (f t)) (a ∷ b ∷ c ∷ d ∷ e ∷ k ∷ l ∷ m ∷ [])) ≡ in_turn f (λ t. reverse (f t)) (m ∷ l ∷ k ∷ e ∷ d ∷ c ∷ b ∷ a ∷ [])
mirrored f a b c d e k l m = simp (reverse-append, reverse-reverse, append_assoc, append-nil)

pub back_suc : (g : Grid) (h : ℕ) (t : Triple) → back g (suc h) t ≡ in_turn (walked g h) (back g h) (reverse (children_of t))
back_suc g h t = ap reverse (walked_suc g h t) ∙ mirrored (walked g h) _ _ _ _ _ _ _ _

nth_left : {X : Type 0} (xs ys : List X) (n : ℕ) → n < length xs → slice_get (xs ++ ys) n ≡ slice_get xs n
nth_left [] ys n h = absurd (omega arith)
nth_left (x ∷ xs) ys zero h = refl
nth_left (x ∷ xs) ys (suc n) h = nth_left xs ys n (omega arith)

nth_right : {X : Type 0} (xs ys : List X) (n : ℕ) → slice_get (xs ++ ys) (length xs + n) ≡ slice_get ys n
nth_right [] ys n = let e : 0 + n ≡ n = omega arith in ap (slice_get ys) e
nth_right (x ∷ xs) ys n = let e : suc (length xs) + n ≡ suc (length xs + n) = omega arith in ap (slice_get (x ∷ (xs ++ ys))) e ∙ nth_right xs ys n

-- the triple that a turn leads to
abbrev pub answer : Grid → Option Turn → Option Triple
answer g None = None
answer g (Some (Forward c n)) = slice_get (walked g c.height c.at) n
answer g (Some (Backward c n)) = slice_get (back g c.height c.at) n

-- one list further
further : (g : Grid) (xs ys : List Triple) (n m : ℕ) (here there : Option Turn) → length xs ≡ m → slice_get xs n ≡ answer g here → slice_get ys (n - m) ≡ answer g there → slice_get (xs ++ ys) n ≡ answer g (cond (ltb n m) here there)
further g xs ys n m here there e h r = by (cases_lt n m)
  where
    by : (n < m) ⊎ (m ≤ n) → slice_get (xs ++ ys) n ≡ answer g (cond (ltb n m) here there)
    by (inl l) = rw (lt-ltb n m l) (nth_left xs ys n (omega arith) ∙ h)
    by (inr l) =
        let split : n ≡ length xs + (n - m) = omega arith in
        rw (le-ltb n m l) (ap (slice_get (xs ++ ys)) split ∙ nth_right xs ys (n - m) ∙ r)

-- from here on a height is one more than another
module _ (g : Grid) (h k : ℕ) (up : h ≡ suc k) where
  module _ (t : Triple) (c : Cube) (at : c.at ≡ t) (low : c.height + 1 ≡ h) where
    same : c.height ≡ k
    same = omega arith

    ahead_here : (n : ℕ) → slice_get (walked g k t) n ≡ answer g (Some (Forward c n))
    ahead_here n = let e = same in rw (e, at)

    back_here : (n : ℕ) → slice_get (back g k t) n ≡ answer g (Some (Backward c n))
    back_here n = let e = same in rw (e, at)

    long : length (walked g k t) ≡ size_of g c
    long = let e = same in length_walked g k t ∙ rw (e, at)

    long_back : length (back g k t) ≡ size_of g c
    long_back = length-reverse (walked g k t) ∙ long

  pub turn_leads : (ahead : Bool) (ts : List Triple) (cs : List Cube) (n : ℕ) → StandAt h ts cs → slice_get (in_turn (cond ahead (walked g k) (back g k)) (cond ahead (back g k) (walked g k)) ts) n ≡ answer g (turn_of (size_of g) ahead cs n)
  turn_leads true [] [] n s = refl
  turn_leads false [] [] n s = refl
  turn_leads ahead [] (c ∷ cs) n s = absurd s
  turn_leads ahead (t ∷ ts) [] n s = absurd s
  turn_leads true (t ∷ ts) (c ∷ cs) n (at, (low, s)) =
      further g (walked g k t) (in_turn (back g k) (walked g k) ts) n (size_of g c) (Some (Forward c n)) (turn_of (size_of g) false cs (n - size_of g c))
      (long t c at low) (ahead_here t c at low n) (turn_leads false ts cs (n - size_of g c) s)
  turn_leads false (t ∷ ts) (c ∷ cs) n (at, (low, s)) =
      further g (back g k t) (in_turn (walked g k) (back g k) ts) n (size_of g c) (Some (Backward c n)) (turn_of (size_of g) true cs (n - size_of g c))
      (long_back t c at low) (back_here t c at low n) (turn_leads true ts cs (n - size_of g c) s)

  pub forward_turn : (t : Triple) (cs : List Cube) (n : ℕ) → StandAt h (children_of t) cs → slice_get (walked g h t) n ≡ answer g (turn_of (size_of g) true cs n)
  forward_turn t cs n s =
      ap (λ x. slice_get (walked g x t) n) up
      ∙ ap (λ xs. slice_get xs n) (walked_suc g k t)
      ∙ turn_leads true (children_of t) cs n s

  pub backward_turn : (t : Triple) (cs : List Cube) (n : ℕ) → StandAt h (reverse (children_of t)) cs → slice_get (back g h t) n ≡ answer g (turn_of (size_of g) true cs n)
  backward_turn t cs n s =
      ap (λ x. slice_get (back g x t) n) up
      ∙ ap (λ xs. slice_get xs n) (back_suc g k t)
      ∙ turn_leads true (reverse (children_of t)) cs n s

stand_reverse_aux : (h : ℕ) (ts us : List Triple) (cs ds : List Cube) → StandAt h ts cs → StandAt h us ds → StandAt h (reverse_aux ts us) (reverse_aux cs ds)
stand_reverse_aux h [] us [] ds s r = r
stand_reverse_aux h [] us (c ∷ cs) ds s r = absurd s
stand_reverse_aux h (t ∷ ts) us [] ds s r = absurd s
stand_reverse_aux h (t ∷ ts) us (c ∷ cs) ds (at, (low, s)) r = stand_reverse_aux h ts (t ∷ us) cs (c ∷ ds) s (at, (low, r))

-- cubes read from the end stand at the triples read from the end
pub stand_reverse : (h : ℕ) (ts : List Triple) (cs : List Cube) → StandAt h ts cs → StandAt h (reverse ts) (reverse cs)
stand_reverse h ts cs s = stand_reverse_aux h ts [] cs [] s tt

-- a turn leads one lower
abbrev pub Lower : ℕ → Option Turn → Type 0
Lower h None = Unit {0}
Lower h (Some (Forward c n)) = c.height + 1 ≡ h
Lower h (Some (Backward c n)) = c.height + 1 ≡ h

lower_one : (h : ℕ) (b ahead : Bool) (c : Cube) (n : ℕ) (there : Option Turn) → c.height + 1 ≡ h → Lower h there → Lower h (cond b (Some (cond ahead (Forward c n) (Backward c n))) there)
lower_one h true true c n there p q = p
lower_one h true false c n there p q = p
lower_one h false ahead c n there p q = q

pub lower : (size : Cube → ℕ) (h : ℕ) (ahead : Bool) (ts : List Triple) (cs : List Cube) (n : ℕ) → StandAt h ts cs → Lower h (turn_of size ahead cs n)
lower size h ahead ts [] n s = tt
lower size h ahead [] (c ∷ cs) n s = absurd s
lower size h ahead (t ∷ ts) (c ∷ cs) n (at, (low, s)) =
    lower_one h (ltb n (size c)) ahead c n (turn_of size (not ahead) cs (n - size c)) low (lower size h (not ahead) ts cs (n - size c) s)

-- the cubes in even places are walked forward
abbrev pub even : ℕ → Bool
even i = eqb (i % 2) 0

-- Forward and backward at a height above 0: the turn that they take leads to their triple, and one lower.
module _ (g : Grid) (h : ℕ) (up : 0 < h) (t : Triple) (cs : List Cube) (n : ℕ) (o : Option Turn) (is : o ≡ turn_of (size_of g) true cs n) where
  pub forward_leads : StandAt h (children_of t) cs → (r : Option Triple) → r ≡ answer g o → r ≡ slice_get (walked g h t) n
  forward_leads s r e = e ∙ ap (answer g) is ∙ sym (forward_turn g h (h - 1) (omega arith) t cs n s)

  pub backward_leads : StandAt h (reverse (children_of t)) cs → (r : Option Triple) → r ≡ answer g o → r ≡ slice_get (back g h t) n
  backward_leads s r e = e ∙ ap (answer g) is ∙ sym (backward_turn g h (h - 1) (omega arith) t cs n s)

  pub falls : (ts : List Triple) → StandAt h ts cs → Lower h o
  falls ts s = rw is (lower (size_of g) h true ts cs n s)

-- the walk of one triple
module _ (t : Triple) (m n : ℕ) where
  single : (b : Bool) → length (cond b (t ∷ []) []) ≡ m → slice_get (cond b (t ∷ []) []) n ≡ cond (ltb n m) (Some t) None
  single b e = by b n e
    where
      by : (b : Bool) (i : ℕ) → length (cond b (t ∷ []) []) ≡ m → slice_get (cond b (t ∷ []) []) i ≡ cond (ltb i m) (Some t) None
      by true zero e = rw (← e)
      by true (suc i) e = let o : m ≤ suc i = omega arith in rw (le-ltb (suc i) m o)
      by false i e = let o : m ≤ i = omega arith in rw (le-ltb i m o)

  single_back : (b : Bool) → reverse (cond b (t ∷ []) []) ≡ cond b (t ∷ []) []
  single_back true = refl
  single_back false = refl

pub forward_one : (g : Grid) (h : ℕ) (t : Triple) (n : ℕ) → h ≡ 0 → slice_get (walked g h t) n ≡ cond (ltb n (size_at g h t)) (Some t) None
unfolding walk
forward_one g h t n z = rw z (single t (size_at g 0 t) n (within g t) (length_walked g 0 t))

pub backward_one : (g : Grid) (h : ℕ) (t : Triple) (n : ℕ) → h ≡ 0 → slice_get (back g h t) n ≡ cond (ltb n (size_at g h t)) (Some t) None
unfolding walk
backward_one g h t n z =
    rw z (ap (λ xs. slice_get xs n) (single_back t 0 n (within g t)) ∙ single t (size_at g 0 t) n (within g t) (length_walked g 0 t))
