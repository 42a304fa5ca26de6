-- The cells that no entry has are the span less the entries: each cell is counted by the entries that have it, of which there is at most one,
-- and the two sums are taken in the other order, where each entry counts once.
use Rattle.std.proofs.Common.{◌≡◌, ℕ, zero, suc, ◌+◌, ◌*◌, ◌<◌, ◌≤◌, Bool, true, false, cond, eqb, sym, refl, ap, ◌∙◌, inl, inr, suc-mul, zero-mul, mul-one, arith}
use Rattle.std.proofs.lemmas.Bool.{cases_eq, cases_Bool, or_cases, or_left, or_right, eqb-true, eq-eqb, ne_eqb, cond-true, cond-false, both_ways}
use Rattle.placement.specs.Cells.{sum_below, any_below, owned, idle_cells, idle_of}
use Rattle.placement.specs.Sites.{Site, Lawful}

-- every entry's cell is below the span
abbrev pub Within : (rows columns span : ℕ) (cell : ℕ → ℕ → ℕ) → Type 0
Within rows columns span cell = (i j : ℕ) → i < rows → j < columns → cell i j < span

-- no two entries have one cell
abbrev pub Apart : (rows columns : ℕ) (cell : ℕ → ℕ → ℕ) → Type 0
Apart rows columns cell = (i j k l : ℕ) → i < rows → j < columns → k < rows → l < columns → cell i j ≡ cell k l → (i ≡ k) × (j ≡ l)

-- where every cell is below the span and no two entries have one cell, the entries are no more than the span, and the
-- cells that no entry has are those that are left
abbrev pub IdleCount : Type 0
IdleCount =
    (rows columns span : ℕ) (cell : ℕ → ℕ → ℕ) → Within rows columns span cell → Apart rows columns cell
    → (rows * columns ≤ span) × (idle_cells rows columns span cell + rows * columns ≡ span)

-- ---- some number below n passes

pub any_means : (n : ℕ) (p : ℕ → Bool) → any_below n p ≡ true → (k : ℕ) × (k < n) × (p k ≡ true)
any_means zero p e = absurd (both_ways false refl e)
any_means (suc n) p e =
    elim (or_cases (any_below n p) (p n) e) [
      | inl h ↦ let r : (k : ℕ) × (k < n) × (p k ≡ true) = any_means n p h in (r.0, omega (arith, r.1), r.2)
      | inr h ↦ (n, omega arith, h)
    ]

pub any_from : (n : ℕ) (p : ℕ → Bool) (k : ℕ) → k < n → p k ≡ true → any_below n p ≡ true
any_from zero p k lt e = let no : ⊥ = omega arith in absurd no
any_from (suc n) p k lt e =
    elim (cases_eq k n) [
      | inl h ↦ or_right (any_below n p) (p n) (sym (ap p h) ∙ e)
      | inr h ↦ or_left (any_below n p) (p n) (any_from n p k (omega arith) e)
    ]

-- ---- some entry has the cell

pub owned_means : (rows columns : ℕ) (cell : ℕ → ℕ → ℕ) (a : ℕ) → owned rows columns cell a ≡ true → (i : ℕ) × (j : ℕ) × (i < rows) × (j < columns) × (cell i j ≡ a)
unfolding owned
owned_means rows columns cell a e =
    let r : (i : ℕ) × (i < rows) × (any_below columns (λ j. eqb (cell i j) a) ≡ true) = any_means rows (λ i. any_below columns (λ j. eqb (cell i j) a)) e in
    let s : (j : ℕ) × (j < columns) × (eqb (cell r.0 j) a ≡ true) = any_means columns (λ j. eqb (cell r.0 j) a) r.2 in
    (r.0, s.0, r.1, s.1, eqb-true (cell r.0 s.0) a s.2)

pub owned_from : (rows columns : ℕ) (cell : ℕ → ℕ → ℕ) (a i j : ℕ) → i < rows → j < columns → cell i j ≡ a → owned rows columns cell a ≡ true
unfolding owned
owned_from rows columns cell a i j hi hj e =
    any_from rows (λ k. any_below columns (λ l. eqb (cell k l) a)) i hi
    (any_from columns (λ l. eqb (cell i l) a) j hj (eq-eqb (cell i j) a e))

-- ---- sums

pub sum_cong : (n : ℕ) (f g : ℕ → ℕ) → ((k : ℕ) → k < n → f k ≡ g k) → sum_below n f ≡ sum_below n g
sum_cong zero f g h = refl
sum_cong (suc n) f g h = omega (arith, sum_cong n f g (λ k l. h k (omega arith)), h n (omega arith))

-- Each number below n has the same value.
pub sum_same : (n c : ℕ) (f : ℕ → ℕ) → ((k : ℕ) → k < n → f k ≡ c) → sum_below n f ≡ n * c
sum_same zero c f h = sym (zero-mul c)
sum_same (suc n) c f h = omega (arith, sum_same n c f (λ k l. h k (omega arith)), h n (omega arith), suc-mul n c)

pub sum_zero : (n : ℕ) (f : ℕ → ℕ) → ((k : ℕ) → k < n → f k ≡ 0) → sum_below n f ≡ 0
sum_zero zero f h = refl
sum_zero (suc n) f h = omega (arith, sum_zero n f (λ k l. h k (omega arith)), h n (omega arith))

pub sum_add : (n : ℕ) (f g : ℕ → ℕ) → sum_below n (λ k. f k + g k) ≡ sum_below n f + sum_below n g
sum_add zero f g = refl
sum_add (suc n) f g = omega (arith, sum_add n f g)

-- The order of two sums may be changed.
pub sum_swap : (m n : ℕ) (f : ℕ → ℕ → ℕ) → sum_below m (λ i. sum_below n (λ j. f i j)) ≡ sum_below n (λ j. sum_below m (λ i. f i j))
sum_swap zero n f = sym (sum_zero n (λ j. 0) (λ j l. refl))
sum_swap (suc m) n f = omega (arith, sum_swap m n f, sum_add n (λ j. sum_below m (λ i. f i j)) (λ j. f m j))

-- One number below n has the value 1, and each other 0.
pub sum_one : (n : ℕ) (f : ℕ → ℕ) (k : ℕ) → k < n → f k ≡ 1 → ((j : ℕ) → j < n → (j ≡ k → ⊥) → f j ≡ 0) → sum_below n f ≡ 1
sum_one zero f k lt one others = let no : ⊥ = omega arith in absurd no
sum_one (suc n) f k lt one others =
    elim (cases_eq k n) [
      | inl h ↦
          let top : f n ≡ 1 = sym (ap f h) ∙ one in
          let below : sum_below n f ≡ 0 = sum_zero n f (λ j l. others j (omega arith) (λ e. omega arith)) in
          omega arith
      | inr h ↦
          let top : f n ≡ 0 = others n (omega arith) (λ e. h (sym e)) in
          let below : sum_below n f ≡ 1 = sum_one n f k (omega arith) one (λ j l ne. others j (omega arith) ne) in
          omega arith
    ]

-- ---- the count

-- 1 where the two are equal, else 0.
abbrev hit : ℕ → ℕ → ℕ
hit x a = cond (eqb x a) 1 0

hit_same : (x a : ℕ) → x ≡ a → hit x a ≡ 1
hit_same x a e = cond-true (eqb x a) 1 0 (eq-eqb x a e)

hit_other : (x a : ℕ) → (x ≡ a → ⊥) → hit x a ≡ 0
hit_other x a ne = cond-false (eqb x a) 1 0 (ne_eqb x a ne)

-- How many entries have the cell a.
abbrev owners : (rows columns : ℕ) (cell : ℕ → ℕ → ℕ) → ℕ → ℕ
owners rows columns cell a = sum_below rows (λ i. sum_below columns (λ j. hit (cell i j) a))

module _ (rows columns : ℕ) (cell : ℕ → ℕ → ℕ) where
  -- At most one entry has it.
  owners_is : Apart rows columns cell → (a : ℕ) → owners rows columns cell a ≡ cond (owned rows columns cell a) 1 0
  owners_is apart a =
      elim (cases_Bool (owned rows columns cell a)) [
        | inl e ↦ one e ∙ sym (cond-true (owned rows columns cell a) 1 0 e)
        | inr e ↦ none e ∙ sym (cond-false (owned rows columns cell a) 1 0 e)
      ]
    where
      none : owned rows columns cell a ≡ false → owners rows columns cell a ≡ 0
      none e =
          sum_zero rows (λ i. sum_below columns (λ j. hit (cell i j) a))
          (λ i hi. sum_zero columns (λ j. hit (cell i j) a)
          (λ j hj. hit_other (cell i j) a (λ is. both_ways (owned rows columns cell a) e (owned_from rows columns cell a i j hi hj is))))

      one : owned rows columns cell a ≡ true → owners rows columns cell a ≡ 1
      one e =
          let at : (i : ℕ) × (j : ℕ) × (i < rows) × (j < columns) × (cell i j ≡ a) = owned_means rows columns cell a e in
          sum_one rows (λ i. sum_below columns (λ j. hit (cell i j) a)) at.0 at.2
          (sum_one columns (λ j. hit (cell at.0 j) a) at.1 at.3 (hit_same (cell at.0 at.1) a at.4)
          (λ j hj ne. hit_other (cell at.0 j) a (λ is. ne (apart at.0 j at.0 at.1 at.2 hj at.2 at.3 (is ∙ sym at.4)).1)))
          (λ i hi ne. sum_zero columns (λ j. hit (cell i j) a)
          (λ j hj. hit_other (cell i j) a (λ is. ne (apart i j at.0 at.1 hi hj at.2 at.3 (is ∙ sym at.4)).0)))

  -- Each entry has one cell below the span, so that the owners of all cells are the entries.
  all_owners : (span : ℕ) → Within rows columns span cell → sum_below span (owners rows columns cell) ≡ rows * columns
  all_owners span within =
      sum_swap span rows (λ a i. sum_below columns (λ j. hit (cell i j) a))
      ∙ sum_same rows columns (λ i. sum_below span (λ a. sum_below columns (λ j. hit (cell i j) a)))
      (λ i hi. sum_swap span columns (λ a j. hit (cell i j) a)
      ∙ sum_same columns 1 (λ j. sum_below span (λ a. hit (cell i j) a))
      (λ j hj. sum_one span (λ a. hit (cell i j) a) (cell i j) (within i j hi hj) (hit_same (cell i j) (cell i j) refl)
      (λ a ha ne. hit_other (cell i j) a (λ e. ne (sym e))))
      ∙ mul-one columns)

  -- A cell either has an entry or is idle.
  idle_or_owned : (span : ℕ) → idle_cells rows columns span cell + sum_below span (λ a. cond (owned rows columns cell a) 1 0) ≡ span
  unfolding idle_cells
  idle_or_owned span =
      sym (sum_add span (λ a. cond (owned rows columns cell a) 0 1) (λ a. cond (owned rows columns cell a) 1 0))
      ∙ sum_same span 1 (λ a. cond (owned rows columns cell a) 0 1 + cond (owned rows columns cell a) 1 0) (λ a ha. either (owned rows columns cell a))
      ∙ mul-one span
    where
      either : (b : Bool) → cond b 0 1 + cond b 1 0 ≡ 1
      either true = refl
      either false = refl

pub idle_count : IdleCount
idle_count rows columns span cell within apart =
    let each : sum_below span (owners rows columns cell) ≡ sum_below span (λ a. cond (owned rows columns cell a) 1 0) =
    sum_cong span (owners rows columns cell) (λ a. cond (owned rows columns cell a) 1 0) (λ a ha. owners_is rows columns cell apart a) in
    let all : sum_below span (owners rows columns cell) ≡ rows * columns = all_owners rows columns cell span within in
    let whole : idle_cells rows columns span cell + sum_below span (λ a. cond (owned rows columns cell a) 1 0) ≡ span = idle_or_owned rows columns cell span in
    (omega arith, omega arith)

-- the idle cells of a placement and its entries make up the span
pub idle_total : (s : Site) → Lawful s → (s.rows * s.columns ≤ s.span) × (idle_of s + s.rows * s.columns ≡ s.span)
idle_total s l =
    idle_count s.rows s.columns s.span s.cell
    (λ i j a b. l.below i j (a, b))
    (λ i j k m a b c d e. l.apart i j k m (a, b) (c, d) e)
