-- Two legal plans that make one placement are one plan.
use Rattle.std.proofs.Common.{◌≡◌, ℕ, zero, suc, ◌+◌, ◌-◌, ◌*◌, ◌/◌, ◌%◌, ◌^◌, ◌<◌, ◌≤◌, sym, refl, ap, ◌∙◌, subst, ⊎_elim, arith}
use lib.Count.{ones}
use Rattle.std.proofs.lemmas.Bool.{cases_lt}
use Rattle.fields.specs.Fields.{spread, spread_over, width}
use Rattle.fields.proofs.Fields.{spread_of_zero}
use Rattle.fields.proofs.Lowest.{spread_ones}
use Rattle.fields.proofs.Spreads.{by_parity, pow_more, half_below, spread_none, spread_even, spread_odd, ones_even, ones_odd}
use Rattle.fields.proofs.Widths.{wide_width, pow_less}
use Rattle.plans.specs.Conditions.{MasksFit, StrideFits}
use Rattle.plans.specs.Plans.{Plan, by_masks, by_row_stride, by_column_stride, Legal, site_of}
use Rattle.decoding.specs.Laws.{Same}

-- a number and what it lacks of the largest with room make up the mask
complement_over : (k n m : ℕ) → m < 2 ^ k → n < 2 ^ ones m → spread_over k n m + spread_over k (2 ^ ones m - 1 - n) m ≡ m
complement_over zero n m h l = rw (spread_none n m, spread_none (2 ^ ones m - 1 - n) m) (omega arith)
complement_over (suc k) n m h l =
    by_parity m
    (λ p.
    let e = ones_even m p in
    let r = complement_over k n (m / 2) (half_below k m h) (rw e at l) in
    rw (spread_even k n m p, spread_even k (2 ^ ones m - 1 - n) m p, e) (omega arith))
    (λ p.
    let e : ones m ≡ suc (ones (m / 2)) = ones_odd m p ∙ omega arith in
    let q : 2 ^ ones m ≡ 2 * 2 ^ ones (m / 2) = rw e (pow_more (ones (m / 2))) in
    let r = complement_over k (n / 2) (m / 2) (half_below k m h) (omega arith) in
    let half : (2 ^ ones m - 1 - n) / 2 ≡ 2 ^ ones (m / 2) - 1 - n / 2 = omega arith in
    let low : n % 2 + (2 ^ ones m - 1 - n) % 2 ≡ 1 = omega arith in
    rw (spread_odd k n m p, spread_odd k (2 ^ ones m - 1 - n) m p, half) (omega arith))

complement : (n m : ℕ) → m < 2 ^ 32 → n < 2 ^ ones m → spread n m + spread (2 ^ ones m - 1 - n) m ≡ m
unfolding spread
complement n m h l = complement_over 32 n m h l

-- the last entry of a side, and what it lacks of the largest number with room, are both entries, so the entries show the mask
mask_parts : (n m : ℕ) → 1 ≤ n → m < 2 ^ 24 → ones m ≡ width (n - 1) → spread (n - 1) m + spread (2 ^ width (n - 1) - n) m ≡ m
mask_parts n m some small bits =
    let w = wide_width (n - 1) in
    let e : 2 ^ ones m - 1 - (n - 1) ≡ 2 ^ width (n - 1) - n = rw bits (omega arith) in
    let c = complement (n - 1) m (omega arith) (rw bits w.below) in
    rw e at c

lacked : (n : ℕ) → 1 ≤ n → 2 ^ width (n - 1) - n < n
lacked n some =
    let w = wide_width (n - 1) in
    ⊎_elim
    (λ h. let p = pow_less (width (n - 1)) h in let r = w.reached h in omega arith)
    (λ h. let le : width (n - 1) ≤ 0 = h in let z : width (n - 1) ≡ 0 = omega arith in rw z (omega arith))
    (cases_lt 0 (width (n - 1)))

mask_shown : (n y z : ℕ) → 1 ≤ n → y < 2 ^ 24 → z < 2 ^ 24 → ones y ≡ width (n - 1) → ones z ≡ width (n - 1) → ((i : ℕ) → i < n → spread i y ≡ spread i z) → y ≡ z
mask_shown n y z some small small' bits bits' same =
    let a = mask_parts n y some small bits in
    let b = mask_parts n z some small' bits' in
    let last = same (n - 1) (omega arith) in
    let rest = same (2 ^ width (n - 1) - n) (lacked n some) in
    omega arith

-- under a mask the entry 1 is a power of two
one_power : (n m : ℕ) → 2 ≤ n → m < 2 ^ 24 → ones m ≡ width (n - 1) → ones (spread 1 m) ≡ 1
one_power n m some small bits =
    let w = wide_width (n - 1) in
    spread_ones 1 m (omega arith)
    (⊎_elim (λ h. omega arith) (λ h. absurd (let z : width (n - 1) ≡ 0 = omega arith in let b : n - 1 < 2 ^ 0 = rw z at w.below in omega arith)) (cases_lt 0 (width (n - 1))))

-- masks against masks
module _ (r c y x y' x' : ℕ) (fit : MasksFit r c y x) (fit' : MasksFit r c y' x') (cells : (i j : ℕ) → (i < r) × (j < c) → spread i y + spread j x ≡ spread i y' + spread j x') where
  row_mask_same : y ≡ y'
  row_mask_same =
      mask_shown r y y' fit.rows_side.0 fit.row_positions fit'.row_positions fit.row_bits fit'.row_bits
      (λ i h. let e = cells i 0 (h, omega (arith, fit.columns_side.0)) in omega (arith, spread_of_zero x, spread_of_zero x'))

  column_mask_same : x ≡ x'
  column_mask_same =
      mask_shown c x x' fit.columns_side.0 fit.column_positions fit'.column_positions fit.column_bits fit'.column_bits
      (λ j h. let e = cells 0 j (omega (arith, fit.rows_side.0), h) in omega (arith, spread_of_zero y, spread_of_zero y'))

-- a stride that is no power of two is not the cell of the entry 1 under masks
row_not_masked : (r c y x s : ℕ) → MasksFit r c y x → StrideFits c r s → ((i j : ℕ) → (i < r) × (j < c) → spread i y + spread j x ≡ s * i + j) → ⊥
row_not_masked r c y x s fit fits cells =
    let e = cells 1 0 (omega (arith, fits.strided_side.0), omega (arith, fits.near_side.0)) in
    let is : spread 1 y ≡ s = omega (arith, spread_of_zero x) in
    fits.no_power (ap ones (sym is) ∙ one_power r y fits.strided_side.0 fit.row_positions fit.row_bits)

column_not_masked : (r c y x s : ℕ) → MasksFit r c y x → StrideFits r c s → ((i j : ℕ) → (i < r) × (j < c) → spread i y + spread j x ≡ s * j + i) → ⊥
column_not_masked r c y x s fit fits cells =
    let e = cells 0 1 (omega (arith, fits.near_side.0), omega (arith, fits.strided_side.0)) in
    let is : spread 1 x ≡ s = omega (arith, spread_of_zero y) in
    fits.no_power (ap ones (sym is) ∙ one_power c x fits.strided_side.0 fit.column_positions fit.column_bits)

-- nor is a row stride a column stride: row 1 begins at the stride, which the columns fit into, and under a column stride at 1
row_not_column : (r c s t : ℕ) → StrideFits c r s → StrideFits r c t → ((i j : ℕ) → (i < r) × (j < c) → s * i + j ≡ t * j + i) → ⊥
row_not_column r c s t fits fits' cells =
    let e = cells 1 0 (omega (arith, fits.strided_side.0), omega (arith, fits.near_side.0)) in
    let no : ⊥ = omega (arith, fits.near_side.1, fits'.strided_side.0) in
    no

-- the same with one shape in place of the other
shaped : (r c r' c' : ℕ) (P : ℕ → ℕ → Type 0) → r ≡ r' → c ≡ c' → P r' c' → P r c
shaped r c r' c' P e d p = subst (λ a. P a c) (sym e) (subst (λ b. P r' b) (sym d) p)

pub same_plan : (p q : Plan) → Legal p → Legal q → Same (site_of p) (site_of q) → p ≡ q
same_plan (by_masks r c y x) (by_masks r' c' y' x') h k s =
    let k' : MasksFit r c y' x' = shaped r c r' c' (λ a b. MasksFit a b y' x') s.rows s.columns k in
    let row = row_mask_same r c y x y' x' h k' s.cells in
    let column = column_mask_same r c y x y' x' h k' s.cells in
    cc (s.rows, s.columns)
same_plan (by_masks r c y x) (by_row_stride r' c' t) h k s =
    absurd (row_not_masked r c y x t h (shaped r c r' c' (λ a b. StrideFits b a t) s.rows s.columns k) s.cells)
same_plan (by_masks r c y x) (by_column_stride r' c' t) h k s =
    absurd (column_not_masked r c y x t h (shaped r c r' c' (λ a b. StrideFits a b t) s.rows s.columns k) s.cells)
same_plan (by_row_stride r c t) (by_masks r' c' y x) h k s =
    absurd (row_not_masked r c y x t (shaped r c r' c' (λ a b. MasksFit a b y x) s.rows s.columns k) h (λ i j l. sym (s.cells i j l)))
same_plan (by_row_stride r c t) (by_row_stride r' c' u) h k s =
    let e = s.cells 1 0 (omega (arith, h.strided_side.0), omega (arith, h.near_side.0)) in
    let is : t ≡ u = omega arith in
    cc (s.rows, s.columns)
same_plan (by_row_stride r c t) (by_column_stride r' c' u) h k s =
    absurd (row_not_column r c t u h (shaped r c r' c' (λ a b. StrideFits a b u) s.rows s.columns k) s.cells)
same_plan (by_column_stride r c t) (by_masks r' c' y x) h k s =
    absurd (column_not_masked r c y x t (shaped r c r' c' (λ a b. MasksFit a b y x) s.rows s.columns k) h (λ i j l. sym (s.cells i j l)))
same_plan (by_column_stride r c t) (by_row_stride r' c' u) h k s =
    absurd (row_not_column r c u t (shaped r c r' c' (λ a b. StrideFits b a u) s.rows s.columns k) h (λ i j l. sym (s.cells i j l)))
same_plan (by_column_stride r c t) (by_column_stride r' c' u) h k s =
    let e = s.cells 0 1 (omega (arith, h.near_side.0), omega (arith, h.strided_side.0)) in
    let is : t ≡ u = omega arith in
    cc (s.rows, s.columns)

pub same_self : (p q : Plan) → p ≡ q → Same (site_of p) (site_of q)
same_self p q e = subst (λ (z : Plan). Same (site_of p) (site_of z)) e (record { rows = refl; columns = refl; cells = λ i j h. refl })
