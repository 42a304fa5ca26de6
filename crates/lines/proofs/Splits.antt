-- The first line of an input, and the laws of `lines`.
use Rattle.std.proofs.Common.{◌≡◌, ℕ, ◌+◌, ◌<◌, true, false, eqb, List, [], ◌∷◌, ◌++◌, length, take, drop, sym, refl, ap, ◌∙◌, ⊎_elim, add-one, one-add, arith, length-drop}
use Rattle.std.proofs.lemmas.List.{drop-drop}
use Rattle.std.proofs.lemmas.Bool.{cases_Bool, ne_eqb}
use Rattle.lines.specs.Lines.{front, lines, Unbroken, LinesLaw, line_length, Split}

split_front : (b n : ℕ) (bs : List ℕ) → lines bs ≡ take n bs ∷ lines (drop (n + 1) bs) → front b (lines bs) ≡ take (1 + n) (b ∷ bs) ∷ lines (drop (1 + n + 1) (b ∷ bs))
split_front b n bs e = ap (front b) e ∙ simp (one-add, add-one)

-- The first line is what comes before the first byte 10.
pub split_lines : (input : List ℕ) → 0 < length input → lines input ≡ take (line_length input) input ∷ lines (drop (line_length input + 1) input)
split_lines [] h = absurd (omega arith)
split_lines (b ∷ []) h =
    ⊎_elim
    (λ (e : eqb b 10 ≡ true). simp e)
    (λ (e : eqb b 10 ≡ false). simp e)
    (cases_Bool (eqb b 10))
split_lines (b ∷ c ∷ bs) h =
    ⊎_elim
    (λ (e : eqb b 10 ≡ true). simp e)
    (λ (e : eqb b 10 ≡ false). simp e (split_front b (line_length (c ∷ bs)) (c ∷ bs) (split_lines (c ∷ bs) (omega arith))))
    (cases_Bool (eqb b 10))

ended : (l rest : List ℕ) → Unbroken l → lines (l ++ 10 ∷ rest) ≡ l ∷ lines rest
ended [] rest u = refl
ended (b ∷ l) rest u = let e = ne_eqb b 10 u.0 in simp e (ap (front b) (ended l rest u.1))

last : (l : List ℕ) → Unbroken l → (l ≡ [] → ⊥) → lines l ≡ l ∷ []
last [] u h = absurd (h refl)
last (b ∷ []) u h = let e = ne_eqb b 10 u.0 in simp e
last (b ∷ c ∷ l) u h = let e = ne_eqb b 10 u.0 in simp e (ap (front b) (last (c ∷ l) u.1 (λ p. let z : ◌≡◌ {A = ℕ} 0 1 = cc in omega arith)))

pub lines_law : LinesLaw
lines_law = record { none = refl; ended = ended; last = last }

module _ {input line rest : List ℕ} (n : ℕ) where
  pub split_from : 0 < length input → n ≡ line_length input → line ≡ take n input → rest ≡ drop 1 (drop n input) → Split input line rest
  split_from h e f b =
      let back : rest ≡ drop (line_length input + 1) input = b ∙ drop-drop 1 n input ∙ ap (λ k. drop (k + 1) input) e in
      let before : line ≡ take (line_length input) input = f ∙ ap (λ k. take k input) e in
      record {
        some = h;
        front_is = before;
        back_is = back;
        whole = split_lines input h ∙ (λ i. sym before i ∷ lines (sym back i));
        shorter = omega (arith, ap length back ∙ length-drop (line_length input + 1) input);
      }

-- Nothing follows a line that the end of the input ends.
pub rest_of_none : (xs : List ℕ) → length xs ≡ 0 → xs ≡ drop 1 xs
rest_of_none [] h = refl
rest_of_none (x ∷ xs) h = absurd (omega arith)
