-- A line is read as a request just where it spells that request.
use Rattle.std.proofs.Common.{◌≡◌, ℕ, ◌+◌, ◌<◌, ◌≤◌, true, false, eqb, ◌⊎◌, List, [], ◌∷◌, ◌++◌, length, get_or, take, drop, Some, None, decimal, Option, sym, refl, ap, ◌∙◌, subst, inr, ⊎_elim, one-add, arith, take-append-drop}
use Rattle.std.specs.Char.{is_ascii_digit}
use Rattle.std.specs.Str.{all_ascii_digits}
use Rattle.std.proofs.lemmas.Fmt.{decimal-digits_value, digits_decimal, digits_value-decimal, length-decimal-le, decimal_nonempty, first_decimal, decimal_digit}
use Rattle.std.proofs.lemmas.List.{take_at, drop_at, append-nil}
use Rattle.std.proofs.lemmas.Str.Parse.{digits_value_short}
use Rattle.std.proofs.lemmas.Bool.{cases_Bool, and_parts, cond-true, cond-false, eqb-true, ne_eqb, cases_eq, cond_both}
use Rattle.std.proofs.lemmas.Bool.Decides.{nat_tests}
use Rattle.lines.specs.declared.request.Request.{Request}
use Rattle.lines.specs.Requests.{value_of, plain, digit_count, number_at, field_at, two_numbers, inner_at, and_then, request, ended, request_of, tail, Spelled, ReadLaw}
use Rattle.lines.proofs.Numbers.{own, all_front}
use Rattle.lines.proofs.Reading.{fields_all}

-- What `plain` says.
plain_parts : (ds : List ℕ) → plain ds ≡ true → (0 < length ds) × (length ds ≤ 4) × (get_or ds 0 0 ≡ 48 → length ds ≡ 1)
plain_parts ds p = grind (arith, nat_tests)

plain_from : (ds : List ℕ) → 0 < length ds → length ds ≤ 4 → (get_or ds 0 0 ≡ 48 → length ds ≡ 1) → plain ds ≡ true
plain_from ds some few zero = grind (arith, nat_tests)

-- Digits that are plain are what is written of their value.
decimal_front : (ds : List ℕ) → all_ascii_digits ds ≡ true → plain ds ≡ true → (value_of ds < 10000) × (decimal (value_of ds) ≡ ds)
decimal_front ds a p =
    let h = plain_parts ds p in
    let small : value_of ds < 10000 = digits_value_short own ds 4 a h.1 in
    (small, decimal-digits_value own ds a h.0 h.2 (omega arith))

plain_decimal : (n : ℕ) → n < 10000 → plain (decimal n) ≡ true
plain_decimal n small =
    plain_from (decimal n) (decimal_nonempty n (omega arith)) (length-decimal-le 4 n (omega arith) (omega arith) (omega arith))
    (λ e. ⊎_elim (λ (z : n ≡ 0). ap (λ k. length (decimal k)) z ∙ ap length (decimal_digit 0 (omega arith))) (λ (z : n ≡ 0 → ⊥). absurd (omega (arith, first_decimal n (omega arith) (omega arith)))) (cases_eq n 0))

-- The digits of ds, and no more.
digits_append : (ds rest : List ℕ) → all_ascii_digits ds ≡ true → digit_count rest ≡ 0 → digit_count (ds ++ rest) ≡ length ds
digits_append [] rest a e = e
digits_append (d ∷ ds) rest a e =
    let p = and_parts (is_ascii_digit d) (all_ascii_digits ds) a in
    cond-true _ _ 0 p.0 ∙ ap (λ n. 1 + n) (digits_append ds rest p.1 e) ∙ one-add _

some_inj : {A : Type 0} (x y : A) → Some x ≡ Some y → x ≡ y
some_inj x y e = cc

none_some : {A : Type 0} (x : A) → None ≡ Some x → ⊥
none_some x e = let z : ◌≡◌ {A = ℕ} 0 1 = cc in omega arith

number_spells : (bs : List ℕ) (n : ℕ) (rest : List ℕ) → number_at bs ≡ Some (n, rest) → (n < 10000) × (bs ≡ decimal n ++ rest)
number_spells bs n rest e =
    ⊎_elim
    (λ (p : plain (take (digit_count bs) bs) ≡ true).
    let same = some_inj _ _ (sym (cond-true _ _ None p) ∙ e) in
    let h = decimal_front _ (all_front bs) p in
    let at : value_of (take (digit_count bs) bs) ≡ n = ap (λ x. x.0) same in
    let back : drop (digit_count bs) bs ≡ rest = ap (λ x. x.1) same in
    (omega (arith, h.0), sym (take-append-drop (digit_count bs) bs) ∙ (λ i. (sym h.1 ∙ ap decimal at) i ++ back i)))
    (λ (p : plain (take (digit_count bs) bs) ≡ false). absurd (none_some _ (sym (cond-false _ _ None p) ∙ e)))
    (cases_Bool (plain (take (digit_count bs) bs)))

number_reads : (n : ℕ) (rest : List ℕ) → n < 10000 → digit_count rest ≡ 0 → number_at (decimal n ++ rest) ≡ Some (n, rest)
number_reads n rest small e =
    let ds = decimal n in
    let k : digit_count (ds ++ rest) ≡ length ds = digits_append ds rest (digits_decimal own n (omega arith)) e in
    let f : take (digit_count (ds ++ rest)) (ds ++ rest) ≡ ds = take_at ds rest _ (sym k) in
    let b : drop (digit_count (ds ++ rest)) (ds ++ rest) ≡ rest = drop_at ds rest _ (sym k) in
    cond-true _ _ None (ap plain f ∙ plain_decimal n small) ∙ (λ i. Some ((ap value_of f ∙ digits_value-decimal own n (omega arith)) i, b i))

field_spells : (bs : List ℕ) (n : ℕ) (rest : List ℕ) → field_at bs ≡ Some (n, rest) → (n < 10000) × (bs ≡ 32 ∷ (decimal n ++ rest))
field_spells [] n rest e = absurd (none_some _ e)
field_spells (b ∷ bs) n rest e =
    ⊎_elim
    (λ (p : eqb b 32 ≡ true).
    let h = number_spells bs n rest (sym (cond-true _ _ None p) ∙ e) in
    (h.0, (λ i. eqb-true b 32 p i ∷ h.1 i)))
    (λ (p : eqb b 32 ≡ false). absurd (none_some _ (sym (cond-false _ _ None p) ∙ e)))
    (cases_Bool (eqb b 32))

field_reads : (n : ℕ) (rest : List ℕ) → n < 10000 → digit_count rest ≡ 0 → field_at (32 ∷ (decimal n ++ rest)) ≡ Some (n, rest)
field_reads n rest small e = number_reads n rest small e

-- What was read before a request came out.
after_some : {A B : Type 0} (o : Option A) (go : A → Option B) (y : B) → and_then o go ≡ Some y → (x : A) × (o ≡ Some x) × (go x ≡ Some y)
after_some None go y e = absurd (none_some y e)
after_some (Some x) go y e = (x, refl, e)

ended_some : (q y : Request) (bs : List ℕ) → ended q bs ≡ Some y → (q ≡ y) × (bs ≡ [])
ended_some q y [] e = (some_inj q y e, refl)
ended_some q y (b ∷ bs) e = absurd (none_some y e)

abbrev Letter : ℕ → Type 0
Letter l = (l ≡ 82) ⊎ ((l ≡ 67) ⊎ ((l ≡ 90) ⊎ ((l ≡ 78) ⊎ (l ≡ 72))))

short_letter : (l : ℕ) → two_numbers l ≡ true → Letter l × (l ≡ 72 → ⊥)
short_letter l s = grind (arith, nat_tests)

letter_short : (l : ℕ) → Letter l → (two_numbers l ≡ true) ⊎ (l ≡ 72)
letter_short l h = grind (arith, nat_tests)

-- What the letter says of the bytes after the columns.
pub record Ends (l p : ℕ) (bs : List ℕ) : Type 0 where
  pub letter : Letter l
  pub small : p < 10000
  pub none : (l ≡ 72 → ⊥) → p ≡ 0
  pub text : bs ≡ tail l p

inner_spells : (l : ℕ) (bs : List ℕ) (p : ℕ) (rest : List ℕ) → inner_at l bs ≡ Some (p, rest) → rest ≡ [] → Ends l p bs
inner_spells l bs p rest e z =
    ⊎_elim
    (λ (s : two_numbers l ≡ true).
    let same = some_inj _ _ (sym (cond-true _ _ _ s) ∙ e) in
    let h = short_letter l s in
    let zero : 0 ≡ p = ap (λ x. x.0) same in
    record {
      letter = h.0;
      small = omega arith;
      none = λ _. sym zero;
      text = ap (λ x. x.1) same ∙ z ∙ sym (cond-false (eqb l 72) _ _ (ne_eqb l 72 h.1));
    })
    (λ (s : two_numbers l ≡ false). ⊎_elim
    (λ (t : eqb l 72 ≡ true).
    let h = field_spells bs p rest (sym (cond-false _ _ _ s ∙ cond-true _ _ None t) ∙ e) in
    let at = eqb-true l 72 t in
    record {
      letter = inr (inr (inr (inr at)));
      small = h.0;
      none = λ other. absurd (other at);
      text = h.1 ∙ ap (λ x. 32 ∷ (decimal p ++ x)) z ∙ ap (λ x. 32 ∷ x) (append-nil (decimal p)) ∙ sym (cond-true (eqb l 72) _ _ t);
    })
    (λ (t : eqb l 72 ≡ false). absurd (none_some _ (sym (cond-false _ _ _ s ∙ cond-false _ _ None t) ∙ e)))
    (cases_Bool (eqb l 72)))
    (cases_Bool (two_numbers l))

inner_reads : (l p : ℕ) → Ends l p (tail l p) → inner_at l (tail l p) ≡ Some (p, [])
inner_reads l p h =
    ⊎_elim
    (λ (s : two_numbers l ≡ true).
    let other = (short_letter l s).1 in
    cond-true _ _ _ s ∙ (λ i. Some (sym (h.none other) i, cond-false (eqb l 72) (32 ∷ decimal p) [] (ne_eqb l 72 other) i)))
    (λ (at : l ≡ 72).
    ap (λ k. inner_at k (tail k p)) at ∙ ap (λ x. field_at (32 ∷ x)) (sym (append-nil (decimal p))) ∙ field_reads p [] h.small refl)
    (letter_short l h.letter)

digits_tail : (l p : ℕ) → digit_count (tail l p) ≡ 0
digits_tail l p = cond_both (eqb l 72) (32 ∷ decimal p) [] (λ x. digit_count x ≡ 0) (λ _. refl) (λ _. refl)

spells : (line : List ℕ) (q : Request) → request_of line ≡ Some q → Spelled line q.letter q.rows q.columns q.inner
spells [] q e = absurd (none_some q e)
spells (l ∷ bs) q e =
    let rows = after_some (field_at bs) _ q e in
    let columns = after_some (field_at rows.0.1) _ q rows.2 in
    let width = after_some (inner_at l columns.0.1) _ q columns.2 in
    let end = ended_some (request l rows.0.0 columns.0.0 width.0.0) q width.0.1 width.2 in
    let r = field_spells bs rows.0.0 rows.0.1 rows.1 in
    let c = field_spells rows.0.1 columns.0.0 columns.0.1 columns.1 in
    let p = inner_spells l columns.0.1 width.0.0 width.0.1 width.1 end.1 in
    subst (λ y. Spelled (l ∷ bs) y.letter y.rows y.columns y.inner) end.0 (record {
      letter = p.letter;
      rows = r.0;
      columns = c.0;
      inner_width = p.small;
      none = p.none;
      text = ap (λ x. l ∷ x) (r.1 ∙ ap (λ x. 32 ∷ (decimal rows.0.0 ++ x)) (c.1 ∙ ap (λ x. 32 ∷ (decimal columns.0.0 ++ x)) p.text));
    })

reads : (line : List ℕ) (l r c p : ℕ) → Spelled line l r c p → request_of line ≡ Some (request l r c p)
reads line l r c p s =
    let ends : Ends l p (tail l p) = record { letter = s.letter; small = s.inner_width; none = s.none; text = refl } in
    let e₁ = field_reads r (32 ∷ (decimal c ++ tail l p)) s.rows refl in
    let e₂ = field_reads c (tail l p) s.columns (digits_tail l p) in
    ap request_of s.text ∙ sym (fields_all l (32 ∷ (decimal r ++ 32 ∷ (decimal c ++ tail l p))) (sym e₁) (sym e₂) (sym (inner_reads l p ends)))

pub read_law : ReadLaw
read_law = record { spells = λ line l r c p e. spells line (request l r c p) e; reads = reads }
