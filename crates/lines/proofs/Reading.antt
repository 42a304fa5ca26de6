-- What each way through `Request::read` returns.
use Rattle.std.proofs.Common.{◌≡◌, ℕ, ◌-◌, ◌<◌, true, false, eqb, List, [], ◌∷◌, length, get_or, take, drop, Some, None, refl, ap, ◌∙◌, arith, true-eqb, false-eqb}
use Rattle.std.proofs.lemmas.List.{take_all}
use Rattle.lines.specs.declared.request.Request.{Request}
use Rattle.lines.specs.Requests.{field_at, inner_at, and_then, request, ended, fields, request_of}

-- The bytes after the letter, as the code takes them.
abbrev pub behind : List ℕ → List ℕ
behind line = take (length line - 1) (drop 1 line)

pub request_none : (line : List ℕ) → length line < 1 → None ≡ request_of line
request_none [] h = refl
request_none (b ∷ bs) h = absurd (omega arith)

pub request_some : (line : List ℕ) (l : ℕ) → l ≡ get_or line 0 0 → 0 < length line → fields l (behind line) ≡ request_of line
request_some [] l e h = absurd (omega arith)
request_some (b ∷ bs) l e h = (λ i. fields (e i) (take_all (length (b ∷ bs) - 1) bs (omega arith) i))

pub ended_none : (q : Request) (bs : List ℕ) → true ≡ eqb (length bs) 0 → Some q ≡ ended q bs
ended_none q [] e = refl
ended_none q (b ∷ bs) e = absurd (omega (arith, true-eqb (length (b ∷ bs)) 0 e))

pub ended_some : (q : Request) (bs : List ℕ) → false ≡ eqb (length bs) 0 → None ≡ ended q bs
ended_some q [] e = absurd (false-eqb 0 0 e refl)
ended_some q (b ∷ bs) e = refl

pub fields_first : (l : ℕ) (bs : List ℕ) → None ≡ field_at bs → None ≡ fields l bs
fields_first l bs e = ap (λ o. and_then o (λ r. and_then (field_at r.1) (λ c. and_then (inner_at l c.1) (λ p. ended (request l r.0 c.0 p.0) p.1)))) e

module _ (l : ℕ) (bs : List ℕ) {r : ℕ} {bs₁ : List ℕ} (e₁ : Some (r, bs₁) ≡ field_at bs) where
  at_first : and_then (field_at bs₁) (λ c. and_then (inner_at l c.1) (λ p. ended (request l r c.0 p.0) p.1)) ≡ fields l bs
  at_first = ap (λ o. and_then o (λ r. and_then (field_at r.1) (λ c. and_then (inner_at l c.1) (λ p. ended (request l r.0 c.0 p.0) p.1)))) e₁

  pub fields_second : None ≡ field_at bs₁ → None ≡ fields l bs
  fields_second e = ap (λ o. and_then o (λ c. and_then (inner_at l c.1) (λ p. ended (request l r c.0 p.0) p.1))) e ∙ at_first

  module _ {c : ℕ} {bs₂ : List ℕ} (e₂ : Some (c, bs₂) ≡ field_at bs₁) where
    at_second : and_then (inner_at l bs₂) (λ p. ended (request l r c p.0) p.1) ≡ fields l bs
    at_second = ap (λ o. and_then o (λ c. and_then (inner_at l c.1) (λ p. ended (request l r c.0 p.0) p.1))) e₂ ∙ at_first

    pub fields_third : None ≡ inner_at l bs₂ → None ≡ fields l bs
    fields_third e = ap (λ o. and_then o (λ p. ended (request l r c p.0) p.1)) e ∙ at_second

    pub fields_all : {p : ℕ} {bs₃ : List ℕ} → Some (p, bs₃) ≡ inner_at l bs₂ → ended (request l r c p) bs₃ ≡ fields l bs
    fields_all e = ap (λ o. and_then o (λ p. ended (request l r c p.0) p.1)) e ∙ at_second
