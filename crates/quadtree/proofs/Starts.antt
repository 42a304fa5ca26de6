-- The level starts: entry l of the table is 3 × 4^l.
use Rattle.std.proofs.Common.{◌≡◌, ℕ, zero, suc, ◌+◌, ◌*◌, ◌^◌, ◌<◌, Bool, true, ◌&&◌, eqb, List, [], ◌∷◌, length, get_or, refl, add-zero, zero-add, arith}
use Rattle.std.proofs.lemmas.Bool.{and_parts, eqb-true}

-- the rule at each entry, counted from l on
abbrev starts_right : ℕ → List ℕ → Bool
starts_right l [] = true
starts_right l (x ∷ xs) = eqb x (3 * 4 ^ l) && starts_right (suc l) xs

start_from : (xs : List ℕ) (l : ℕ) → starts_right l xs ≡ true → (k : ℕ) → k < length xs → get_or xs k 0 ≡ 3 * 4 ^ (l + k)
start_from [] l t k h = absurd (omega arith)
start_from (x ∷ xs) l t zero h = rw (add-zero l) (eqb-true x (3 * 4 ^ l) (and_parts _ _ t).0)
start_from (x ∷ xs) l t (suc k) h =
    let e : l + suc k ≡ suc l + k = omega arith in
    rw e (start_from xs (suc l) (and_parts _ _ t).1 k (omega arith))

abbrev pub starts : List ℕ
starts = 3 ∷ 12 ∷ 48 ∷ 192 ∷ 768 ∷ 3072 ∷ 12288 ∷ 49152 ∷ 196608 ∷ 786432 ∷ 3145728 ∷ 12582912 ∷ 50331648 ∷ []

-- the test computes
pub start_is : (l : ℕ) → l < 13 → get_or starts l 0 ≡ 3 * 4 ^ l
start_is l h = let r = start_from starts 0 refl l h in rw (zero-add l) at r
