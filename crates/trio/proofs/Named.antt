-- What a call that names its tables by numbers knows once they are found, or are refused.
use Rattle.std.proofs.Common.{◌≡◌, ℕ, Bool, true, false, cond, Ok, Err, Result, sym, refl, ap, subst, ◌∙◌, eqb, arith}
use Rattle.std.proofs.lemmas.Bool.{eqb-true}
use Rattle.masked.specs.declared.refusal.Refusal.{Refusal}
use Rattle.masked.specs.declared.refusal.Refusal.TheVariants.{Store}
use Rattle.calls.specs.declared.table.Table.{Table}
use Rattle.calls.specs.declared.table.Table.TheVariants.{Left, Right, Result as Product}
use Rattle.calls.specs.Tables.{table_numbered}
use Rattle.calls.specs.Views.{and_then, provided}

-- a table that was found in stores that are long enough
found : (w : Result Table Refusal) (b : Bool) (x : Table) → Ok x ≡ and_then w (λ z. provided b Store (Ok z)) → (w ≡ Ok x) × (b ≡ true)
found (Ok z) true x e = (sym e, refl)
found (Ok z) false x e = let y : ◌≡◌ {A = ℕ} 0 1 = cc in absurd (omega arith)
found (Err q) b x e = let y : ◌≡◌ {A = ℕ} 0 1 = cc in absurd (omega arith)

pub found_as : (n : ℕ) (b : Bool) {r : Result Table Refusal} {x y : Table} → r ≡ and_then (table_numbered n) (λ z. provided b Store (Ok z)) → r ≡ Ok x → x ≡ y
    → (table_numbered n ≡ Ok y) × (b ≡ true)
found_as n b {r} {x} {y} e o i = found (table_numbered n) b y (ap (λ (z : Table). Ok z) (sym i) ∙ sym o ∙ e)

-- what is said of each refusal in turn holds of the one that was given
pub refused_by : (C : Refusal → Type 0) (w : Result Table Refusal) (b : Bool) (r : Refusal) → Err r ≡ and_then w (λ z. provided b Store (Ok z))
    → ((q : Refusal) → w ≡ Err q → C q) → ((x : Table) → w ≡ Ok x → b ≡ false → C Store) → C r
refused_by C (Ok z) true r e unnamed short = let y : ◌≡◌ {A = ℕ} 0 1 = cc in absurd (omega arith)
refused_by C (Ok z) false r e unnamed short = let i : Store ≡ r = cc in subst C i (short z refl refl)
refused_by C (Err q) b r e unnamed short = unnamed r (sym e)

-- stores that were measured
pub long_by : (b : Bool) {r : Result (Unit {0}) Refusal} {u : Unit {0}} → r ≡ cond b (Ok tt) (Err Store) → r ≡ Ok u → b ≡ true
long_by true e o = refl
long_by false {r} {u} e o = let y : ◌≡◌ {A = ℕ} 0 1 = cc in absurd (omega arith)

pub short_by : (b : Bool) {r : Result (Unit {0}) Refusal} {q : Refusal} → r ≡ cond b (Ok tt) (Err Store) → r ≡ Err q → (b ≡ false) × (q ≡ Store)
short_by true {r} {q} e o = let y : ◌≡◌ {A = ℕ} 0 1 = cc in absurd (omega arith)
short_by false {r} {q} e o = (refl, cc)

-- ---- two tables are one where their numbers are

pub named_as : (n : ℕ) {r : Result Table Refusal} {x y : Table} → r ≡ table_numbered n → r ≡ Ok x → x ≡ y → table_numbered n ≡ Ok y
named_as n e o i = sym e ∙ o ∙ ap (λ (z : Table). Ok z) i

abbrev number : Table → ℕ
number Left = 0
number Right = 1
number Product = 2

number_at : (a b d : Bool) (n : ℕ) (x : Table) → (a ≡ true → n ≡ 0) → (b ≡ true → n ≡ 1) → (d ≡ true → n ≡ 2) → (q : Refusal)
    → cond a (Ok Left) (cond b (Ok Right) (cond d (Ok Product) (Err q))) ≡ Ok x → n ≡ number x
number_at true b d n x ea eb ed q e = let i : Left ≡ x = cc in ea refl ∙ ap number i
number_at false true d n x ea eb ed q e = let i : Right ≡ x = cc in eb refl ∙ ap number i
number_at false false true n x ea eb ed q e = let i : Product ≡ x = cc in ed refl ∙ ap number i
number_at false false false n x ea eb ed q e = let y : ◌≡◌ {A = ℕ} 0 1 = cc in absurd (omega arith)

number_is : (n : ℕ) (x : Table) → table_numbered n ≡ Ok x → n ≡ number x
number_is n x e = number_at (eqb n 0) (eqb n 1) (eqb n 2) n x (eqb-true n 0) (eqb-true n 1) (eqb-true n 2) _ e

pub one_number : (n m : ℕ) {x y : Table} → table_numbered n ≡ Ok x → table_numbered m ≡ Ok y → x ≡ y → n ≡ m
one_number n m {x} {y} ex ey e = number_is n x ex ∙ ap number e ∙ sym (number_is m y ey)

pub one_table : (n m : ℕ) {x y : Table} → table_numbered n ≡ Ok x → table_numbered m ≡ Ok y → n ≡ m → x ≡ y
one_table n m {x} {y} ex ey e = let z : Ok x ≡ Ok y = sym ex ∙ ap table_numbered e ∙ ey in cc
