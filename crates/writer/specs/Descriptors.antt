-- The descriptor of a layout.
use Rattle.std.specs.Prelude.{ℕ, ◌-◌, cond, List, [], ◌∷◌, ◌++◌, length, drop, Ok, Err, Result, nat_le}
use Rattle.std.specs.List.{flat_map}
use Rattle.masked.specs.declared.refusal.Refusal.{Refusal}
use Rattle.masked.specs.declared.refusal.Refusal.TheVariants.{Room}
use Rattle.plans.specs.Plans.{Plan, by_masks, by_row_stride, by_column_stride}
use Rattle.writer.specs.Numbers.{groups}

-- the numbers: the kind, rows less one, columns less one, and then the row mask and the column mask under kind 0, or
-- the stride under kind 1, a row stride, and kind 2, a column stride
abbrev pub numbers_of : Plan → List ℕ
numbers_of (by_masks r c y x) = 0 ∷ (r - 1) ∷ (c - 1) ∷ y ∷ x ∷ []
numbers_of (by_row_stride r c s) = 1 ∷ (r - 1) ∷ (c - 1) ∷ s ∷ []
numbers_of (by_column_stride r c s) = 2 ∷ (r - 1) ∷ (c - 1) ∷ s ∷ []

-- numbers in their form, one after another
abbrev pub in_form : List ℕ → List ℕ
in_form numbers = flat_map groups numbers

-- the bytes of the descriptor
abbrev pub bytes_of : Plan → List ℕ
bytes_of plan = in_form (numbers_of plan)

-- what writing text at the front of given bytes answers: its length, or that there is no room
abbrev pub write_answer : List ℕ → List ℕ → Result ℕ Refusal
write_answer text given = cond (nat_le (length text) (length given)) (Ok (length text)) (Err Room)

-- and the bytes afterwards: the text and then what followed it, or all as they were
abbrev pub write_bytes : List ℕ → List ℕ → List ℕ
write_bytes text given = cond (nat_le (length text) (length given)) (text ++ drop (length text) given) given
