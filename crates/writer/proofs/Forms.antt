-- Numbers in their form, one more at a time, and how long a descriptor is.
use Rattle.std.proofs.Common.{◌≡◌, ℕ, ◌+◌, ◌-◌, ◌<◌, ◌≤◌, List, [], ◌∷◌, ◌++◌, length, get_or, take, drop, sym, refl, ap, ◌∙◌, arith, length-append, take-append-drop}
use Rattle.std.proofs.lemmas.List.{append_assoc, append-nil, take_more, flat_map_more}
use Rattle.plans.specs.Plans.{Plan, by_masks, by_row_stride, by_column_stride, Legal}
use Rattle.layouts.specs.Layouts.{layout_plan}
use Rattle.layouts.specs.Legals.{legal_layout}
use Rattle.layouts.specs.declared.layout.Layout.{Layout}
use Rattle.writer.specs.Descriptors.{in_form, bytes_of}
use Rattle.writer.specs.Numbers.{groups}
use Rattle.writer.proofs.Numbers.{length_small, length_two, length_four}

pub form_append : (ms ns : List ℕ) → in_form (ms ++ ns) ≡ in_form ms ++ in_form ns
form_append [] ns = refl
form_append (m ∷ ms) ns = ap (λ bs. groups m ++ bs) (form_append ms ns) ∙ sym (append_assoc (groups m) (in_form ms) (in_form ns))

-- one number more
pub form_more : (ns : List ℕ) (i : ℕ) → i < length ns → in_form (take (i + 1) ns) ≡ in_form (take i ns) ++ groups (get_or ns i 0)
form_more ns i h = ap in_form (take_more ns i 0 h) ∙ sym (flat_map_more groups [] (take i ns) (get_or ns i 0))

-- the front is no longer than the whole
pub form_front : (ns : List ℕ) (i : ℕ) → length (in_form (take i ns)) ≤ length (in_form ns)
form_front ns i =
    let whole : in_form ns ≡ in_form (take i ns) ++ in_form (drop i ns) = ap in_form (sym (take-append-drop i ns)) ∙ form_append (take i ns) (drop i ns) in
    let long = ap length whole ∙ length-append (in_form (take i ns)) (in_form (drop i ns)) in
    omega arith

-- a descriptor has at most 13 bytes
four : (a b c d : List ℕ) → length (a ++ (b ++ (c ++ (d ++ [])))) ≡ length a + (length b + (length c + length d))
four a b c d = simp (append-nil, length-append)

five : (a b c d e : List ℕ) → length (a ++ (b ++ (c ++ (d ++ (e ++ []))))) ≡ length a + (length b + (length c + (length d + length e)))
five a b c d e = simp (append-nil, length-append)

pub longest : (p : Plan) → Legal p → length (bytes_of p) ≤ 13
longest (by_masks r c y x) h =
    rw (five (groups 0) _ _ _ _)
    (omega (arith, length_small 0 (omega arith), length_two (r - 1) (omega (arith, h.rows_side)), length_two (c - 1) (omega (arith, h.columns_side)), length_four y (omega (arith, h.row_positions)), length_four x (omega (arith, h.column_positions))))
longest (by_row_stride r c s) h =
    rw (four (groups 1) _ _ _)
    (omega (arith, length_small 1 (omega arith), length_two (r - 1) (omega (arith, h.strided_side)), length_two (c - 1) (omega (arith, h.near_side, h.stride_limit)), length_two s (omega (arith, h.stride_limit))))
longest (by_column_stride r c s) h =
    rw (four (groups 2) _ _ _)
    (omega (arith, length_small 2 (omega arith), length_two (r - 1) (omega (arith, h.near_side, h.stride_limit)), length_two (c - 1) (omega (arith, h.strided_side)), length_two s (omega (arith, h.stride_limit))))

pub longest_layout : (l : Layout) → length (bytes_of (layout_plan l)) ≤ 13
longest_layout l = longest (layout_plan l) (legal_layout l)
