-- A number written at the front of a slice, and numbers written one after another.
use Rattle.std.proofs.Common.{◌≡◌, ℕ, suc, ◌+◌, ◌-◌, ◌/◌, ◌%◌, ◌<◌, ◌≤◌, List, [], ◌∷◌, ◌++◌, length, take, drop, set, sym, refl, ap, ◌∙◌, arith, length-append, length-take, length-drop, length-set, take_all}
use Rattle.std.proofs.lemmas.List.{append_assoc, take_at, drop_at, drop-drop, drop_all, append-nil}
use borrow.Rule.Slice.PartMut.{put_mid, mid_of}
use Rattle.writer.specs.Numbers.{groups}
use Rattle.writer.proofs.Numbers.{groups_small, groups_large, length_large, length_pos}

-- What a slice holds once n is written at its front.
abbrev pub written : List ℕ → ℕ → List ℕ
written bytes n = groups n ++ drop (length (groups n)) bytes

pub written_last : (bytes : List ℕ) (n : ℕ) → n < 128 → 0 < length bytes → set bytes 0 n ≡ written bytes n
written_last [] n small lt = absurd (omega (arith, lt))
written_last (b ∷ bytes) n small lt = rw (groups_small n small) refl

-- One byte, and what is left of a longer number after it.
module _ (x : ℕ) (bytes now : List ℕ) (n : ℕ) (big : 128 ≤ n) where
  pub room_left : length (groups n) ≤ length bytes → length (groups (n / 128)) ≤ length (mid_of 1 (length (set bytes 0 x) - 1) (set bytes 0 x))
  room_left room = simp (length-take, length-drop, length-set) (omega (arith, length_large n big))

  pub written_more : x ≡ 128 + n % 128 → length (groups n) ≤ length bytes → now ≡ written (mid_of 1 (length (set bytes 0 x) - 1) (set bytes 0 x)) (n / 128) → put_mid 1 (length (set bytes 0 x) - 1) (set bytes 0 x) now ≡ written bytes n
  written_more is room e = go bytes (omega (arith, length_pos n)) e
    where
      go : (bytes : List ℕ) → 0 < length bytes → now ≡ written (mid_of 1 (length (set bytes 0 x) - 1) (set bytes 0 x)) (n / 128) → put_mid 1 (length (set bytes 0 x) - 1) (set bytes 0 x) now ≡ written bytes n
      go [] lt e = absurd (omega (arith, lt))
      go (b ∷ bytes) lt e =
          let k : suc (length bytes) - 1 ≡ length bytes = omega arith in
          let all : take (suc (length bytes) - 1) bytes ≡ bytes = take_all (suc (length bytes) - 1) bytes (omega arith) in
          let none : drop (suc (length bytes) - 1) bytes ≡ [] = drop_all (suc (length bytes) - 1) bytes (omega arith) in
          rw (e, all, none, append-nil (written bytes (n / 128)), groups_large n big, is) refl

-- A number written from a place on.
pub written_from : (was now : List ℕ) (at n : ℕ) → at ≤ length was → now ≡ written (mid_of at (length was - at) was) n → put_mid at (length was - at) was now ≡ take at was ++ (groups n ++ drop (at + length (groups n)) was)
written_from was now at n le e =
    let all : take (length was - at) (drop at was) ≡ drop at was = take_all (length was - at) (drop at was) (rw (length-drop at was) (omega arith)) in
    let none : drop (length was - at) (drop at was) ≡ [] = drop_all (length was - at) (drop at was) (rw (length-drop at was) (omega arith)) in
    let cut : drop (length (groups n)) (drop at was) ≡ drop (at + length (groups n)) was = drop-drop (length (groups n)) at was in
    rw (e, all, none, append-nil (written (drop at was) n), cut) refl

-- Bytes g written right after what is done at the front are done too, and what follows is as it was at first.
pub next_done : {X : Type 0} (first done g was now : List X) (at : ℕ) → at ≡ length done → was ≡ done ++ drop at first → now ≡ take at was ++ (g ++ drop (at + length g) was) → now ≡ (done ++ g) ++ drop (at + length g) first
next_done {X} first done g was now at long before after =
    let front : take at was ≡ done = ap (take at) before ∙ take_at done (drop at first) at (sym long) in
    let cut : drop at was ≡ drop at first = ap (drop at) before ∙ drop_at done (drop at first) at (sym long) in
    let there : drop (at + length g) was ≡ drop (length g) (drop at was) = sym (drop-drop (length g) at was) in
    let here : drop (length g) (drop at first) ≡ drop (at + length g) first = drop-drop (length g) at first in
    let grouped : (done ++ g) ++ drop (at + length g) first ≡ done ++ (g ++ drop (at + length g) first) = append_assoc done g (drop (at + length g) first) in
    cc

-- A slice begins with what is done, up to a place, and is from there on as it was at first.
abbrev pub Done : {X : Type 0} → List X → List X → ℕ → List X → Type 0
Done first done at now = (at ≡ length done) × (now ≡ done ++ drop at first)

-- One more part is written at that place.
pub done_more : {X : Type 0} (first done g was now : List X) (at end : ℕ) → Done first done at was → end ≡ at + length g → now ≡ take at was ++ (g ++ drop (at + length g) was) → Done first (done ++ g) end now
done_more first done g was now at end before long after = (
  omega (arith, before.0, length-append done g),
  next_done first done g was now at before.0 before.1 after ∙ ap (λ (k : ℕ). (done ++ g) ++ drop k first) (sym long),
)

-- What is done may be grouped in another way.
pub done_as : {X : Type 0} (first xs ys now : List X) (at : ℕ) → xs ≡ ys → Done first xs at now → Done first ys at now
done_as first xs ys now at e d = (d.0 ∙ ap length e, d.1 ∙ ap (λ (r : List _). r ++ drop at first) e)
