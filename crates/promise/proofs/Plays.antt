-- How a replay goes on, call by call.
use Rattle.std.proofs.Common.{◌≡◌, ℕ, ◌+◌, ◌<◌, ◌≤◌, List, [], ◌∷◌, ◌++◌, length, get_or, take, sym, refl, ap, ◌∙◌, subst, arith}
use Rattle.std.proofs.lemmas.List.{take_more}
use Rattle.kinds.specs.declared.kind.Kind.{Ghosts as Kinds}
use Rattle.calls.specs.declared.call.Call.{Call}
use Rattle.calls.specs.declared.call.Answer.{Answer}
use Rattle.calls.specs.Views.{answer_to}
use Rattle.calls.specs.Moments.{Trio, Moment, view_of, does, all_done, answers_to, Called}
use Rattle.calls.proofs.Lists.{done_append, done_one, done_none, told_append, told_one, told_none}
use Rattle.promise.specs.Replays.{Replayed}

-- the first i calls are made: their answers and their stores, where the tables lie, how many answers there are and how
-- many have room
pub record Played {E : Type 0} (kind : Kinds E) (t : Trio) (m : Moment E) (cs : List (Call E)) (i : ℕ) (answers : List (Answer E)) (len cap : ℕ) (later : Moment E) (tables : Trio) : Type 0 where
  pub made : Replayed kind t m (take i cs) answers later
  pub same : tables ≡ t
  pub count : len ≡ i
  pub room : length cs ≤ cap

module _ {E : Type 0} (kind : Kinds E) (t : Trio) (m : Moment E) (cs : List (Call E)) where
  pub played_none : (answers : List (Answer E)) (len cap : ℕ) → answers ≡ [] → len ≡ 0 → length cs ≤ cap → Played kind t m cs 0 answers len cap m t
  played_none answers len cap ea el room = record {
    made = record { answers_are = ea ∙ sym (told_none kind t m); cells_are = sym (done_none kind t m) };
    same = refl;
    count = el;
    room = room;
  }

  pub played_more : (i : ℕ) (answers answers' : List (Answer E)) (len len' cap cap' : ℕ) (later later' : Moment E) (tables tables' : Trio) (c : Call E) (a : Answer E)
      → Played kind t m cs i answers len cap later tables → i < length cs → c ≡ get_or cs i c
      → Called kind tables later c a later' → tables' ≡ tables
      → answers' ≡ answers ++ a ∷ [] → len' ≡ len + 1 → cap' ≡ cap
      → Played kind t m cs (i + 1) answers' len' cap' later' tables'
  played_more i answers answers' len len' cap cap' later later' tables tables' c a p h ec call et ea el ek =
      let d = all_done kind t m (take i cs) in
      let more : take (i + 1) cs ≡ take i cs ++ c ∷ [] = take_more cs i c h ∙ ap (λ (x : Call E). take i cs ++ x ∷ []) (sym ec) in
      let told : Called kind t later c a later' = subst (λ (z : Trio). Called kind z later c a later') p.same call in
      let from = p.made.cells_are in
      record {
        made = record {
          answers_are =
              ea ∙ ap (λ (x : List (Answer E)). x ++ a ∷ []) p.made.answers_are
              ∙ ap (λ (x : Answer E). answers_to kind t m (take i cs) ++ x ∷ []) (told.answer_is ∙ ap (λ (z : Moment E). answer_to kind (view_of kind t z) c) from)
              ∙ ap (λ (x : List (Answer E)). answers_to kind t m (take i cs) ++ x) (sym (told_one kind t d c))
              ∙ sym (told_append kind t m (take i cs) (c ∷ []))
              ∙ ap (answers_to kind t m) (sym more);
          cells_are =
              told.cells_are ∙ ap (λ (z : Moment E). does kind t z c) from
              ∙ sym (done_one kind t d c) ∙ sym (done_append kind t m (take i cs) (c ∷ []))
              ∙ ap (all_done kind t m) (sym more);
        };
        same = et ∙ p.same;
        count = let z = p.count in omega arith;
        room = let z = p.room in omega arith;
      }
