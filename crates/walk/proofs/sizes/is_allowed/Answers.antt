use Rattle.std.proofs.Common.{◌≡◌, true, false, [], ◌∷◌, rules, tests, arith}
use Rattle.std.proofs.lemmas.Iterator.{cases_from_all, YieldsList-from_slice}
use Rattle.walk.specs.Walks.{allowed, side}
use Rattle.walk.proofs.sizes.is_allowed.Goals as goal

pub returns-then-all : goal.returns-then-all
unfolding allowed
returns-then-all c =
    let s = c.args.sizes in
    let k = cases_from_all _ _ _ (λ x. side x ≡ true) (λ x. side x ≡ false) c.all.ensures.ran (YieldsList-from_slice (s.rows ∷ s.columns ∷ s.middle ∷ []) cc)
    (λ x q k. search (rules, tests)) (λ x q k. search (rules, tests)) in
    let all = rw c.if-all.true at k in
    let a : side s.rows ≡ true = all 0 0 (omega arith) (omega arith) in
    let b : side s.columns ≡ true = all 1 0 (omega arith) (omega arith) in
    let d : side s.middle ≡ true = all 2 0 (omega arith) (omega arith) in
    rw (a, b, d)
