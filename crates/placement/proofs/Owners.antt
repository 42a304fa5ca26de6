-- What shows that an answer is the owner of a cell.
use Rattle.std.proofs.Common.{◌≡◌, ℕ, Some, None, Option, sym, ap, ◌∙◌, arith}
use Rattle.placement.specs.Sites.{Site, Lawful, Owner, Inside}

abbrev paired : (ℕ × ℕ) → Option (ℕ × ℕ) → ℕ × ℕ
paired d (Some p) = p
paired d None = d

-- the entry lies inside and has the cell: no other has it
pub owner_some : (s : Site) (at i j : ℕ) → Lawful s → Inside s i j → s.cell i j ≡ at → Owner s at (Some (i, j))
owner_some s at i j law h e = record {
  there = λ k l p.
      let ek : i ≡ k = ap (λ (o : Option (ℕ × ℕ)). (paired (0, 0) o).0) p in
      let el : j ≡ l = ap (λ (o : Option (ℕ × ℕ)). (paired (0, 0) o).1) p in
      rw (sym ek, sym el) (h, e);
  back = λ k l m f. let o = law.apart i j k l h m (e ∙ sym f) in rw (o.0, o.1);
}

-- no entry inside has the cell
pub owner_none : (s : Site) (at : ℕ) → ((i j : ℕ) → Inside s i j → s.cell i j ≡ at → ⊥) → Owner s at None
owner_none s at out = record {
  there = λ i j p. absurd (let z : ◌≡◌ {A = ℕ} 0 1 = cc in omega arith);
  back = λ i j h e. absurd (out i j h e);
}
