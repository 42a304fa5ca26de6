-- What stands in a store into which a table was written, and that there is one such store.
use Rattle.std.proofs.Common.{◌≡◌, ℕ, zero, suc, ◌<◌, ◌≤◌, Bool, true, false, ◌⊎◌, List, length, get_or, set, sym, refl, ap, ◌∙◌, inl, inr, arith}
use Rattle.std.proofs.lemmas.List.{length-set, get_or-set_same, get_or-set_other, same_lists, get_or_default}
use Rattle.std.proofs.lemmas.Bool.{cases_eq, both_ways}
use Rattle.placement.specs.Sites.{Site, Lawful, Inside}
use Rattle.placement.specs.Cells.{owned}
use Rattle.placement.proofs.Cells.{owned_means, owned_from}
use Rattle.laws.specs.Products.{Table}
use Rattle.laws.specs.Stores.{entry_of, row_stored, rows_stored, stored, Holds, StoreLaw}

-- ---- a row

module _ {E : Type 0} (cell : ℕ → ℕ) (f : ℕ → E) (s : List E) where
  row_length : (n : ℕ) → length (row_stored cell f s n) ≡ length s
  unfolding row_stored
  row_length zero = refl
  row_length (suc n) = length-set (row_stored cell f s n) (cell n) (f n) ∙ row_length n

  row_other : (n a : ℕ) (d : E) → ((j : ℕ) → j < n → cell j ≡ a → ⊥) → get_or (row_stored cell f s n) a d ≡ get_or s a d
  unfolding row_stored
  row_other zero a d free = refl
  row_other (suc n) a d free =
      get_or-set_other (row_stored cell f s n) (cell n) a (f n) d (λ e. free n (omega arith) (sym e))
      ∙ row_other n a d (λ j h. free j (omega arith))

  row_at : (n j : ℕ) (d : E) → ((k l : ℕ) → k < n → l < n → cell k ≡ cell l → k ≡ l) → j < n → cell j < length s → get_or (row_stored cell f s n) (cell j) d ≡ f j
  unfolding row_stored
  row_at zero j d apart h r = let never : ⊥ = omega arith in absurd never
  row_at (suc n) j d apart h r =
      elim (cases_eq j n) [
        | inl e ↦ rw e (get_or-set_same (row_stored cell f s n) (cell n) (f n) d (let z = row_length n in let y = ap cell e in omega arith))
        | inr e ↦
            get_or-set_other (row_stored cell f s n) (cell n) (cell j) (f n) d (λ w. e (apart j n h (omega arith) w))
            ∙ row_at n j d (λ k l a b. apart k l (omega arith) (omega arith)) (omega arith) r
      ]

-- ---- the rows

module _ {E : Type 0} (p : Site) (law : Lawful p) (f : Table E) (s : List E) where
  rows_length : (n : ℕ) → length (rows_stored p f s n) ≡ length s
  unfolding rows_stored
  rows_length zero = refl
  rows_length (suc n) = row_length (p.cell n) (f n) (rows_stored p f s n) p.columns ∙ rows_length n

  rows_other : (n a : ℕ) (d : E) → ((i j : ℕ) → i < n → j < p.columns → p.cell i j ≡ a → ⊥) → get_or (rows_stored p f s n) a d ≡ get_or s a d
  unfolding rows_stored
  rows_other zero a d free = refl
  rows_other (suc n) a d free =
      row_other (p.cell n) (f n) (rows_stored p f s n) p.columns a d (λ j h. free n j (omega arith) h)
      ∙ rows_other n a d (λ i j h. free i j (omega arith))

  rows_at : (n i j : ℕ) (d : E) → n ≤ p.rows → i < n → j < p.columns → p.span ≤ length s → get_or (rows_stored p f s n) (p.cell i j) d ≡ f i j
  unfolding rows_stored
  rows_at zero i j d h hi hj r = let never : ⊥ = omega arith in absurd never
  rows_at (suc n) i j d h hi hj r =
      let b = law.below i j (omega arith, hj) in
      let z = rows_length n in
      elim (cases_eq i n) [
        | inl e ↦
            rw e (row_at (p.cell n) (f n) (rows_stored p f s n) p.columns j d
            (λ k l a c w. (law.apart n k n l (omega arith, a) (omega arith, c) w).1) hj (let y = ap (λ (x : ℕ). p.cell x j) e in omega arith))
        | inr e ↦
            row_other (p.cell n) (f n) (rows_stored p f s n) p.columns (p.cell i j) d
            (λ k a w. e (sym (law.apart n k i j (omega arith, a) (omega arith, hj) w).0))
            ∙ rows_at n i j d (omega arith) (omega arith) hj r
      ]

  pub stored_holds : p.span ≤ length s → Holds p f s (stored p f s)
  unfolding stored
  stored_holds r = record {
    size = rows_length p.rows;
    entries = λ i j d h. rows_at p.rows i j d (omega arith) h.0 h.1 r;
    others = λ a d free. rows_other p.rows a d (λ i j hi hj. free i j (hi, hj));
  }

  -- two stores that hold the table, with the other cells as they were, are one
  pub one_store : (a b : List E) → Holds p f s a → Holds p f s b → a ≡ b
  one_store a b ha hb = same_lists a b (ha.size ∙ sym hb.size) (λ k d h. at k d (owned p.rows p.columns p.cell k) refl)
    where
      at : (k : ℕ) (d : E) (o : Bool) → owned p.rows p.columns p.cell k ≡ o → get_or a k d ≡ get_or b k d
      at k d true e =
          let m : (i : ℕ) × (j : ℕ) × (i < p.rows) × (j < p.columns) × (p.cell i j ≡ k) = owned_means p.rows p.columns p.cell k e in
          let x : get_or a (p.cell m.0 m.1) d ≡ get_or b (p.cell m.0 m.1) d = ha.entries m.0 m.1 d (m.2, m.3) ∙ sym (hb.entries m.0 m.1 d (m.2, m.3)) in
          sym (ap (λ (n : ℕ). get_or a n d) m.4) ∙ x ∙ ap (λ (n : ℕ). get_or b n d) m.4
      at k d false e =
          let free : (i j : ℕ) → Inside p i j → p.cell i j ≡ k → ⊥ = λ i j h w. both_ways (owned p.rows p.columns p.cell k) e (owned_from p.rows p.columns p.cell k i j h.0 h.1 w) in
          ha.others k d free ∙ sym (hb.others k d free)

  pub stored_only : p.span ≤ length s → (later : List E) → Holds p f s later → later ≡ stored p f s
  stored_only r later h = one_store later (stored p f s) h (stored_holds r)

pub store_law : (E : Type 0) → StoreLaw E
store_law E p f s law r = (stored_holds p law f s r, stored_only p law f s r)

-- ---- how loops and calls go on

module _ {E : Type 0} (p : Site) (law : Lawful p) (s : List E) (long : p.span ≤ length s) where
  pub stored_length : (f : Table E) → length (stored p f s) ≡ length s
  stored_length f = (stored_holds p law f s long).size

  pub stored_entry : (f : Table E) (i j : ℕ) (d : E) → Inside p i j → get_or (stored p f s) (p.cell i j) d ≡ f i j
  stored_entry f = (stored_holds p law f s long).entries

  -- where each entry is what it was, so is the store
  pub stored_none : (f : Table E) (nought : E) → ((i j : ℕ) → Inside p i j → f i j ≡ entry_of p nought s i j) → s ≡ stored p f s
  stored_none f nought e =
      stored_only p law f s long s (record {
        size = refl;
        entries = λ i j d h. let b = law.below i j h in get_or_default s (p.cell i j) d nought (omega arith) ∙ sym (e i j h);
        others = λ a d free. refl;
      })

  pub stored_same : (f g : Table E) → ((i j : ℕ) → Inside p i j → f i j ≡ g i j) → stored p f s ≡ stored p g s
  stored_same f g e =
      let m = stored_holds p law f s long in
      stored_only p law g s long (stored p f s) (record {
        size = m.size;
        entries = λ i j d h. m.entries i j d h ∙ e i j h;
        others = m.others;
      })

  -- one entry more is written
  pub stored_more : (f g : Table E) (i j : ℕ) → Inside p i j → ((k l : ℕ) → Inside p k l → ((k ≡ i) × (l ≡ j) → ⊥) → g k l ≡ f k l) → set (stored p f s) (p.cell i j) (g i j) ≡ stored p g s
  stored_more f g i j h e =
      let m = stored_holds p law f s long in
      let b = law.below i j h in
      let z = m.size in
      let a = p.cell i j in
      stored_only p law g s long (set (stored p f s) a (g i j)) (record {
        size = length-set (stored p f s) a (g i j) ∙ m.size;
        entries = λ k l d w. at k l d w (cases_eq (p.cell k l) a);
        others = λ c d free. get_or-set_other (stored p f s) a c (g i j) d (λ q. free i j h (sym q)) ∙ m.others c d free;
      })
    where
      at : (k l : ℕ) (d : E) → Inside p k l → (p.cell k l ≡ p.cell i j) ⊎ (p.cell k l ≡ p.cell i j → ⊥) → get_or (set (stored p f s) (p.cell i j) (g i j)) (p.cell k l) d ≡ g k l
      at k l d w (inl q) =
          let o = law.apart k l i j w h q in
          let b = law.below i j h in
          let z = stored_length f in
          let y : get_or (set (stored p f s) (p.cell i j) (g i j)) (p.cell i j) d ≡ g i j = get_or-set_same (stored p f s) (p.cell i j) (g i j) d (omega arith) in
          rw (o.0, o.1) y
      at k l d w (inr q) =
          get_or-set_other (stored p f s) (p.cell i j) (p.cell k l) (g i j) d q
          ∙ stored_entry f k l d w
          ∙ sym (e k l w (λ o. q (ap (λ (x : ℕ). p.cell x l) o.0 ∙ ap (p.cell i) o.1)))

  -- a table written over another
  pub stored_stored : (f g : Table E) → stored p g (stored p f s) ≡ stored p g s
  stored_stored f g =
      let m = stored_holds p law f s long in
      let z = m.size in
      let n = stored_holds p law g (stored p f s) (omega arith) in
      stored_only p law g s long (stored p g (stored p f s)) (record {
        size = n.size ∙ m.size;
        entries = n.entries;
        others = λ a d free. n.others a d free ∙ m.others a d free;
      })

  -- a table written over another, each entry made of the one that is there
  pub stored_next : (nought : E) (f : Table E) (g : ℕ → ℕ → E → E) → stored p (λ i j. g i j (entry_of p nought (stored p f s) i j)) (stored p f s) ≡ stored p (λ i j. g i j (f i j)) s
  stored_next nought f g =
      stored_stored f (λ i j. g i j (entry_of p nought (stored p f s) i j))
      ∙ stored_same (λ i j. g i j (entry_of p nought (stored p f s) i j)) (λ i j. g i j (f i j)) (λ i j h. ap (g i j) (stored_entry f i j nought h))
