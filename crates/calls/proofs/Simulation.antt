-- What a call does to the stores is what the model says of the tables in them.
use Rattle.std.proofs.Common.{◌≡◌, ℕ, Bool, true, false, not, eqb, leb, IfOk, Ok, Err, Result, refl, ap, ◌∙◌}
use Rattle.masked.specs.declared.refusal.Refusal.{Refusal}
use Rattle.masked.specs.declared.refusal.Refusal.TheVariants.{Table as NoTable, Store, Outside, Mismatch, TileOrder}
use Rattle.kinds.specs.declared.kind.Kind.{Ghosts as Kinds}
use Rattle.calls.specs.declared.table.Table.{Table as Which}
use Rattle.calls.specs.declared.table.Table.TheVariants.{Left, Right, Result as Product}
use Rattle.calls.specs.declared.call.Call.{Call}
use Rattle.calls.specs.declared.call.Call.TheVariants.{Put, Get, Clear, Copy, Begin, Step, Remaining, End}
use Rattle.calls.specs.declared.call.Answer.{Answer}
use Rattle.calls.specs.declared.call.Answer.TheVariants.{Done, Made}
use Rattle.calls.specs.Tables.{table_numbered}
use Rattle.calls.specs.Views.{Mode, idle, running, View, seen, within, with_entries, with_mode, provided, and_then, entry_put, put_told, clear_told, copy_fits, turned, copy_told, joins, begin_told, step_made, step_told, replied, reply_in, reply, next}
use Rattle.calls.specs.Moments.{Trio, Placed, Moment, view_of, moment_of, does}
use Rattle.calls.proofs.Own.{kept_moment, longs, left_moment, right_moment, result_moment, left_view, right_view, result_view}

-- ---- what a call may leave of a view: the same entries, or, in stores that are long enough, other entries of one table

pub data Leads {E : Type 0} (kind : Kinds E) (v w : View E) : Type 0 where
  kept : (x : Mode) → w ≡ with_mode v x → Leads kind v w
  changed : v.long ≡ true → (t : Which) (f : ℕ → ℕ → E) (x : Mode) → w ≡ with_mode (with_entries kind v t f) x → Leads kind v w

made_provided : {A : Type 0} (b : Bool) (refusal : Refusal) (r : Result A Refusal) (P : A → Type 0) → (b ≡ true → IfOk r P) → IfOk (provided b refusal r) P
made_provided true refusal r P h = h refl
made_provided false refusal r P h = tt

made_then : {A B : Type 0} (r : Result A Refusal) (f : A → Result B Refusal) (P : B → Type 0) → ((x : A) → IfOk (f x) P) → IfOk (and_then r f) P
made_then (Ok x) f P h = h x
made_then (Err refusal) f P h = tt

module _ {E : Type 0} (kind : Kinds E) (v : View E) where
  stays : Leads kind v v
  stays = kept v.mode refl

  replied_leads : (a : Answer E) (r : Result (View E) Refusal) → IfOk r (Leads kind v) → Leads kind v (replied v a r).after
  replied_leads a (Ok w) h = h
  replied_leads a (Err refusal) h = stays

  entries_lead : (t : Which) (f : ℕ → ℕ → E) → v.long ≡ true → Leads kind v (with_entries kind v t f)
  entries_lead Left f h = changed h Left f v.mode refl
  entries_lead Right f h = changed h Right f v.mode refl
  entries_lead Product f h = changed h Product f v.mode refl

  put_leads : (n i j : ℕ) (x : E) → IfOk (put_told kind v n i j x) (Leads kind v)
  unfolding put_told
  put_leads n i j x =
      let f : Which → ℕ → ℕ → E = λ t. entry_put (seen v t).entry i j x in
      made_then (table_numbered n) _ (Leads kind v)
      (λ t. made_provided v.long Store _ (Leads kind v)
      (λ h. made_provided (within (seen v t) i j) Outside (Ok (with_entries kind v t (f t))) (Leads kind v) (λ _. entries_lead t (f t) h)))

  clear_leads : (n : ℕ) → IfOk (clear_told kind v n) (Leads kind v)
  unfolding clear_told
  clear_leads n =
      made_then (table_numbered n) _ (Leads kind v)
      (λ t. made_provided v.long Store (Ok (with_entries kind v t (λ _ _. kind.nought))) (Leads kind v) (λ h. entries_lead t (λ _ _. kind.nought) h))

  copy_leads : (to from : ℕ) (transposed : Bool) → IfOk (copy_told kind v to from transposed) (Leads kind v)
  unfolding copy_told
  copy_leads to from transposed =
      made_then (table_numbered to) _ (Leads kind v)
      (λ t. made_then (table_numbered from) _ (Leads kind v)
      (λ u. made_provided (not (eqb to from)) NoTable _ (Leads kind v)
      (λ _. made_provided v.long Store _ (Leads kind v)
      (λ h. made_provided (copy_fits transposed (seen v t) (seen v u)) Mismatch (Ok (with_entries kind v t (turned transposed (seen v u).entry))) (Leads kind v)
      (λ _. entries_lead t (turned transposed (seen v u).entry) h)))))

  begin_leads : (order : ℕ) → IfOk (begin_told v order) (Leads kind v)
  unfolding begin_told
  begin_leads order =
      made_provided (joins v) Mismatch _ (Leads kind v)
      (λ _. made_provided (leb order 12) TileOrder (Ok (with_mode v (running order 0))) (Leads kind v) (λ _. kept (running order 0) refl))

  step_leads : (order m n : ℕ) → IfOk (step_told kind v order m n) (Leads kind v)
  unfolding step_told
  step_leads order m n =
      made_provided v.long Store (Ok (with_mode (with_entries kind v Product _) (running order _))) (Leads kind v)
      (λ h. changed h Product _ (running order _) refl)

  leads_in : (mode : Mode) (c : Call E) → Leads kind v (reply_in kind v mode c).after
  leads_in idle (Put n i j x) = replied_leads Done (put_told kind v n i j x) (put_leads n i j x)
  leads_in idle (Get n i j) = stays
  leads_in idle (Clear n) = replied_leads Done (clear_told kind v n) (clear_leads n)
  leads_in idle (Copy to from transposed) = replied_leads Done (copy_told kind v to from transposed) (copy_leads to from transposed)
  leads_in idle (Begin order) = replied_leads Done (begin_told v order) (begin_leads order)
  leads_in idle (Step n) = stays
  leads_in idle Remaining = stays
  leads_in idle End = stays
  leads_in (running order m) (Put n i j x) = stays
  leads_in (running order m) (Get n i j) = stays
  leads_in (running order m) (Clear n) = stays
  leads_in (running order m) (Copy to from transposed) = stays
  leads_in (running order m) (Begin o) = stays
  leads_in (running order m) (Step n) = replied_leads (Made (step_made v order m n)) (step_told kind v order m n) (step_leads order m n)
  leads_in (running order m) Remaining = stays
  leads_in (running order m) End = kept idle refl

  pub leads : (c : Call E) → Leads kind v (next kind v c)
  unfolding reply
  leads c = leads_in v.mode c

-- ---- stores that hold what a view shows

module _ {E : Type 0} (kind : Kinds E) (t : Trio) (law : Placed t) (m : Moment E) where
  pub shown : (w : View E) → Leads kind (view_of kind t m) w → view_of kind t (moment_of t m w) ≡ w
  unfolding view_of
  shown w (kept x e) = rw e (ap (view_of kind t) (kept_moment kind t m x))
  shown w (changed long Left f x e) =
      let l = longs kind t m long in rw e (ap (view_of kind t) (left_moment kind t law m l x f) ∙ left_view kind t law m l x f)
  shown w (changed long Right f x e) =
      let l = longs kind t m long in rw e (ap (view_of kind t) (right_moment kind t law m l x f) ∙ right_view kind t law m l x f)
  shown w (changed long Product f x e) =
      let l = longs kind t m long in rw e (ap (view_of kind t) (result_moment kind t law m l x f) ∙ result_view kind t law m l x f)

  -- the tables in the stores that a call leaves are those that the model says
  pub simulates : (c : Call E) → view_of kind t (does kind t m c) ≡ next kind (view_of kind t m) c
  unfolding does
  simulates c = shown (next kind (view_of kind t m) c) (leads kind (view_of kind t m) c)
