-- What is read depends on no cells but those looked at, and these are there.
use Rattle.std.proofs.Common.{◌≡◌, inl, inr, ℕ, List, [], ◌∷◌, ◌++◌, refl, ◌∙◌, ap, sym, Bool, true, false, Ok, Err, Result, Some, None, Option, is_some}
use Rattle.refusals.specs.declared.refusal.Refusal.{Refusal}
use Rattle.refusals.specs.declared.refusal.Refusal.TheVariants as refusal
use Rattle.refusals.specs.declared.refusal.Cause.{Cause}
use Rattle.hive_tree_model.specs.Lists.{IsIn}
use Rattle.hive_tree_model.proofs.Basics.{ok_err, in_front, in_back, in_either}
use Rattle.hive_records.specs.Readers.{Read, Reader, done, refuse, joined_if, ◌⟫◌, own_if, look, lent_if, look_lent, choice, rule, barred, each}
use Rattle.hive_cells.specs.Bins.{Cells}

abbrev Agree : Cells → Cells → List ℕ → Type 0
Agree old new cells = (cell : ℕ) → IsIn cell cells → new cell ≡ old cell

pub record Local {A : Type 0} (m : Reader A) : Type 0 where
  pub stays : (old new : Cells) (x : A) → (m old).says ≡ Ok x → Agree old new (m old).own → Agree old new (m old).lent → m new ≡ m old
  pub own_there : (cells : Cells) (cell : ℕ) → IsIn cell (m cells).own → is_some (cells cell) ≡ true
  pub lent_there : (cells : Cells) (cell : ℕ) → IsIn cell (m cells).lent → is_some (cells cell) ≡ true

pub never_ok : {A B : Type 0} (r : Refusal) (x : A) → ◌≡◌ {A = Result A Refusal} (Err r) (Ok x) → B
never_ok r x e = ok_err x r (sym e)

pub local_done : {A : Type 0} (x : A) → Local (done x)
unfolding done
local_done x = record { stays = λ old new y h a b. refl; own_there = λ cells cell h. absurd h; lent_there = λ cells cell h. absurd h }

pub local_refuse : {A : Type 0} (r : Refusal) → Local {A = A} (refuse r)
unfolding refuse
local_refuse r = record { stays = λ old new y h a b. refl; own_there = λ cells cell h. absurd h; lent_there = λ cells cell h. absurd h }

pub local_choice : {A : Type 0} {m n : Reader A} (b : Bool) → Local m → Local n → Local (choice b m n)
unfolding choice
local_choice true h g = h
local_choice false h g = g

pub local_rule : (b : Bool) (c : Cause) → Local (rule b c)
unfolding rule
local_rule b c = local_choice b (local_done tt) (local_refuse (refusal.HiveDamaged 0 c))

pub local_barred : (b : Bool) (r : Refusal) → Local (barred b r)
unfolding barred
local_barred b r = local_choice b (local_refuse r) (local_done tt)

look_so : (at : ℕ) (o p : Option (List ℕ)) (x : List ℕ) → (own_if at o).says ≡ Ok x → (IsIn at (own_if at o).own → p ≡ o) → own_if at p ≡ own_if at o
look_so at None p x h same = never_ok (refusal.HiveDamaged 0 _) x h
look_so at (Some d) p x h same = ap (own_if at) (same (inl refl))

own_some : (at cell : ℕ) (cells : Cells) (o : Option (List ℕ)) → cells at ≡ o → IsIn cell (own_if at o).own → is_some (cells cell) ≡ true
own_some at cell cells None e h = absurd h
own_some at cell cells (Some d) e (inl g) = ap is_some (ap cells g ∙ e)
own_some at cell cells (Some d) e (inr h) = absurd h

own_none : (at cell : ℕ) (cells : Cells) (o : Option (List ℕ)) → IsIn cell (own_if at o).lent → is_some (cells cell) ≡ true
own_none at cell cells None h = absurd h
own_none at cell cells (Some d) h = absurd h

pub local_look : (at : ℕ) → Local (look at)
unfolding look
local_look at = record { stays = λ old new x h a b. look_so at (old at) (new at) x h (λ i. a at i); own_there = λ cells cell h. own_some at cell cells (cells at) refl h; lent_there = λ cells cell h. own_none at cell cells (cells at) h }

lent_so : (at : ℕ) (o p : Option (List ℕ)) (x : List ℕ) → (lent_if at o).says ≡ Ok x → (IsIn at (lent_if at o).lent → p ≡ o) → lent_if at p ≡ lent_if at o
lent_so at None p x h same = never_ok (refusal.HiveDamaged 0 _) x h
lent_so at (Some d) p x h same = ap (lent_if at) (same (inl refl))

lent_some : (at cell : ℕ) (cells : Cells) (o : Option (List ℕ)) → cells at ≡ o → IsIn cell (lent_if at o).lent → is_some (cells cell) ≡ true
lent_some at cell cells None e h = absurd h
lent_some at cell cells (Some d) e (inl g) = ap is_some (ap cells g ∙ e)
lent_some at cell cells (Some d) e (inr h) = absurd h

lent_none : (at cell : ℕ) (cells : Cells) (o : Option (List ℕ)) → IsIn cell (lent_if at o).own → is_some (cells cell) ≡ true
lent_none at cell cells None h = absurd h
lent_none at cell cells (Some d) h = absurd h

pub local_look_lent : (at : ℕ) → Local (look_lent at)
unfolding look_lent
local_look_lent at = record { stays = λ old new x h a b. lent_so at (old at) (new at) x h (λ i. b at i); own_there = λ cells cell h. lent_none at cell cells (cells at) h; lent_there = λ cells cell h. lent_some at cell cells (cells at) refl h }

module _ {A B : Type 0} where
  own_front : (own lent : List ℕ) (s : Result A Refusal) (f : A → Read B) (cell : ℕ) → IsIn cell own → IsIn cell (joined_if own lent s f).own
  own_front own lent (Ok x) f cell h = in_front cell own (f x).own h
  own_front own lent (Err r) f cell h = h

  lent_front : (own lent : List ℕ) (s : Result A Refusal) (f : A → Read B) (cell : ℕ) → IsIn cell lent → IsIn cell (joined_if own lent s f).lent
  lent_front own lent (Ok x) f cell h = in_front cell lent (f x).lent h
  lent_front own lent (Err r) f cell h = h

  went_on : (old new : Cells) (own lent : List ℕ) (s : Result A Refusal) (f : A → Reader B) → ((x : A) → Local (f x)) → (y : B) → (joined_if own lent s (λ x. f x old)).says ≡ Ok y →
      Agree old new (joined_if own lent s (λ x. f x old)).own → Agree old new (joined_if own lent s (λ x. f x old)).lent →
      joined_if own lent s (λ x. f x new) ≡ joined_if own lent s (λ x. f x old)
  went_on old new own lent (Err r) f local y h a b = refl
  went_on old new own lent (Ok x) f local y h a b =
      let e : f x new ≡ f x old = (local x).stays old new y h (λ cell i. a cell (in_back cell own (f x old).own i)) (λ cell i. b cell (in_back cell lent (f x old).lent i)) in
      λ i. record { own = own ++ (e i).own; lent = lent ++ (e i).lent; says = (e i).says }

  refused_first : (own lent : List ℕ) (s : Result A Refusal) (f : A → Read B) (r : Refusal) (y : B) → s ≡ Err r → (joined_if own lent s f).says ≡ Ok y → ⊥
  refused_first own lent (Ok x) f r y e h = ok_err x r e
  refused_first own lent (Err q) f r y e h = never_ok q y h

  own_both : (cells : Cells) (own lent : List ℕ) (s : Result A Refusal) (f : A → Reader B) → ((x : A) (cell : ℕ) → IsIn cell (f x cells).own → is_some (cells cell) ≡ true) → (cell : ℕ) → IsIn cell (joined_if own lent s (λ x. f x cells)).own → (IsIn cell own → is_some (cells cell) ≡ true) → is_some (cells cell) ≡ true
  own_both cells own lent (Ok x) f next cell h first = elim (in_either cell own (f x cells).own h) [ inl i ↦ first i | inr i ↦ next x cell i ]
  own_both cells own lent (Err r) f next cell h first = first h

  lent_both : (cells : Cells) (own lent : List ℕ) (s : Result A Refusal) (f : A → Reader B) → ((x : A) (cell : ℕ) → IsIn cell (f x cells).lent → is_some (cells cell) ≡ true) → (cell : ℕ) → IsIn cell (joined_if own lent s (λ x. f x cells)).lent → (IsIn cell lent → is_some (cells cell) ≡ true) → is_some (cells cell) ≡ true
  lent_both cells own lent (Ok x) f next cell h first = elim (in_either cell lent (f x cells).lent h) [ inl i ↦ first i | inr i ↦ next x cell i ]
  lent_both cells own lent (Err r) f next cell h first = first h

  pub local_bind : {m : Reader A} {f : A → Reader B} → Local m → ((x : A) → Local (f x)) → Local (m ⟫ f)
  unfolding ◌⟫◌
  local_bind {m} {f} first next = record {
    stays = λ old new y h a b. go old new y h a b (m old).says refl;
    own_there = λ cells cell h. own_both cells (m cells).own (m cells).lent (m cells).says f (λ x. (next x).own_there cells) cell h (λ i. first.own_there cells cell i);
    lent_there = λ cells cell h. lent_both cells (m cells).own (m cells).lent (m cells).says f (λ x. (next x).lent_there cells) cell h (λ i. first.lent_there cells cell i);
  }
    where
      go : (old new : Cells) (y : B) → (joined_if (m old).own (m old).lent (m old).says (λ x. f x old)).says ≡ Ok y →
          Agree old new (joined_if (m old).own (m old).lent (m old).says (λ x. f x old)).own → Agree old new (joined_if (m old).own (m old).lent (m old).says (λ x. f x old)).lent →
          (s : Result A Refusal) → (m old).says ≡ s → joined_if (m new).own (m new).lent (m new).says (λ x. f x new) ≡ joined_if (m old).own (m old).lent (m old).says (λ x. f x old)
      go old new y h a b (Err r) e = absurd (refused_first (m old).own (m old).lent (m old).says (λ x. f x old) r y e h)
      go old new y h a b (Ok x) e =
          let same : m new ≡ m old = first.stays old new x e (λ cell i. a cell (own_front (m old).own (m old).lent (m old).says (λ x. f x old) cell i)) (λ cell i. b cell (lent_front (m old).own (m old).lent (m old).says (λ x. f x old) cell i)) in
          ap (λ (r : Read A). joined_if r.own r.lent r.says (λ x. f x new)) same ∙ went_on old new (m old).own (m old).lent (m old).says f next y h a b

pub local_each : {A B : Type 0} {f : A → Reader B} → ((x : A) → Local (f x)) → (xs : List A) → Local (each f xs)
unfolding each
local_each local [] = local_done []
local_each local (x ∷ xs) = local_bind (local x) (λ y. local_bind (local_each local xs) (λ ys. local_done (y ∷ ys)))
