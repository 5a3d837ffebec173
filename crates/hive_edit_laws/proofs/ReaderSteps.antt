-- What is known of the steps of a reading that gave something.
use Rattle.std.proofs.Common.{◌≡◌, ◌⊎◌, inl, inr, ℕ, List, [], ◌∷◌, ◌++◌, refl, ap, sym, subst, Bool, true, false, Ok, Err, Result, Some, None, Option}
use Rattle.refusals.specs.declared.refusal.Refusal.{Refusal}
use Rattle.refusals.specs.declared.refusal.Cause.{Cause}
use Rattle.hive_records.specs.Readers.{Read, Reader, done, refuse, joined_if, own_if, look, lent_if, look_lent, choice, rule, barred, ◌⟫◌}
use Rattle.hive_records.specs.Fields.{Gives}
use Rattle.hive_cells.specs.Bins.{Cells}
use Rattle.hive_records.proofs.Local.{never_ok}

pub record BindStep {A B : Type 0} (m : Reader A) (f : A → Reader B) (cells : Cells) (own lent : List ℕ) (y : B) : Type 0 where
  pub x : A
  pub own_first : List ℕ
  pub lent_first : List ℕ
  pub own_next : List ℕ
  pub lent_next : List ℕ
  pub first : Gives m cells own_first lent_first x
  pub next : Gives (f x) cells own_next lent_next y
  pub own_is : own ≡ own_first ++ own_next
  pub lent_is : lent ≡ lent_first ++ lent_next

module _ {A B : Type 0} where
  pub split_of : (m : Reader A) (f : A → Reader B) (cells : Cells) (own lent : List ℕ) (y : B) → Gives (m ⟫ f) cells own lent y → BindStep m f cells own lent y
  unfolding ◌⟫◌
  split_of m f cells own lent y h = go (m cells).says refl
    where
      go : (s : Result A Refusal) → (m cells).says ≡ s → BindStep m f cells own lent y
      go (Err r) e = never_ok r y (ap (λ (z : Read B). z.says) (subst (λ (s : Result A Refusal). joined_if (m cells).own (m cells).lent s (λ x. f x cells) ≡ record { own = own; lent = lent; says = Ok y }) e h.reads))
      go (Ok x) e =
          let is : joined_if (m cells).own (m cells).lent (Ok x) (λ x. f x cells) ≡ record { own = own; lent = lent; says = Ok y } = subst (λ (s : Result A Refusal). joined_if (m cells).own (m cells).lent s (λ x. f x cells) ≡ record { own = own; lent = lent; says = Ok y }) e h.reads in
          record {
            x = x;
            own_first = (m cells).own;
            lent_first = (m cells).lent;
            own_next = (f x cells).own;
            lent_next = (f x cells).lent;
            first = record { reads = λ i. record { own = (m cells).own; lent = (m cells).lent; says = e i } };
            next = record { reads = λ i. record { own = (f x cells).own; lent = (f x cells).lent; says = (is i).says } };
            own_is = sym (ap (λ (z : Read B). z.own) is);
            lent_is = sym (ap (λ (z : Read B). z.lent) is);
          }

module _ {B : Type 0} where
  pub rule_of : (b : Bool) (c : Cause) (f : Unit {0} → Reader B) (cells : Cells) (own lent : List ℕ) (y : B) → Gives (rule b c ⟫ f) cells own lent y → (b ≡ true) × Gives (f tt) cells own lent y
  unfolding ◌⟫◌ rule choice done refuse
  rule_of true c f cells own lent y h = (refl, record { reads = h.reads })
  rule_of false c f cells own lent y h = never_ok _ y (ap (λ (z : Read B). z.says) h.reads)

  pub barred_of : (b : Bool) (r : Refusal) (f : Unit {0} → Reader B) (cells : Cells) (own lent : List ℕ) (y : B) → Gives (barred b r ⟫ f) cells own lent y → (b ≡ false) × Gives (f tt) cells own lent y
  unfolding ◌⟫◌ barred choice done refuse
  barred_of false r f cells own lent y h = (refl, record { reads = h.reads })
  barred_of true r f cells own lent y h = never_ok r y (ap (λ (z : Read B). z.says) h.reads)

pub record LookStep {B : Type 0} (at : ℕ) (f : List ℕ → Reader B) (cells : Cells) (own lent : List ℕ) (y : B) : Type 0 where
  pub bytes : List ℕ
  pub here : cells at ≡ Some bytes
  pub own_next : List ℕ
  pub next : Gives (f bytes) cells own_next lent y
  pub own_is : own ≡ at ∷ own_next

module _ {B : Type 0} where
  pub look_of : (at : ℕ) (f : List ℕ → Reader B) (cells : Cells) (own lent : List ℕ) (y : B) → Gives (look at ⟫ f) cells own lent y → LookStep at f cells own lent y
  unfolding ◌⟫◌ look
  look_of at f cells own lent y h = go (cells at) refl
    where
      go : (o : Option (List ℕ)) → cells at ≡ o → LookStep at f cells own lent y
      go None e = never_ok _ y (ap (λ (z : Read B). z.says) (subst (λ (o : Option (List ℕ)). joined_if (own_if at o).own (own_if at o).lent (own_if at o).says (λ x. f x cells) ≡ record { own = own; lent = lent; says = Ok y }) e h.reads))
      go (Some bytes) e =
          let is : joined_if (own_if at (Some bytes)).own (own_if at (Some bytes)).lent (own_if at (Some bytes)).says (λ x. f x cells) ≡ record { own = own; lent = lent; says = Ok y } = subst (λ (o : Option (List ℕ)). joined_if (own_if at o).own (own_if at o).lent (own_if at o).says (λ x. f x cells) ≡ record { own = own; lent = lent; says = Ok y }) e h.reads in
          record {
            bytes = bytes;
            here = e;
            own_next = (f bytes cells).own;
            next = record { reads = λ i. record { own = (f bytes cells).own; lent = (is i).lent; says = (is i).says } };
            own_is = sym (ap (λ (z : Read B). z.own) is);
          }

module _ {A : Type 0} where
  pub choice_of : (b : Bool) (m n : Reader A) (cells : Cells) (own lent : List ℕ) (x : A) → Gives (choice b m n) cells own lent x → ((b ≡ true) × Gives m cells own lent x) ⊎ ((b ≡ false) × Gives n cells own lent x)
  unfolding choice
  choice_of true m n cells own lent x h = inl (refl, h)
  choice_of false m n cells own lent x h = inr (refl, h)

  some_ok : (x y : A) → ◌≡◌ {A = Result A Refusal} (Ok x) (Ok y) → x ≡ y
  some_ok x y e = ap (λ (r : Result A Refusal). elim r as (λ z. A) [ Ok v ↦ v | Err c ↦ x ]) e

  pub done_of : (x : A) (cells : Cells) (own lent : List ℕ) (y : A) → Gives (done x) cells own lent y → (own ≡ []) × (lent ≡ []) × (x ≡ y)
  unfolding done
  done_of x cells own lent y h = (sym (ap (λ (z : Read A). z.own) h.reads), sym (ap (λ (z : Read A). z.lent) h.reads), some_ok x y (ap (λ (z : Read A). z.says) h.reads))

pub record LentStep {B : Type 0} (at : ℕ) (f : List ℕ → Reader B) (cells : Cells) (own lent : List ℕ) (y : B) : Type 0 where
  pub bytes : List ℕ
  pub here : cells at ≡ Some bytes
  pub lent_next : List ℕ
  pub next : Gives (f bytes) cells own lent_next y
  pub lent_is : lent ≡ at ∷ lent_next

module _ {B : Type 0} where
  pub lent_of : (at : ℕ) (f : List ℕ → Reader B) (cells : Cells) (own lent : List ℕ) (y : B) → Gives (look_lent at ⟫ f) cells own lent y → LentStep at f cells own lent y
  unfolding ◌⟫◌ look_lent
  lent_of at f cells own lent y h = go (cells at) refl
    where
      go : (o : Option (List ℕ)) → cells at ≡ o → LentStep at f cells own lent y
      go None e = never_ok _ y (ap (λ (z : Read B). z.says) (subst (λ (o : Option (List ℕ)). joined_if (lent_if at o).own (lent_if at o).lent (lent_if at o).says (λ x. f x cells) ≡ record { own = own; lent = lent; says = Ok y }) e h.reads))
      go (Some bytes) e =
          let is : joined_if (lent_if at (Some bytes)).own (lent_if at (Some bytes)).lent (lent_if at (Some bytes)).says (λ x. f x cells) ≡ record { own = own; lent = lent; says = Ok y } = subst (λ (o : Option (List ℕ)). joined_if (lent_if at o).own (lent_if at o).lent (lent_if at o).says (λ x. f x cells) ≡ record { own = own; lent = lent; says = Ok y }) e h.reads in
          record {
            bytes = bytes;
            here = e;
            lent_next = (f bytes cells).lent;
            next = record { reads = λ i. record { own = (is i).own; lent = (f bytes cells).lent; says = (is i).says } };
            lent_is = sym (ap (λ (z : Read B). z.lent) is);
          }
