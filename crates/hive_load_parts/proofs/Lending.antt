-- Descriptors that are kept as they are read, and the cells that a key is lent.
use Rattle.std.proofs.Common.{◌≡◌, ◌≢◌, ◌⊎◌, ◌↔◌, ◌==◌, inl, inr, ℕ, List, [], ◌∷◌, ◌++◌, refl, ◌∙◌, ap, sym, subst, Bool, true, false, Option, Some, None, IsSome, Ok, Err, Result, eqb, append-nil}
use Rattle.std.proofs.lemmas.Bool.{eqb-true, eq-eqb}
use Rattle.refusals.specs.declared.refusal.Refusal.{Refusal}
use Rattle.refusals.specs.declared.refusal.Refusal.TheVariants as refusal
use Rattle.refusals.specs.declared.refusal.Cause.TheVariants as cause
use Rattle.reg_tree_parts.specs.Rows.{Row, ValueMap}
use Rattle.hive_tree_model.specs.Lists.{IsIn}
use Rattle.hive_tree_model.specs.Loads.{CellMarks, Marked}
use Rattle.hive_tree_model.proofs.Basics.{decided, clash, some_same}
use Rattle.hive_tree_model.proofs.Loading.{none_marked}
use Rattle.hive_cells.specs.Bins.{Cells, Shows}
use Rattle.hive_records.specs.Readers.{Read, Reader, joined_if, own_if, look, look_lent, lent_if, choice, done, ◌⟫◌}
use Rattle.hive_records.specs.Numbers.{nil_offset}
use Rattle.hive_records.specs.Values.{values_at}
use Rattle.hive_records.specs.Lists.{subkeys_at}
use Rattle.hive_records.specs.KeyNodes.{class_at, descriptor_at, lends_in}
use Rattle.hive_records.specs.Heads.{key_node_fault, IsKeyNode, security_fault, IsSecurity}
use Rattle.hive_records.specs.RecordReaders.{units_of, key_from}
use Rattle.hive_records.specs.Follows.{Follows}
use Rattle.hive_records.specs.declared.key_node.KeyNode.{KeyNode}
use Rattle.hive_records.specs.declared.security_cell.Security.{Security}
use Rattle.hive_records.proofs.RecordReaders.{key_on, descriptor_out, descriptor_on}
use Rattle.hive_load_parts.specs.Descriptors.{descriptor_in, AreDescriptors, KeepsDescriptors, SaysLent}
use Rattle.hive_load_parts.proofs.ValueSteps.{looked_at}
use Rattle.hive_load_parts.proofs.NoneLent.{LendsNone, none_class, none_values, none_subkeys}

pub same_or_not : (a b : ℕ) → (a ≡ b) ⊎ (a ≢ b)
same_or_not a b = elim (decided (eqb a b)) [ inl t ↦ inl (eqb-true a b t) | inr f ↦ inr (λ g. clash (eqb a b) (eq-eqb a b g) f) ]

-- ---- what is kept

pub keeps_none : (old : List (ℕ × List ℕ)) → KeepsDescriptors old old []
keeps_none old at = (λ h. inl h, λ h. elim h [ inl k ↦ k | inr i ↦ absurd i ])

pub keeps_same : (old : List (ℕ × List ℕ)) (at : ℕ) → IsSome (descriptor_in old at) → KeepsDescriptors old old (at ∷ [])
keeps_same old at is other = (λ h. inl h, λ h. elim h [ inl k ↦ k | inr i ↦ elim i [ inl e ↦ subst (λ z. IsSome (descriptor_in old z)) (sym e) is | inr z ↦ absurd z ] ])

module _ (old new : List (ℕ × List ℕ)) (at : ℕ) (d : List ℕ) (here : descriptor_in new at ≡ Some d) (others : (other : ℕ) → other ≢ at → descriptor_in new other ≡ descriptor_in old other) where
  is_here : IsSome (descriptor_in new at)
  is_here = subst (λ (o : Option (List ℕ)). IsSome o) (sym here) refl

  keeps_at : (other : ℕ) → (other ≡ at) ⊎ (other ≢ at) → IsSome (descriptor_in new other) ↔ (IsSome (descriptor_in old other) ⊎ IsIn other (at ∷ []))
  keeps_at other (inl e) = (λ h. inr (inl e), λ h. subst (λ z. IsSome (descriptor_in new z)) (sym e) is_here)
  keeps_at other (inr n) = (
    λ h. inl (subst (λ (o : Option (List ℕ)). IsSome o) (others other n) h),
    λ h. elim h [ inl k ↦ subst (λ (o : Option (List ℕ)). IsSome o) (sym (others other n)) k | inr i ↦ elim i [ inl e ↦ absurd (n e) | inr z ↦ absurd z ] ],
  )

  pub keeps_one : KeepsDescriptors old new (at ∷ [])
  keeps_one other = keeps_at other (same_or_not other at)

  known_at : (bytes : List ℕ) → AreDescriptors bytes old → ((cells : Cells) → Shows bytes cells → descriptor_at at cells ≡ record { own = []; lent = at ∷ []; says = Ok d }) →
      (other : ℕ) (its : List ℕ) → (other ≡ at) ⊎ (other ≢ at) → descriptor_in new other ≡ Some its → (cells : Cells) → Shows bytes cells → descriptor_at other cells ≡ record { own = []; lent = other ∷ []; says = Ok its }
  known_at bytes known says other its (inl e) is cells shows =
      let same : d ≡ its = some_same d its (sym here ∙ ap (descriptor_in new) (sym e) ∙ is) in
      subst (λ (z : ℕ). descriptor_at z cells ≡ record { own = []; lent = z ∷ []; says = Ok its }) (sym e)
      (subst (λ (z : List ℕ). descriptor_at at cells ≡ record { own = []; lent = at ∷ []; says = Ok z }) same (says cells shows))
  known_at bytes known says other its (inr n) is cells shows = known other its (sym (others other n) ∙ is) cells shows

  pub known_one : (bytes : List ℕ) → AreDescriptors bytes old → ((cells : Cells) → Shows bytes cells → descriptor_at at cells ≡ record { own = []; lent = at ∷ []; says = Ok d }) → AreDescriptors bytes new
  known_one bytes known says other its is cells shows = known_at bytes known says other its (same_or_not other at) is cells shows

-- the cells that are lent, otherwise named
pub keeps_as : (old new : List (ℕ × List ℕ)) (xs ys : List ℕ) → xs ≡ ys → KeepsDescriptors old new xs → KeepsDescriptors old new ys
keeps_as old new xs ys e h = subst (λ (zs : List ℕ). KeepsDescriptors old new zs) e h

-- ---- a security cell

unfold_missing : (at : ℕ) (cells : Cells) (f : List ℕ → Reader (List ℕ)) → cells at ≡ None → ((look_lent at ⟫ f) cells).says ≡ Err (refusal.HiveDamaged 0 cause.BadOffset)
unfolding look_lent ◌⟫◌
unfold_missing at cells f e = ap (λ (o : Option (List ℕ)). (joined_if (lent_if at o).own (lent_if at o).lent (lent_if at o).says (λ x. f x cells)).says) e

chosen_says : (b : Bool) (m n : Reader (List ℕ)) (cells : Cells) (r : Result (List ℕ) Refusal) → b ≡ false → (n cells).says ≡ r → (choice b m n cells).says ≡ r
unfolding choice
chosen_says b m n cells r e h = subst (λ z. (choice z m n cells).says ≡ r) (sym e) h

chosen_lent : (b : Bool) (m n : Reader (List ℕ)) (cells : Cells) → b ≡ true → (m cells).lent ≡ [] → (choice b m n cells).lent ≡ []
unfolding choice
chosen_lent b m n cells e h = subst (λ z. (choice z m n cells).lent ≡ []) (sym e) h

done_lent : (cells : Cells) → (done {A = List ℕ} [] cells).lent ≡ []
unfolding done
done_lent cells = refl

pub nil_lent : (at : ℕ) (cells : Cells) → (at == nil_offset) ≡ true → [] ≡ (descriptor_at at cells).lent
nil_lent at cells e = sym (chosen_lent (at == nil_offset) _ _ cells e (done_lent cells))

module _ (at : ℕ) (cells : Cells) (some : at ≢ nil_offset) where
  not_nil : (at == nil_offset) ≡ false
  not_nil = elim (decided (at == nil_offset)) [ inl t ↦ absurd (some (eqb-true at nil_offset t)) | inr f ↦ f ]

  pub security_missing : (r : Refusal) → cells at ≡ None → r ≡ refusal.HiveDamaged 0 cause.BadOffset → SaysLent at cells (Err r)
  security_missing r e is = inr (chosen_says (at == nil_offset) _ _ cells (Err r) not_nil (unfold_missing at cells _ e ∙ ap Err (sym is)))

  pub security_refused : (bytes : List ℕ) (r : Refusal) → cells at ≡ Some bytes → security_fault bytes ≡ Some r → SaysLent at cells (Err r)
  security_refused bytes r e f = inr (ap (λ (z : Read (List ℕ)). z.says) (descriptor_out cells at bytes r some e f))

  pub security_read : (bytes : List ℕ) (security : Security) (d : List ℕ) → cells at ≡ Some bytes → (security_fault bytes ≡ None) × IsSecurity security bytes → d ≡ security.descriptor.now → SaysLent at cells (Ok d)
  security_read bytes security d e s f = subst (λ (z : List ℕ). descriptor_at at cells ≡ record { own = []; lent = at ∷ []; says = Ok z }) (sym f) (descriptor_on cells at bytes security some e s.0 s.1)

-- ---- the descriptor that a key names

pub lent_follows : (at : ℕ) (cells : Cells) (m : CellMarks) (d : List ℕ) → descriptor_at at cells ≡ record { own = []; lent = at ∷ []; says = Ok d } → Follows (descriptor_at at) cells m m (Ok d)
lent_follows at cells m d given = (ap (λ (z : Read (List ℕ)). z.says) given, subst (λ (z : Read (List ℕ)). Marked m m z.own) (sym given) (none_marked m))

pub lent_refused : (at : ℕ) (cells : Cells) (m : CellMarks) (r : Refusal) → SaysLent at cells (Err r) → Follows (descriptor_at at) cells m m (Err r)
lent_refused at cells m r (inl e) = inl e
lent_refused at cells m r (inr e) = inr (inl e)

pub lent_is : (at : ℕ) (cells : Cells) (d : List ℕ) → descriptor_at at cells ≡ record { own = []; lent = at ∷ []; says = Ok d } → at ∷ [] ≡ (descriptor_at at cells).lent
lent_is at cells d given = sym (ap (λ (z : Read (List ℕ)). z.lent) given)

-- ---- a key

module _ {A B : Type 0} where
  joined_lent : (own lent : List ℕ) (s : Result A Refusal) (next : A → Read B) (x : A) → s ≡ Ok x → (joined_if own lent s next).lent ≡ lent ++ (next x).lent
  joined_lent own lent s next x e = ap (λ (z : Result A Refusal). (joined_if own lent z next).lent) e

  lent_on : (m : Reader A) (f : A → Reader B) (cells : Cells) (x : A) → (m cells).says ≡ Ok x → ((m ⟫ f) cells).lent ≡ (m cells).lent ++ (f x cells).lent
  unfolding ◌⟫◌
  lent_on m f cells x e = joined_lent (m cells).own (m cells).lent (m cells).says (λ y. f y cells) x e

looked_lent : {B : Type 0} (at : ℕ) (cells : Cells) (bytes : List ℕ) (f : List ℕ → Reader B) → cells at ≡ Some bytes → ((look at ⟫ f) cells).lent ≡ (f bytes cells).lent
unfolding look ◌⟫◌
looked_lent at cells bytes f e = ap (λ (o : Option (List ℕ)). (joined_if (own_if at o).own (own_if at o).lent (own_if at o).says (λ x. f x cells)).lent) e

done_none : {A : Type 0} (x : A) (cells : Cells) → (done x cells).lent ≡ []
unfolding done
done_none x cells = refl

module _ {A B : Type 0} where
  -- what lends none lends none in front of what comes after it
  lent_past : (m : Reader A) (f : A → Reader B) (cells : Cells) (x : A) → LendsNone m → (m cells).says ≡ Ok x → ((m ⟫ f) cells).lent ≡ (f x cells).lent
  lent_past m f cells x none e = lent_on m f cells x e ∙ ap (λ (l : List ℕ). l ++ (f x cells).lent) (none cells)

-- a key from its class on, from its descriptor on, and from its values on
abbrev key_row : KeyNode → List ℕ → List ℕ → ValueMap → Row
key_row node class descriptor values = record { name = units_of node.name; class = class; flags = node.flags; descriptor = descriptor; time = node.time; values = values }

abbrev from_values : KeyNode → List ℕ → List ℕ → ValueMap → Reader (Row × List ℕ)
from_values node class descriptor values = subkeys_at node.subkey_count node.subkeys ⟫ λ subkey_list. done (key_row node class descriptor values, subkey_list)

abbrev from_descriptor : Bool → KeyNode → List ℕ → List ℕ → Reader (Row × List ℕ)
from_descriptor split node class descriptor = values_at split node.value_count node.values ⟫ from_values node class descriptor

abbrev from_class : Bool → KeyNode → List ℕ → Reader (Row × List ℕ)
from_class split node class = descriptor_at node.security ⟫ from_descriptor split node class

-- the one cell that a key is lent is the cell of its descriptor
pub key_lent : (split : Bool) (at : ℕ) (cells : Cells) (old a b d e : CellMarks) (bytes : List ℕ) → Follows (look at) cells old a (Ok bytes) → (node : KeyNode) → (key_node_fault bytes ≡ None) × IsKeyNode node bytes →
    (class : List ℕ) → Follows (class_at node.class_len node.class) cells a b (Ok class) → (descriptor : List ℕ) → Follows (descriptor_at node.security) cells b b (Ok descriptor) →
    (values : ValueMap) → Follows (values_at split node.value_count node.values) cells b d (Ok values) → (subkey_list : List ℕ) → Follows (subkeys_at node.subkey_count node.subkeys) cells d e (Ok subkey_list) →
    (descriptor_at node.security cells).lent ≡ lends_in split cells at
key_lent split at cells old a b d e bytes here node sound class classed descriptor described values valued subkey_list listed =
    let there : cells at ≡ Some bytes = looked_at at cells old a bytes here in
    let first : lends_in split cells at ≡ (key_from split node cells).lent = ap (λ (z : Read (Row × List ℕ)). z.lent) (key_on split cells at bytes node there sound.0 sound.1) ∙ looked_lent at cells bytes (λ _. key_from split node) there in
    let second : (key_from split node cells).lent ≡ (from_class split node class cells).lent = lent_past (class_at node.class_len node.class) (from_class split node) cells class (none_class node.class_len node.class) classed.0 in
    let third : (from_class split node class cells).lent ≡ (descriptor_at node.security cells).lent ++ (from_descriptor split node class descriptor cells).lent = lent_on (descriptor_at node.security) (from_descriptor split node class) cells descriptor described.0 in
    let fourth : (from_descriptor split node class descriptor cells).lent ≡ (from_values node class descriptor values cells).lent = lent_past (values_at split node.value_count node.values) (from_values node class descriptor) cells values (none_values split node.value_count node.values) valued.0 in
    let fifth : (from_values node class descriptor values cells).lent ≡ [] = lent_past (subkeys_at node.subkey_count node.subkeys) (λ (subkey_list : List ℕ). done (key_row node class descriptor values, subkey_list)) cells subkey_list (none_subkeys node.subkey_count node.subkeys) listed.0 ∙ done_none (key_row node class descriptor values, subkey_list) cells in
    sym (first ∙ second ∙ third ∙ ap (λ (l : List ℕ). (descriptor_at node.security cells).lent ++ l) (fourth ∙ fifth) ∙ append-nil (descriptor_at node.security cells).lent)
