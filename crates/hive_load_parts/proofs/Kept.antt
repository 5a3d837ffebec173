-- Descriptors that are kept by offsets.
use Rattle.std.proofs.Common.{◌≡◌, inl, inr, ℕ, List, [], ◌∷◌, refl, ◌∙◌, ap, sym, subst, Bool, true, cond, IsSome, Some}
use Rattle.std.specs.declared.cmp.Ordering.TheVariants.{Equal}
use Rattle.std.specs.Cmp.{nat_cmp_is}
use Rattle.std.proofs.lemmas.Map.Lookups.{exact_unsigned}
use Rattle.reg_tree_parts.proofs.Finds.{equal_of}
use Rattle.std.specs.Ordering.{nat_cmp, is_eq}
use Rattle.std.specs.Map.{keys_of}
use Rattle.std.specs.BTreeMap.{is_at}
use Rattle.hive_tree_model.specs.Lists.{IsIn}
use Rattle.hive_tree_model.proofs.Basics.{decided, clash, never}
use Rattle.hive_load_parts.specs.Descriptors.{descriptor_in}

pub same_key : (at k : ℕ) → is_at (nat_cmp at) k ≡ true → at ≡ k
same_key at k e = exact_unsigned at k (equal_of (nat_cmp at k) e)

pub key_same : (at k : ℕ) → at ≡ k → is_at (nat_cmp at) k ≡ true
key_same at k e = ap (λ (z : ℕ). is_at (nat_cmp at) z) (sym e) ∙ ap is_eq (sym (nat_cmp_is at at Equal refl))

pub in_keys : (es : List (ℕ × List ℕ)) (at : ℕ) → IsSome (descriptor_in es at) → IsIn at (keys_of es)
in_keys [] at h = never h
in_keys (e ∷ es) at h = elim (decided (is_at (nat_cmp at) e.0)) [
  | inl t ↦ inl (same_key at e.0 t)
  | inr f ↦ inr (in_keys es at (subst (λ (b : Bool). IsSome (cond b (Some e.1) (descriptor_in es at))) f h))
]

pub keys_in : (es : List (ℕ × List ℕ)) (at : ℕ) → IsIn at (keys_of es) → IsSome (descriptor_in es at)
keys_in [] at h = absurd h
keys_in (e ∷ es) at h = elim (decided (is_at (nat_cmp at) e.0)) [
  | inl t ↦ subst (λ (b : Bool). IsSome (cond b (Some e.1) (descriptor_in es at))) (sym t) refl
  | inr f ↦ subst (λ (b : Bool). IsSome (cond b (Some e.1) (descriptor_in es at))) (sym f) (keys_in es at (elim h [ inl g ↦ clash (is_at (nat_cmp at) e.0) (key_same at e.0 g) f | inr i ↦ i ]))
]
