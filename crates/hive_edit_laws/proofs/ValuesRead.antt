-- The values of a key as the values of a list, one after another.
use Rattle.std.proofs.Common.{◌≡◌, ◌≢◌, inl, inr, ℕ, ◌≤◌, ◌*◌, ◌==◌, ne_eqb, nat_le, le-leb, List, [], ◌∷◌, ◌++◌, length, map, refl, ◌∙◌, ap, sym, subst, Bool, true, false, if◌then◌else◌, Some, Ok, append-nil}
use Rattle.std.proofs.lemmas.Bool.Decides.{eqb_tells}
use Rattle.refusals.specs.declared.refusal.Cause.TheVariants as cause
use Rattle.reg_names.specs.Names.{folded}
use Rattle.reg_tree_parts.specs.declared.value.Value.{Value}
use Rattle.reg_tree_parts.specs.Rows.{ValueMap}
use Rattle.hive_tree_model.proofs.Basics.{clash, some_same, yes_if, no_if}
use Rattle.hive_cells.specs.Bins.{Cells}
use Rattle.hive_records.specs.Readers.{done, rule, each, ◌⟫◌}
use Rattle.hive_records.specs.Numbers.{words_from}
use Rattle.hive_records.specs.Names.{all_apart}
use Rattle.hive_records.specs.Values.{value_at, values_at, map_of}
use Rattle.hive_records.specs.Fields.{Gives}
use Rattle.hive_records.proofs.StepsAgain.{gives_on, gives_done, gives_rule, gives_no, gives_yes, gives_look}
use Rattle.hive_edit_laws.proofs.ReaderSteps.{split_of, rule_of, LookStep, look_of, choice_of, done_of}
use Rattle.hive_edit_laws.proofs.KeyValues.{none_of}
use Rattle.hive_edit_laws.proofs.EachParts.{of_none}

pub record ValuesRead (split : Bool) (cells : Cells) (count list : ℕ) (bytes own lent : List ℕ) (values : ValueMap) : Type 0 where
  pub its : List Value
  pub its_own : List ℕ
  pub its_lent : List ℕ
  pub reads : Gives (each (value_at split) (words_from bytes 0 4 count)) cells its_own its_lent its
  pub apart : all_apart (map (λ (v : Value). folded v.name) its) ≡ true
  pub are : values ≡ map_of its
  pub own_is : own ≡ (if count == 0 then [] else list ∷ []) ++ its_own
  pub lent_is : lent ≡ its_lent

module _ (split : Bool) (cells : Cells) (count list : ℕ) (bytes : List ℕ) where
  is_zero : (count == 0) ≡ true → count ≡ 0
  is_zero e = elim (eqb_tells count 0) [ inl k ↦ k.1 | inr k ↦ clash (count == 0) e k.0 ]

  not_zero : (count == 0) ≡ false → count ≢ 0
  not_zero e z = elim (eqb_tells count 0) [ inl k ↦ clash (count == 0) k.0 e | inr k ↦ k.1 z ]

  pub values_of : (own lent : List ℕ) (values : ValueMap) → (count ≢ 0 → cells list ≡ Some bytes) → Gives (values_at split count list) cells own lent values → ValuesRead split cells count list bytes own lent values
  values_of own lent values here h = elim (choice_of (count == 0) _ _ cells own lent values h) [
    | inl g ↦ none g.0 (done_of (map_of []) cells own lent values g.1)
    | inr g ↦ by g.0 (look_of list _ cells own lent values g.1)
  ]
    where
      none : (count == 0) ≡ true → (own ≡ []) × (lent ≡ []) × (map_of [] ≡ values) → ValuesRead split cells count list bytes own lent values
      none e d = record {
        its = [];
        its_own = [];
        its_lent = [];
        reads = subst (λ (ws : List ℕ). Gives (each (value_at split) ws) cells [] [] []) (sym (none_of bytes count e)) (of_none (value_at split) cells);
        apart = refl;
        are = sym d.2;
        own_is = d.0 ∙ sym (ap (λ (z : List ℕ). z ++ []) (yes_if (count == 0) [] (list ∷ []) e));
        lent_is = d.1;
      }

      by : (count == 0) ≡ false → LookStep list (λ b. rule (nat_le (4 * count) (length b)) cause.BadRecord ⟫ λ _. each (value_at split) (words_from b 0 4 count) ⟫ λ vs. rule (all_apart (map (λ (v : Value). folded v.name) vs)) cause.BadName ⟫ λ _. done (map_of vs)) cells own lent values → ValuesRead split cells count list bytes own lent values
      by some l =
          let same : l.bytes ≡ bytes = some_same l.bytes bytes (sym l.here ∙ here (not_zero some)) in
          let a = rule_of _ _ _ cells l.own_next lent values l.next in
          let b = split_of (each (value_at split) (words_from l.bytes 0 4 count)) _ cells l.own_next lent values a.1 in
          let c = rule_of _ _ _ cells b.own_next b.lent_next values b.next in
          let d = done_of _ cells b.own_next b.lent_next values c.1 in
          record {
            its = b.x;
            its_own = b.own_first;
            its_lent = b.lent_first;
            reads = subst (λ (z : List ℕ). Gives (each (value_at split) (words_from z 0 4 count)) cells b.own_first b.lent_first b.x) same b.first;
            apart = c.0;
            are = sym d.2;
            own_is = l.own_is ∙ ap (λ (z : List ℕ). list ∷ z) (b.own_is ∙ ap (λ (z : List ℕ). b.own_first ++ z) d.0 ∙ append-nil b.own_first) ∙ sym (ap (λ (z : List ℕ). z ++ b.own_first) (no_if (count == 0) [] (list ∷ []) some));
            lent_is = b.lent_is ∙ ap (λ (z : List ℕ). b.lent_first ++ z) d.1 ∙ append-nil b.lent_first;
          }

  pub values_some : (own lent : List ℕ) (its : List Value) → count ≢ 0 → cells list ≡ Some bytes → 4 * count ≤ length bytes → Gives (each (value_at split) (words_from bytes 0 4 count)) cells own lent its → all_apart (map (λ (v : Value). folded v.name) its) ≡ true → Gives (values_at split count list) cells (list ∷ own) lent (map_of its)
  values_some own lent its some here long reads apart = record {
    reads = (gives_no (done (map_of [])) (count == 0) (ne_eqb count 0 some)
        (gives_on _ (gives_look list cells bytes here)
        (gives_on _ (gives_rule (nat_le (4 * count) (length bytes)) _ cells (le-leb (4 * count) (length bytes) long))
        (gives_on _ reads
        (gives_on _ (gives_rule (all_apart (map (λ (v : Value). folded v.name) its)) _ cells apart)
        (gives_done (map_of its) cells)))))).reads ∙ (λ i. record { own = ap (λ (z : List ℕ). list ∷ z) (append-nil own) i; lent = append-nil lent i; says = Ok (map_of its) });
  }

  pub values_empty : count ≡ 0 → Gives (values_at split count list) cells [] [] (map_of [])
  values_empty e = gives_yes _ (count == 0) (ap (λ (n : ℕ). n == 0) e) (gives_done (map_of []) cells)
