-- The values of a key. One of them reads as something else, with whatever cells of its own.
use Rattle.std.proofs.Common.{◌≡◌, ◌⊎◌, inl, inr, ℕ, ◌*◌, ◌==◌, nat_le, List, [], ◌∷◌, ◌++◌, length, map, refl, ◌∙◌, ap, sym, subst, Bool, true, false, Some, Ok, append-nil}
use Rattle.reg_names.specs.Names.{folded}
use Rattle.refusals.specs.declared.refusal.Cause.TheVariants as cause
use Rattle.reg_tree_parts.specs.declared.value.Value.{Value}
use Rattle.reg_tree_parts.specs.Rows.{ValueMap}
use Rattle.hive_tree_model.specs.Lists.{IsIn, Once}
use Rattle.std.proofs.lemmas.Bool.Decides.{eqb_tells}
use Rattle.hive_tree_model.proofs.Basics.{clash, cons_nil, some_same, in_front, in_back, in_either, once_front, once_back, once_apart, once_joined}
use Rattle.hive_cells.specs.Bins.{Cells}
use Rattle.hive_records.specs.Readers.{Reader, done, rule, each, ◌⟫◌}
use Rattle.hive_records.specs.Numbers.{words_from}
use Rattle.hive_records.specs.Names.{all_apart}
use Rattle.hive_records.specs.Values.{value_at, values_at, map_of}
use Rattle.hive_records.specs.Fields.{Gives}
use Rattle.hive_records.proofs.StepsAgain.{gives_on, gives_done, gives_rule, gives_no, gives_look}
use Rattle.hive_edit_laws.proofs.ReaderSteps.{split_of, rule_of, LookStep, look_of, choice_of, done_of}
use Rattle.hive_edit_laws.proofs.EachSwaps.{ElementSwap, element_swap}
use Rattle.hive_edit_laws.proofs.ValueRecords.{local_value}

pub names_swap : (front : List Value) (was now : Value) (back : List Value) → now.name ≡ was.name → map (λ (v : Value). folded v.name) (front ++ now ∷ back) ≡ map (λ (v : Value). folded v.name) (front ++ was ∷ back)
names_swap [] was now back e = ap (λ n. folded n ∷ map (λ (v : Value). folded v.name) back) e
names_swap (f ∷ front) was now back e = ap (λ ns. folded f.name ∷ ns) (names_swap front was now back e)

pub none_of : (bytes : List ℕ) (n : ℕ) → (n == 0) ≡ true → words_from bytes 0 4 n ≡ []
none_of bytes n e = elim (eqb_tells n 0) [ inl h ↦ ap (λ (k : ℕ). words_from bytes 0 4 k) h.1 | inr h ↦ clash (n == 0) e h.0 ]

pub none_listed : {A : Type 0} (first : List ℕ) (at : ℕ) (rest : List ℕ) → [] ≡ first ++ at ∷ rest → A
none_listed [] at rest e = cons_nil at rest (sym e)
none_listed (f ∷ first) at rest e = cons_nil f (first ++ at ∷ rest) (sym e)

-- what is known of the one value before, and how all are read after it reads as something else under the same name
pub record ValueSwap (split : Bool) (count list at : ℕ) (before after : Cells) (own lent : List ℕ) (values : ValueMap) : Type 0 where
  pub front : List Value
  pub was : Value
  pub back : List Value
  pub its_own : List ℕ
  pub its_lent : List ℕ
  pub lent_within : (cell : ℕ) → IsIn cell its_lent → IsIn cell lent
  pub front_own : List ℕ
  pub back_own : List ℕ
  pub own_is : own ≡ list ∷ (front_own ++ (its_own ++ back_own))
  pub one : Gives (value_at split at) before its_own its_lent was
  pub apart : all_apart (map (λ (v : Value). folded v.name) (front ++ was ∷ back)) ≡ true
  pub are : values ≡ map_of (front ++ was ∷ back)
  pub again : ((cell : ℕ) → IsIn cell own → (IsIn cell its_own → ⊥) → after cell ≡ before cell) → ((cell : ℕ) → IsIn cell lent → after cell ≡ before cell) → Once own →
      (now : Value) (now_own : List ℕ) → now.name ≡ was.name → Gives (value_at split at) after now_own its_lent now →
      Gives (values_at split count list) after (list ∷ (front_own ++ (now_own ++ back_own))) lent (map_of (front ++ now ∷ back))

pub value_swap : (split : Bool) (count list at : ℕ) (before after : Cells) (own lent : List ℕ) (values : ValueMap) (list_bytes first rest : List ℕ) → before list ≡ Some list_bytes → words_from list_bytes 0 4 count ≡ first ++ at ∷ rest →
    Gives (values_at split count list) before own lent values → ValueSwap split count list at before after own lent values
value_swap split count list at before after own lent values list_bytes first rest list_is listed h =
    elim (choice_of (count == 0) _ _ before own lent values h) [
      | inl g ↦ none_listed first at rest (sym (none_of list_bytes count g.0) ∙ listed)
      | inr g ↦ by g.0 (look_of list from before own lent values g.1)
    ]
  where
    from : List ℕ → Reader ValueMap
    from bytes = rule (nat_le (4 * count) (length bytes)) cause.BadRecord ⟫ λ _.
        each (value_at split) (words_from bytes 0 4 count) ⟫ λ values.
        rule (all_apart (map (λ (v : Value). folded v.name) values)) cause.BadName ⟫ λ _.
        done (map_of values)

    by : (count == 0) ≡ false → LookStep list from before own lent values → ValueSwap split count list at before after own lent values
    by some l =
        let same : l.bytes ≡ list_bytes = some_same l.bytes list_bytes (sym l.here ∙ list_is) in
        let a = rule_of _ _ _ before l.own_next lent values l.next in
        let b = split_of (each (value_at split) (words_from l.bytes 0 4 count)) _ before l.own_next lent values a.1 in
        let c = rule_of _ _ _ before b.own_next b.lent_next values b.next in
        let d = done_of _ before b.own_next b.lent_next values c.1 in
        let words : words_from l.bytes 0 4 count ≡ first ++ at ∷ rest = ap (λ (z : List ℕ). words_from z 0 4 count) same ∙ listed in
        let s : ElementSwap (value_at split) first at rest before after b.own_first b.lent_first b.x = element_swap (value_at split) (local_value split) before after first at rest b.own_first b.lent_first b.x (subst (λ (ws : List ℕ). Gives (each (value_at split) ws) before b.own_first b.lent_first b.x) words b.first) in
        let own_so : own ≡ list ∷ b.own_first = l.own_is ∙ (λ i. list ∷ (b.own_is ∙ (λ j. b.own_first ++ d.0 j) ∙ append-nil b.own_first) i) in
        let lent_so : lent ≡ b.lent_first = b.lent_is ∙ (λ j. b.lent_first ++ d.1 j) ∙ append-nil b.lent_first in
        let in_own : (cell : ℕ) → IsIn cell b.own_first → IsIn cell own = λ cell i. subst (λ (z : List ℕ). IsIn cell z) (sym own_so) (inr i) in
        let apart_was : all_apart (map (λ (v : Value). folded v.name) (s.front ++ s.was ∷ s.back)) ≡ true = subst (λ (vs : List Value). all_apart (map (λ (v : Value). folded v.name) vs) ≡ true) s.before c.0 in
        record {
          front = s.front;
          was = s.was;
          back = s.back;
          its_own = s.its_own;
          its_lent = s.its_lent;
          lent_within = λ cell i. subst (λ (z : List ℕ). IsIn cell z) (sym lent_so) (s.lent_within cell i);
          front_own = s.front_own;
          back_own = s.back_own;
          own_is = own_so ∙ ap (λ (z : List ℕ). list ∷ z) s.own_is;
          one = s.one;
          apart = apart_was;
          are = sym d.2 ∙ ap map_of s.before;
          again = λ stays lent_stays once now now_own named given.
              let once_so : Once (list ∷ b.own_first) = subst (λ (z : List ℕ). Once z) own_so once in
              let each_now : Gives (each (value_at split) (first ++ at ∷ rest)) after (s.front_own ++ (now_own ++ s.back_own)) b.lent_first (s.front ++ now ∷ s.back) = s.after
              (λ cell i apart. stays cell (in_own cell i) apart)
              (λ cell i. lent_stays cell (subst (λ (z : List ℕ). IsIn cell z) (sym lent_so) i))
              once_so.1 now now_own given in
              record {
                reads = (
                    gives_no (done (map_of [])) (count == 0) some
                    (gives_on _ (gives_look list after list_bytes (stays list (subst (λ (z : List ℕ). IsIn list z) (sym own_so) (inl refl)) (λ i. once_so.0 (s.within list i)) ∙ list_is))
                    (gives_on _ (gives_rule (nat_le (4 * count) (length list_bytes)) _ after (subst (λ (z : List ℕ). nat_le (4 * count) (length z) ≡ true) same a.0))
                    (gives_on _ (subst (λ (ws : List ℕ). Gives (each (value_at split) ws) after (s.front_own ++ (now_own ++ s.back_own)) b.lent_first (s.front ++ now ∷ s.back)) (sym listed) each_now)
                    (gives_on _ (gives_rule (all_apart (map (λ (v : Value). folded v.name) (s.front ++ now ∷ s.back))) _ after (ap all_apart (names_swap s.front s.was now s.back named) ∙ apart_was))
                    (gives_done (map_of (s.front ++ now ∷ s.back)) after)))))).reads ∙ (λ i. record { own = ap (λ (z : List ℕ). list ∷ z) (append-nil (s.front_own ++ (now_own ++ s.back_own))) i; lent = (append-nil b.lent_first ∙ sym lent_so) i; says = Ok (map_of (s.front ++ now ∷ s.back)) });
              };
        }

-- cells of a list, some of which are exchanged in the middle
pub once_exchange : (a b c d : List ℕ) → Once (a ++ (b ++ c)) → Once d → ((cell : ℕ) → IsIn cell d → IsIn cell b ⊎ (IsIn cell (a ++ (b ++ c)) → ⊥)) → Once (a ++ (d ++ c))
once_exchange a b c d once its from = once_joined a (d ++ c) (once_front a (b ++ c) once)
    (once_joined d c its (once_back b c (once_back a (b ++ c) once)) (λ cell i j. elim (from cell i) [
      | inl k ↦ once_apart cell b c (once_back a (b ++ c) once) k j
      | inr k ↦ k (in_back cell a (b ++ c) (in_back cell b c j))
    ]))
    (λ cell i j. elim (in_either cell d c j) [
      | inl k ↦ elim (from cell k) [
        | inl l ↦ once_apart cell a (b ++ c) once i (in_front cell b c l)
        | inr l ↦ l (in_front cell a (b ++ c) i)
      ]
      | inr k ↦ once_apart cell a (b ++ c) once i (in_back cell b c k)
    ])
