-- A key whose values have changed: what is read of it then, and which cells are its own.
use Rattle.std.proofs.Common.{◌≡◌, ◌⊎◌, inl, inr, ℕ, List, [], ◌∷◌, ◌++◌, refl, ◌∙◌, ap, sym, subst, Bool, Ok, None, IsSome, append_assoc}
use Rattle.reg_tree_parts.specs.Rows.{Row, ValueMap}
use Rattle.hive_tree_model.specs.Lists.{IsIn, Once}
use Rattle.hive_tree_model.specs.Keys.{KeyParts}
use Rattle.hive_tree_model.proofs.Basics.{some_same, in_front, in_back, in_either, once_back, once_apart}
use Rattle.hive_cells.specs.Tiles.{u32_at}
use Rattle.hive_cells.specs.Bins.{Cells}
use Rattle.hive_records.specs.Readers.{Read, Reader}
use Rattle.hive_records.specs.Lists.{subkeys_at}
use Rattle.hive_records.specs.KeyNodes.{keys_in}
use Rattle.hive_records.specs.Fields.{Gives}
use Rattle.hive_records.proofs.Keys.{keys_there, local_subkeys}
use Rattle.hive_edit_laws.specs.RecordEdits.{NodeListsChange}
use Rattle.hive_edit_laws.specs.ValueEdits.{value_cells, ValuesChange}
use Rattle.hive_edit_laws.proofs.EachSwaps.{same_reading}
use Rattle.hive_edit_laws.proofs.KeyPlaces.{none_there}
use Rattle.hive_edit_laws.proofs.KeySteps.{Steps, in_five, key_again}
use Rattle.hive_edit_laws.proofs.KeyValues.{once_exchange}

-- five lists one after another, of which the fourth is another
pub out_of_five : (a b c v w k : List ℕ) (cell : ℕ) → IsIn cell (a ++ (b ++ (c ++ (w ++ k)))) → IsIn cell w ⊎ IsIn cell (a ++ (b ++ (c ++ (v ++ k))))
out_of_five a b c v w k cell h = elim (in_either cell a (b ++ (c ++ (w ++ k))) h) [
  | inl i ↦ inr (in_front cell a (b ++ (c ++ (v ++ k))) i)
  | inr g ↦ elim (in_either cell b (c ++ (w ++ k)) g) [
    | inl i ↦ inr (in_back cell a (b ++ (c ++ (v ++ k))) (in_front cell b (c ++ (v ++ k)) i))
    | inr f ↦ elim (in_either cell c (w ++ k) f) [
      | inl i ↦ inr (in_back cell a (b ++ (c ++ (v ++ k))) (in_back cell b (c ++ (v ++ k)) (in_front cell c (v ++ k) i)))
      | inr e ↦ elim (in_either cell w k e) [
        | inl i ↦ inl i
        | inr i ↦ inr (in_back cell a (b ++ (c ++ (v ++ k))) (in_back cell b (c ++ (v ++ k)) (in_back cell c (v ++ k) (in_back cell v k i))))
      ]
    ]
  ]
]

four_in_front : (x : ℕ) (a b c l : List ℕ) → (x ∷ (a ++ (b ++ c))) ++ l ≡ x ∷ (a ++ (b ++ (c ++ l)))
four_in_front x a b c l = ap (λ (z : List ℕ). x ∷ z) (append_assoc a (b ++ c) l ∙ ap (λ (z : List ℕ). a ++ z) (append_assoc b c l))

pub once_five : (x : ℕ) (a b c v w k : List ℕ) → Once (x ∷ (a ++ (b ++ (c ++ (v ++ k))))) → Once w → ((cell : ℕ) → IsIn cell w → IsIn cell v ⊎ (IsIn cell (x ∷ (a ++ (b ++ (c ++ (v ++ k))))) → ⊥)) → Once (x ∷ (a ++ (b ++ (c ++ (w ++ k)))))
once_five x a b c v w k once its from = subst (λ (z : List ℕ). Once z) (four_in_front x a b c (w ++ k))
    (once_exchange (x ∷ (a ++ (b ++ c))) v k w (subst (λ (z : List ℕ). Once z) (sym (four_in_front x a b c (v ++ k))) once) its
    (λ cell i. elim (from cell i) [ inl h ↦ inl h | inr h ↦ inr (λ j. h (subst (λ (z : List ℕ). IsIn cell z) (four_in_front x a b c (v ++ k)) j)) ]))

-- the parts of a key with other values
abbrev pub parts_with : KeyParts Row → ValueMap → ℕ → List ℕ → List ℕ → KeyParts Row
parts_with parts values moment own lent = record { name = parts.name; row = record parts.row { time = moment; values = values }; subkey_list = parts.subkey_list; own = own; lent = lent }

-- what is known of the key after the change
pub record Revision (split : Bool) (key : ℕ) (before after : Cells) (parts : KeyParts Row) (values : ValueMap) (moment : ℕ) : Type 0 where
  pub own : List ℕ
  pub lent : List ℕ
  pub read : keys_in split after key ≡ Ok (parts_with parts values moment own lent)
  pub once : Once own
  pub takes : (cell : ℕ) → IsIn cell own → IsIn cell parts.own ⊎ (before cell ≡ None)
  pub lends : (cell : ℕ) → IsIn cell lent → IsIn cell parts.lent
  pub stays : (cell : ℕ) → IsSome (before cell) → (IsIn cell parts.own → ⊥) → after cell ≡ before cell

module _ (split : Bool) (key : ℕ) (before after : Cells) (parts : KeyParts Row) (values : ValueMap) (moment : ℕ) (read_so : keys_in split before key ≡ Ok parts) (once : Once parts.own) (apart : (cell : ℕ) → IsIn cell parts.lent → IsIn cell parts.own → ⊥) (c : ValuesChange split before after key values moment) (s : Steps split key before parts) where
  same_node : c.old_node ≡ s.node
  same_node = some_same c.old_node s.node (sym c.old_is ∙ s.here)

  cells_are : value_cells split before c.old_node ≡ s.vo
  cells_are = ap (value_cells split before) same_node ∙ ap (λ (z : Read ValueMap). z.own) (s.valued).reads

  own_there : (cell : ℕ) → IsIn cell parts.own → IsSome (before cell)
  own_there cell i = keys_there split before key parts read_so cell (in_front cell parts.own parts.lent i)

  lent_there : (cell : ℕ) → IsIn cell parts.lent → IsSome (before cell)
  lent_there cell i = keys_there split before key parts read_so cell (in_back cell parts.own parts.lent i)

  once_so : Once (key ∷ (s.na ++ (s.co ++ (s.eo ++ (s.vo ++ s.ko)))))
  once_so = subst (λ (z : List ℕ). Once z) s.own_is once

  own_in : (cell : ℕ) → IsIn cell (s.na ++ (s.co ++ (s.eo ++ (s.vo ++ s.ko)))) → IsIn cell parts.own
  own_in cell i = subst (λ (z : List ℕ). IsIn cell z) (sym s.own_is) (inr i)

  key_in : IsIn key parts.own
  key_in = subst (λ (z : List ℕ). IsIn key z) (sym s.own_is) (inl refl)

  lent_in : (cell : ℕ) → IsIn cell (s.nl ++ (s.cl ++ (s.dl ++ (s.vl ++ s.kl)))) → IsIn cell parts.lent
  lent_in cell i = subst (λ (z : List ℕ). IsIn cell z) (sym s.lent_is) i

  stays_own : (cell : ℕ) → IsIn cell (s.na ++ (s.co ++ (s.eo ++ (s.vo ++ s.ko)))) → (IsIn cell s.vo → ⊥) → after cell ≡ before cell
  stays_own cell i out = c.stays cell (own_there cell (own_in cell i)) (λ e. once_so.0 (subst (λ (z : ℕ). IsIn z (s.na ++ (s.co ++ (s.eo ++ (s.vo ++ s.ko))))) e i)) (λ j. out (subst (λ (z : List ℕ). IsIn cell z) cells_are j))

  stays_lent : (cell : ℕ) → IsIn cell parts.lent → after cell ≡ before cell
  stays_lent cell i = c.stays cell (lent_there cell i) (λ e. apart cell i (subst (λ (z : ℕ). IsIn z parts.own) (sym e) key_in)) (λ j. apart cell i (own_in cell (in_five s.na s.co s.eo s.vo s.ko cell (subst (λ (z : List ℕ). IsIn cell z) cells_are j))))

  once_c : Once (s.co ++ (s.eo ++ (s.vo ++ s.ko)))
  once_c = once_back s.na (s.co ++ (s.eo ++ (s.vo ++ s.ko))) once_so.1

  once_e : Once (s.eo ++ (s.vo ++ s.ko))
  once_e = once_back s.co (s.eo ++ (s.vo ++ s.ko)) once_c

  once_v : Once (s.vo ++ s.ko)
  once_v = once_back s.eo (s.vo ++ s.ko) once_e

  class_stays : (cell : ℕ) → IsIn cell s.co → after cell ≡ before cell
  class_stays cell i = stays_own cell (in_back cell s.na (s.co ++ (s.eo ++ (s.vo ++ s.ko))) (in_front cell s.co (s.eo ++ (s.vo ++ s.ko)) i))
      (λ j. once_apart cell s.co (s.eo ++ (s.vo ++ s.ko)) once_c i (in_back cell s.eo (s.vo ++ s.ko) (in_front cell s.vo s.ko j)))

  descriptor_stays : (cell : ℕ) → IsIn cell s.eo → after cell ≡ before cell
  descriptor_stays cell i = stays_own cell (in_back cell s.na (s.co ++ (s.eo ++ (s.vo ++ s.ko))) (in_back cell s.co (s.eo ++ (s.vo ++ s.ko)) (in_front cell s.eo (s.vo ++ s.ko) i)))
      (λ j. once_apart cell s.eo (s.vo ++ s.ko) once_e i (in_front cell s.vo s.ko j))

  list_stays : (cell : ℕ) → IsIn cell s.ko → after cell ≡ before cell
  list_stays cell i = stays_own cell (in_back cell s.na (s.co ++ (s.eo ++ (s.vo ++ s.ko))) (in_back cell s.co (s.eo ++ (s.vo ++ s.ko)) (in_back cell s.eo (s.vo ++ s.ko) (in_back cell s.vo s.ko i))))
      (λ j. once_apart cell s.vo s.ko once_v j i)

  class_lent : (cell : ℕ) → IsIn cell s.cl → after cell ≡ before cell
  class_lent cell i = stays_lent cell (lent_in cell (in_back cell s.nl (s.cl ++ (s.dl ++ (s.vl ++ s.kl))) (in_front cell s.cl (s.dl ++ (s.vl ++ s.kl)) i)))

  descriptor_lent : (cell : ℕ) → IsIn cell s.dl → after cell ≡ before cell
  descriptor_lent cell i = stays_lent cell (lent_in cell (in_back cell s.nl (s.cl ++ (s.dl ++ (s.vl ++ s.kl))) (in_back cell s.cl (s.dl ++ (s.vl ++ s.kl)) (in_front cell s.dl (s.vl ++ s.kl) i))))

  list_lent : (cell : ℕ) → IsIn cell s.kl → after cell ≡ before cell
  list_lent cell i = stays_lent cell (lent_in cell (in_back cell s.nl (s.cl ++ (s.dl ++ (s.vl ++ s.kl))) (in_back cell s.cl (s.dl ++ (s.vl ++ s.kl)) (in_back cell s.dl (s.vl ++ s.kl) (in_back cell s.vl s.kl i)))))

  fields : NodeListsChange s.node c.new_node
  fields = subst (λ (z : List ℕ). NodeListsChange z c.new_node) same_node c.fields

  list_words : subkeys_at (u32_at c.new_node 20) (u32_at c.new_node 28) ≡ subkeys_at (u32_at s.node 20) (u32_at s.node 28)
  list_words = λ i. subkeys_at ((c.subkey_count ∙ ap (λ (z : List ℕ). u32_at z 20) same_node) i) ((c.subkeys ∙ ap (λ (z : List ℕ). u32_at z 28) same_node) i)

  listed : Gives (subkeys_at (u32_at c.new_node 20) (u32_at c.new_node 28)) after s.ko s.kl parts.subkey_list
  listed = subst (λ (z : Reader (List ℕ)). Gives z after s.ko s.kl parts.subkey_list) (sym list_words)
      (same_reading (subkeys_at (u32_at s.node 20) (u32_at s.node 28)) (local_subkeys (u32_at s.node 20) (u32_at s.node 28)) before after s.ko s.kl parts.subkey_list s.listed list_stays list_lent)

  abbrev own_now : List ℕ
  own_now = key ∷ (s.na ++ (s.co ++ (s.eo ++ (c.own ++ s.ko))))

  abbrev lent_now : List ℕ
  lent_now = s.nl ++ (s.cl ++ (s.dl ++ ([] ++ s.kl)))

  read_now : keys_in split after key ≡ Ok (parts_with parts values moment own_now lent_now)
  read_now = key_again split key before after parts s c.new_node c.new_is fields class_stays class_lent descriptor_stays descriptor_lent values parts.subkey_list c.own [] s.ko s.kl c.reads listed
      ∙ (λ i. Ok (parts_with parts values (c.time_is i) own_now lent_now))

  once_now : Once own_now
  once_now = once_five key s.na s.co s.eo s.vo c.own s.ko once_so c.once (λ cell i. elim (c.takes cell i) [
    | inl h ↦ inl (subst (λ (z : List ℕ). IsIn cell z) cells_are h)
    | inr h ↦ inr (λ j. none_there (before cell) (own_there cell (subst (λ (z : List ℕ). IsIn cell z) (sym s.own_is) j)) h)
  ])

  takes_now : (cell : ℕ) → IsIn cell own_now → IsIn cell parts.own ⊎ (before cell ≡ None)
  takes_now cell (inl e) = inl (subst (λ (z : ℕ). IsIn z parts.own) (sym e) key_in)
  takes_now cell (inr i) = elim (out_of_five s.na s.co s.eo s.vo c.own s.ko cell i) [
    | inl h ↦ elim (c.takes cell h) [
      | inl j ↦ inl (own_in cell (in_five s.na s.co s.eo s.vo s.ko cell (subst (λ (z : List ℕ). IsIn cell z) cells_are j)))
      | inr j ↦ inr j
    ]
    | inr h ↦ inl (own_in cell h)
  ]

  lends_now : (cell : ℕ) → IsIn cell lent_now → IsIn cell parts.lent
  lends_now cell i = elim (out_of_five s.nl s.cl s.dl s.vl [] s.kl cell i) [ inl h ↦ absurd h | inr h ↦ lent_in cell h ]

  pub revision : Revision split key before after parts values moment
  revision = record {
    own = own_now;
    lent = lent_now;
    read = read_now;
    once = once_now;
    takes = takes_now;
    lends = lends_now;
    stays = λ cell some out. c.stays cell some (λ e. out (subst (λ (z : ℕ). IsIn z parts.own) (sym e) key_in)) (λ j. out (own_in cell (in_five s.na s.co s.eo s.vo s.ko cell (subst (λ (z : List ℕ). IsIn cell z) cells_are j))));
  }
