-- A key whose subkeys have changed: what is read of it then, and which cells are its own.
use Rattle.std.proofs.Common.{◌≡◌, ◌⊎◌, inl, inr, ℕ, List, [], ◌∷◌, ◌++◌, refl, ◌∙◌, ap, sym, subst, Bool, Ok, None, IsSome, append_assoc}
use Rattle.reg_tree_parts.specs.Rows.{Row, ValueMap}
use Rattle.hive_tree_model.specs.Lists.{IsIn, Once}
use Rattle.hive_tree_model.specs.Keys.{KeyParts}
use Rattle.hive_tree_model.proofs.Basics.{some_same, in_front, in_back, in_either, once_front, once_back, once_apart, once_joined}
use Rattle.hive_cells.specs.Tiles.{u32_at}
use Rattle.hive_cells.specs.Bins.{Cells}
use Rattle.hive_records.specs.Readers.{Read, Reader}
use Rattle.hive_records.specs.Values.{values_at}
use Rattle.hive_records.specs.KeyNodes.{keys_in}
use Rattle.hive_records.specs.Fields.{Gives}
use Rattle.hive_records.proofs.Keys.{keys_there, local_values}
use Rattle.hive_edit_laws.specs.RecordEdits.{NodeListsChange}
use Rattle.hive_edit_laws.specs.SubkeyLists.{subkey_cells, SubkeysChange}
use Rattle.hive_edit_laws.proofs.EachSwaps.{same_reading}
use Rattle.hive_edit_laws.proofs.KeyPlaces.{none_there}
use Rattle.hive_edit_laws.proofs.KeySteps.{Steps, in_five, key_again}

-- five lists one after another, of which the last is another
four_then : (a b c d k : List ℕ) → (a ++ (b ++ (c ++ d))) ++ k ≡ a ++ (b ++ (c ++ (d ++ k)))
four_then a b c d k = append_assoc a (b ++ (c ++ d)) k ∙ ap (λ (z : List ℕ). a ++ z) (append_assoc b (c ++ d) k ∙ ap (λ (z : List ℕ). b ++ z) (append_assoc c d k))

last_or : (a b c d k w : List ℕ) (cell : ℕ) → IsIn cell (a ++ (b ++ (c ++ (d ++ w)))) → IsIn cell w ⊎ IsIn cell (a ++ (b ++ (c ++ (d ++ k))))
last_or a b c d k w cell i = elim (in_either cell (a ++ (b ++ (c ++ d))) w (subst (λ (z : List ℕ). IsIn cell z) (sym (four_then a b c d w)) i)) [
  | inl j ↦ inr (subst (λ (z : List ℕ). IsIn cell z) (four_then a b c d k) (in_front cell (a ++ (b ++ (c ++ d))) k j))
  | inr j ↦ inl j
]

in_last : (a b c d k : List ℕ) (cell : ℕ) → IsIn cell k → IsIn cell (a ++ (b ++ (c ++ (d ++ k))))
in_last a b c d k cell i = subst (λ (z : List ℕ). IsIn cell z) (four_then a b c d k) (in_back cell (a ++ (b ++ (c ++ d))) k i)

once_last : (x : ℕ) (a b c d k w : List ℕ) → Once (x ∷ (a ++ (b ++ (c ++ (d ++ k))))) → Once w → ((cell : ℕ) → IsIn cell w → IsIn cell k ⊎ (IsIn cell (x ∷ (a ++ (b ++ (c ++ (d ++ k))))) → ⊥)) → Once (x ∷ (a ++ (b ++ (c ++ (d ++ w)))))
once_last x a b c d k w once its from = subst (λ (z : List ℕ). Once (x ∷ z)) (four_then a b c d w) (joined (subst (λ (z : List ℕ). Once (x ∷ z)) (sym (four_then a b c d k)) once))
  where
    joined : Once ((x ∷ (a ++ (b ++ (c ++ d)))) ++ k) → Once ((x ∷ (a ++ (b ++ (c ++ d)))) ++ w)
    joined o = once_joined (x ∷ (a ++ (b ++ (c ++ d)))) w (once_front (x ∷ (a ++ (b ++ (c ++ d)))) k o) its (λ cell i j. elim (from cell j) [
      | inl h ↦ once_apart cell (x ∷ (a ++ (b ++ (c ++ d)))) k o i h
      | inr h ↦ h (subst (λ (z : List ℕ). IsIn cell (x ∷ z)) (four_then a b c d k) (in_front cell (x ∷ (a ++ (b ++ (c ++ d)))) k i))
    ])

-- the parts of a key with other subkeys
abbrev pub parts_with : KeyParts Row → List ℕ → ℕ → List ℕ → List ℕ → KeyParts Row
parts_with parts subkeys moment own lent = record { name = parts.name; row = record parts.row { time = moment }; subkey_list = subkeys; own = own; lent = lent }

-- what is known of the key after the change
pub record SubkeysRevision (split : Bool) (key : ℕ) (before after : Cells) (parts : KeyParts Row) (subkeys : List ℕ) (moment : ℕ) (lists : List ℕ) (given_up : List ℕ) : Type 0 where
  pub own : List ℕ
  pub lent : List ℕ
  pub read : keys_in split after key ≡ Ok (parts_with parts subkeys moment own lent)
  pub once : Once own
  pub from : (cell : ℕ) → IsIn cell own → IsIn cell parts.own ⊎ (IsIn cell lists × (before cell ≡ None))
  pub lends : (cell : ℕ) → IsIn cell lent → IsIn cell parts.lent
  pub stays : (cell : ℕ) → IsSome (before cell) → (IsIn cell parts.own → ⊥) → (IsIn cell given_up → ⊥) → after cell ≡ before cell

module _ (split : Bool) (key : ℕ) (before after : Cells) (parts : KeyParts Row) (subkeys : List ℕ) (moment : ℕ) (given_up : List ℕ) (read_so : keys_in split before key ≡ Ok parts) (once : Once parts.own) (apart : (cell : ℕ) → IsIn cell parts.lent → IsIn cell parts.own → ⊥) (given_apart : (cell : ℕ) → IsIn cell (parts.own ++ parts.lent) → IsIn cell given_up → ⊥) (c : SubkeysChange before after key subkeys moment given_up) (s : Steps split key before parts) where
  same_node : c.old_node ≡ s.node
  same_node = some_same c.old_node s.node (sym c.old_is ∙ s.here)

  cells_are : subkey_cells before c.old_node ≡ s.ko
  cells_are = ap (subkey_cells before) same_node ∙ ap (λ (z : Read (List ℕ)). z.own) (s.listed).reads

  own_there : (cell : ℕ) → IsIn cell parts.own → IsSome (before cell)
  own_there cell i = keys_there split before key parts read_so cell (in_front cell parts.own parts.lent i)

  lent_there : (cell : ℕ) → IsIn cell parts.lent → IsSome (before cell)
  lent_there cell i = keys_there split before key parts read_so cell (in_back cell parts.own parts.lent i)

  once_so : Once (key ∷ (s.na ++ (s.co ++ (s.eo ++ (s.vo ++ s.ko)))))
  once_so = subst (λ (z : List ℕ). Once z) s.own_is once

  own_in : (cell : ℕ) → IsIn cell (s.na ++ (s.co ++ (s.eo ++ (s.vo ++ s.ko)))) → IsIn cell parts.own
  own_in cell i = subst (λ (z : List ℕ). IsIn cell z) (sym s.own_is) (inr i)

  key_in : IsIn key parts.own
  key_in = subst (λ (z : List ℕ). IsIn key z) (sym s.own_is) (inl refl)

  lent_in : (cell : ℕ) → IsIn cell (s.nl ++ (s.cl ++ (s.dl ++ (s.vl ++ s.kl)))) → IsIn cell parts.lent
  lent_in cell i = subst (λ (z : List ℕ). IsIn cell z) (sym s.lent_is) i

  stays_own : (cell : ℕ) → IsIn cell (s.na ++ (s.co ++ (s.eo ++ (s.vo ++ s.ko)))) → (IsIn cell s.ko → ⊥) → after cell ≡ before cell
  stays_own cell i out = c.stays cell (own_there cell (own_in cell i)) (λ e. once_so.0 (subst (λ (z : ℕ). IsIn z (s.na ++ (s.co ++ (s.eo ++ (s.vo ++ s.ko))))) e i)) (λ j. out (subst (λ (z : List ℕ). IsIn cell z) cells_are j)) (given_apart cell (in_front cell parts.own parts.lent (own_in cell i)))

  stays_lent : (cell : ℕ) → IsIn cell parts.lent → after cell ≡ before cell
  stays_lent cell i = c.stays cell (lent_there cell i) (λ e. apart cell i (subst (λ (z : ℕ). IsIn z parts.own) (sym e) key_in)) (λ j. apart cell i (own_in cell (in_last s.na s.co s.eo s.vo s.ko cell (subst (λ (z : List ℕ). IsIn cell z) cells_are j)))) (given_apart cell (in_back cell parts.own parts.lent i))

  once_c : Once (s.co ++ (s.eo ++ (s.vo ++ s.ko)))
  once_c = once_back s.na (s.co ++ (s.eo ++ (s.vo ++ s.ko))) once_so.1

  once_e : Once (s.eo ++ (s.vo ++ s.ko))
  once_e = once_back s.co (s.eo ++ (s.vo ++ s.ko)) once_c

  once_v : Once (s.vo ++ s.ko)
  once_v = once_back s.eo (s.vo ++ s.ko) once_e

  class_stays : (cell : ℕ) → IsIn cell s.co → after cell ≡ before cell
  class_stays cell i = stays_own cell (in_back cell s.na (s.co ++ (s.eo ++ (s.vo ++ s.ko))) (in_front cell s.co (s.eo ++ (s.vo ++ s.ko)) i))
      (λ j. once_apart cell s.co (s.eo ++ (s.vo ++ s.ko)) once_c i (in_back cell s.eo (s.vo ++ s.ko) (in_back cell s.vo s.ko j)))

  descriptor_stays : (cell : ℕ) → IsIn cell s.eo → after cell ≡ before cell
  descriptor_stays cell i = stays_own cell (in_back cell s.na (s.co ++ (s.eo ++ (s.vo ++ s.ko))) (in_back cell s.co (s.eo ++ (s.vo ++ s.ko)) (in_front cell s.eo (s.vo ++ s.ko) i)))
      (λ j. once_apart cell s.eo (s.vo ++ s.ko) once_e i (in_back cell s.vo s.ko j))

  values_stay : (cell : ℕ) → IsIn cell s.vo → after cell ≡ before cell
  values_stay cell i = stays_own cell (in_five s.na s.co s.eo s.vo s.ko cell i) (λ j. once_apart cell s.vo s.ko once_v i j)

  class_lent : (cell : ℕ) → IsIn cell s.cl → after cell ≡ before cell
  class_lent cell i = stays_lent cell (lent_in cell (in_back cell s.nl (s.cl ++ (s.dl ++ (s.vl ++ s.kl))) (in_front cell s.cl (s.dl ++ (s.vl ++ s.kl)) i)))

  descriptor_lent : (cell : ℕ) → IsIn cell s.dl → after cell ≡ before cell
  descriptor_lent cell i = stays_lent cell (lent_in cell (in_back cell s.nl (s.cl ++ (s.dl ++ (s.vl ++ s.kl))) (in_back cell s.cl (s.dl ++ (s.vl ++ s.kl)) (in_front cell s.dl (s.vl ++ s.kl) i))))

  values_lent : (cell : ℕ) → IsIn cell s.vl → after cell ≡ before cell
  values_lent cell i = stays_lent cell (lent_in cell (in_five s.nl s.cl s.dl s.vl s.kl cell i))

  fields : NodeListsChange s.node c.new_node
  fields = subst (λ (z : List ℕ). NodeListsChange z c.new_node) same_node c.fields

  value_words : values_at split (u32_at c.new_node 36) (u32_at c.new_node 40) ≡ values_at split (u32_at s.node 36) (u32_at s.node 40)
  value_words = λ i. values_at split ((c.value_count ∙ ap (λ (z : List ℕ). u32_at z 36) same_node) i) ((c.value_list ∙ ap (λ (z : List ℕ). u32_at z 40) same_node) i)

  valued : Gives (values_at split (u32_at c.new_node 36) (u32_at c.new_node 40)) after s.vo s.vl (parts.row).values
  valued = subst (λ (z : Reader ValueMap). Gives z after s.vo s.vl (parts.row).values) (sym value_words)
      (same_reading (values_at split (u32_at s.node 36) (u32_at s.node 40)) (local_values split (u32_at s.node 36) (u32_at s.node 40)) before after s.vo s.vl (parts.row).values s.valued values_stay values_lent)

  abbrev own_now : List ℕ
  own_now = key ∷ (s.na ++ (s.co ++ (s.eo ++ (s.vo ++ c.own))))

  abbrev lent_now : List ℕ
  lent_now = s.nl ++ (s.cl ++ (s.dl ++ (s.vl ++ [])))

  read_now : keys_in split after key ≡ Ok (parts_with parts subkeys moment own_now lent_now)
  read_now = key_again split key before after parts s c.new_node c.new_is fields class_stays class_lent descriptor_stays descriptor_lent (parts.row).values subkeys s.vo s.vl c.own [] valued c.reads
      ∙ (λ i. Ok (parts_with parts subkeys (c.time_is i) own_now lent_now))

  once_now : Once own_now
  once_now = once_last key s.na s.co s.eo s.vo s.ko c.own once_so c.once (λ cell i. elim (c.takes cell i) [
    | inl h ↦ inl (subst (λ (z : List ℕ). IsIn cell z) cells_are h)
    | inr h ↦ inr (λ j. none_there (before cell) (own_there cell (subst (λ (z : List ℕ). IsIn cell z) (sym s.own_is) j)) h)
  ])

  from_now : (cell : ℕ) → IsIn cell own_now → IsIn cell parts.own ⊎ (IsIn cell c.own × (before cell ≡ None))
  from_now cell (inl e) = inl (subst (λ (z : ℕ). IsIn z parts.own) (sym e) key_in)
  from_now cell (inr i) = elim (last_or s.na s.co s.eo s.vo s.ko c.own cell i) [
    | inl h ↦ elim (c.takes cell h) [
      | inl j ↦ inl (own_in cell (in_last s.na s.co s.eo s.vo s.ko cell (subst (λ (z : List ℕ). IsIn cell z) cells_are j)))
      | inr j ↦ inr (h, j)
    ]
    | inr h ↦ inl (own_in cell h)
  ]

  lends_now : (cell : ℕ) → IsIn cell lent_now → IsIn cell parts.lent
  lends_now cell i = elim (last_or s.nl s.cl s.dl s.vl s.kl [] cell i) [ inl h ↦ absurd h | inr h ↦ lent_in cell h ]

  pub subkeys_revision : SubkeysRevision split key before after parts subkeys moment c.own given_up
  subkeys_revision = record {
    own = own_now;
    lent = lent_now;
    read = read_now;
    once = once_now;
    from = from_now;
    lends = lends_now;
    stays = λ cell some out kept. c.stays cell some (λ e. out (subst (λ (z : ℕ). IsIn z parts.own) (sym e) key_in)) (λ j. out (own_in cell (in_last s.na s.co s.eo s.vo s.ko cell (subst (λ (z : List ℕ). IsIn cell z) cells_are j)))) kept;
  }
