-- The count of a security cell is new: each key reads as before.
use Rattle.std.proofs.Common.{◌≡◌, ◌≢◌, inl, inr, ◌+◌, ◌==◌, nat_le, ℕ, List, [], ◌∷◌, ◌++◌, length, refl, ◌∙◌, ap, sym, subst, Bool, false, Ok, Some, slice_range, arith}
use Rattle.std.proofs.lemmas.Bool.Decides.{eqb_tells}
use Rattle.reg_tree_parts.specs.Rows.{Row}
use Rattle.reg_tree.specs.Maps.{TreeMap}
use Rattle.hive_tree_model.specs.Lists.{IsIn}
use Rattle.hive_tree_model.specs.Keys.{KeyParts, own_cells, lent_cells}
use Rattle.hive_tree_model.specs.Cells.{SameBut}
use Rattle.hive_tree_model.specs.Encodings.{Whole}
use Rattle.hive_tree_model.proofs.Only.{one_parts, one_reading}
use Rattle.hive_tree_model.proofs.Basics.{clash, in_front, in_back}
use Rattle.refusals.specs.declared.refusal.Cause.TheVariants as cause
use Rattle.hive_cells.specs.Tiles.{u32_at, cell_data}
use Rattle.hive_cells.specs.Bins.{Cells, Shows}
use Rattle.hive_records.specs.Readers.{Read, Reader, done, rule, ◌⟫◌}
use Rattle.hive_records.specs.Numbers.{nil_offset, u16_at, begins_with}
use Rattle.hive_records.specs.Values.{values_at}
use Rattle.hive_records.specs.Lists.{subkeys_at}
use Rattle.hive_records.specs.KeyNodes.{class_at, descriptor_at, keys_in}
use Rattle.hive_records.specs.Fields.{Gives}
use Rattle.hive_records.specs.Images.{splits}
use Rattle.hive_records.proofs.Keys.{local_values, local_subkeys, local_class}
use Rattle.hive_records.proofs.StepsAgain.{gives_on, gives_same, gives_done, gives_rule, gives_yes, gives_no, gives_lent}
use Rattle.hive_load_parts.proofs.NoneLent.{LendsNone, none_class, none_values, none_subkeys}
use Rattle.hive_records.proofs.Images.{same_cells}
use Rattle.hive_edit_laws.specs.RecordEdits.{SecurityCountChanges}
use Rattle.hive_edit_laws.specs.Found.{KeyFound}
use Rattle.hive_edit_laws.proofs.ReaderSteps.{rule_of, choice_of, done_of, LentStep, lent_of}
use Rattle.hive_edit_laws.proofs.EachSwaps.{same_reading}
use Rattle.hive_edit_laws.proofs.EqualReadings.{whole_again}
use Rattle.hive_edit_laws.proofs.Rows.{lent_from}
use Rattle.hive_edit_laws.proofs.SameBytes.{half_same, word_same, begins_same, tail_same}
use Rattle.hive_edit_laws.proofs.ValueRecords.{name_again}
use Rattle.hive_edit_laws.proofs.CellsShown.{shown_some}
use Rattle.hive_edit_laws.proofs.KeySteps.{Steps, steps_of, steps_to}
use Rattle.hive_edit_laws.proofs.RowRevisions.{steps_found}

nothing_lent : {A : Type 0} (m : Reader A) → LendsNone m → (cells : Cells) (own lent : List ℕ) (x : A) → Gives m cells own lent x → lent ≡ []
nothing_lent m none cells own lent x h = sym (ap (λ (z : Read _). z.lent) h.reads) ∙ none cells

module _ (before after : Cells) where
  -- the cells that are lent stay but for links and counts
  abbrev pub Recounts : List ℕ → Type 0
  Recounts lent = (cell : ℕ) → IsIn cell lent → (old : List ℕ) → before cell ≡ Some old → (new : List ℕ) × (after cell ≡ Some new) × SecurityCountChanges old new

  descriptor_again : (at : ℕ) (own lent d : List ℕ) → Gives (descriptor_at at) before own lent d → Recounts lent → Gives (descriptor_at at) after own lent d
  descriptor_again at own lent d h stays = elim (choice_of (at == nil_offset) _ _ before own lent d h) [
    | inl g ↦ let z = done_of [] before own lent d g.1 in
        record { reads = (gives_yes _ (at == nil_offset) g.0 (gives_done [] after)).reads ∙ (λ i. record { own = sym z.0 i; lent = sym z.1 i; says = Ok (z.2 i) }) }
    | inr g ↦ by g.0 (lent_of at from before own lent d g.1)
  ]
    where
      from : List ℕ → Reader (List ℕ)
      from bytes = rule (begins_with bytes 0x6b73 20) cause.BadRecord ⟫ λ _. rule (nat_le (20 + u32_at bytes 16) (length bytes)) cause.BadRecord ⟫ λ _. done (slice_range bytes 20 (20 + u32_at bytes 16))

      by : (at == nil_offset) ≡ false → LentStep at from before own lent d → Gives (descriptor_at at) after own lent d
      by some l =
          let r = stays at (subst (λ (z : List ℕ). IsIn at z) (sym l.lent_is) (inl refl)) l.bytes l.here in
          let c = r.2 in
          let a = rule_of _ _ _ before own l.lent_next d l.next in
          let b = rule_of _ _ _ before own l.lent_next d a.1 in
          let z = done_of _ before own l.lent_next d b.1 in
          let size : u32_at r.0 16 ≡ u32_at l.bytes 16 = word_same l.bytes r.0 16 (c.after 16 (omega arith)) (c.after 17 (omega arith)) (c.after 18 (omega arith)) (c.after 19 (omega arith)) in
          let source : slice_range r.0 20 (20 + u32_at r.0 16) ≡ d = ap (λ n. slice_range r.0 20 (20 + n)) size ∙ tail_same l.bytes r.0 20 (20 + u32_at l.bytes 16) c.len (λ i g. c.after i (omega (arith, g))) ∙ z.2 in
          record {
            reads = (gives_no (done []) (at == nil_offset) some
                (gives_on _ (gives_lent at after r.0 r.1)
                (gives_on _ (gives_rule (begins_with r.0 0x6b73 20) _ after (begins_same l.bytes r.0 0x6b73 20 c.len (half_same l.bytes r.0 0 (c.before 0 (omega arith)) (c.before 1 (omega arith))) ∙ a.0))
                (gives_on _ (gives_rule (nat_le (20 + u32_at r.0 16) (length r.0)) _ after ((λ i. nat_le (20 + size i) (c.len i)) ∙ b.0))
                (gives_same source (gives_done (slice_range r.0 20 (20 + u32_at r.0 16)) after)))))).reads ∙ (λ i. record { own = sym z.0 i; lent = (ap (λ (q : List ℕ). at ∷ q) (sym z.1) ∙ sym l.lent_is) i; says = Ok d });
          }

  -- a key whose own cells stay, and whose security cell is new but for links and count, reads as before
  pub key_recounted : (split : Bool) (key : ℕ) (parts : KeyParts Row) → keys_in split before key ≡ Ok parts → ((cell : ℕ) → IsIn cell parts.own → after cell ≡ before cell) → Recounts parts.lent → keys_in split after key ≡ Ok parts
  key_recounted split key parts e stays recounts = by (steps_of split key before parts e)
    where
      by : Steps split key before parts → keys_in split after key ≡ Ok parts
      by s =
          let no_class : s.cl ≡ [] = nothing_lent (class_at (u16_at s.node 74) (u32_at s.node 48)) (none_class (u16_at s.node 74) (u32_at s.node 48)) before s.co s.cl (parts.row).class s.classed in
          let no_values : s.vl ≡ [] = nothing_lent (values_at split (u32_at s.node 36) (u32_at s.node 40)) (none_values split (u32_at s.node 36) (u32_at s.node 40)) before s.vo s.vl (parts.row).values s.valued in
          let no_subkeys : s.kl ≡ [] = nothing_lent (subkeys_at (u32_at s.node 20) (u32_at s.node 28)) (none_subkeys (u32_at s.node 20) (u32_at s.node 28)) before s.ko s.kl parts.subkey_list s.listed in
          let own_in : (cell : ℕ) → IsIn cell (s.na ++ (s.co ++ (s.eo ++ (s.vo ++ s.ko)))) → IsIn cell parts.own = λ cell i. subst (λ (z : List ℕ). IsIn cell z) (sym s.own_is) (inr i) in
          steps_to split key after parts.row parts.subkey_list s.na s.nl s.co s.cl s.eo s.dl s.vo s.vl s.ko s.kl s.node
          (stays key (subst (λ (z : List ℕ). IsIn key z) (sym s.own_is) (inl refl)) ∙ s.here) s.begins s.long s.plain
          (name_again _ _ before after s.na s.nl (parts.row).name s.named) s.whole_name
          (same_reading (class_at (u16_at s.node 74) (u32_at s.node 48)) (local_class (u16_at s.node 74) (u32_at s.node 48)) before after s.co s.cl (parts.row).class s.classed
          (λ cell i. stays cell (own_in cell (in_back cell s.na (s.co ++ (s.eo ++ (s.vo ++ s.ko))) (in_front cell s.co (s.eo ++ (s.vo ++ s.ko)) i)))) (λ cell i. absurd (subst (λ (z : List ℕ). IsIn cell z) no_class i)))
          (descriptor_again (u32_at s.node 44) s.eo s.dl (parts.row).descriptor s.described
          (λ cell i old here. recounts cell (subst (λ (z : List ℕ). IsIn cell z) (sym s.lent_is) (in_back cell s.nl (s.cl ++ (s.dl ++ (s.vl ++ s.kl))) (in_back cell s.cl (s.dl ++ (s.vl ++ s.kl)) (in_front cell s.dl (s.vl ++ s.kl) i)))) old here))
          (same_reading (values_at split (u32_at s.node 36) (u32_at s.node 40)) (local_values split (u32_at s.node 36) (u32_at s.node 40)) before after s.vo s.vl (parts.row).values s.valued
          (λ cell i. stays cell (own_in cell (in_back cell s.na (s.co ++ (s.eo ++ (s.vo ++ s.ko))) (in_back cell s.co (s.eo ++ (s.vo ++ s.ko)) (in_back cell s.eo (s.vo ++ s.ko) (in_front cell s.vo s.ko i)))))) (λ cell i. absurd (subst (λ (z : List ℕ). IsIn cell z) no_values i)))
          (same_reading (subkeys_at (u32_at s.node 20) (u32_at s.node 28)) (local_subkeys (u32_at s.node 20) (u32_at s.node 28)) before after s.ko s.kl parts.subkey_list s.listed
          (λ cell i. stays cell (own_in cell (in_back cell s.na (s.co ++ (s.eo ++ (s.vo ++ s.ko))) (in_back cell s.co (s.eo ++ (s.vo ++ s.ko)) (in_back cell s.eo (s.vo ++ s.ko) (in_back cell s.vo s.ko i)))))) (λ cell i. absurd (subst (λ (z : List ℕ). IsIn cell z) no_subkeys i)))
          s.flags_are s.time_is
          ∙ (λ i. Ok (record { name = sym s.name_is i; row = parts.row; subkey_list = parts.subkey_list; own = sym s.own_is i; lent = sym s.lent_is i }))

-- the security cell of a key that was found is lent to it
security_lent : (split : Bool) (key at : ℕ) (cells : Cells) (parts : KeyParts Row) (s : Steps split key cells parts) → u32_at s.node 44 ≡ at → at ≢ nil_offset → IsIn at parts.lent
security_lent split key at cells parts s is there = elim (choice_of (u32_at s.node 44 == nil_offset) _ _ cells s.eo s.dl (parts.row).descriptor s.described) [
  | inl g ↦ elim (eqb_tells (u32_at s.node 44) nil_offset) [ inl k ↦ absurd (there (sym is ∙ k.1)) | inr k ↦ clash (u32_at s.node 44 == nil_offset) g.0 k.0 ]
  | inr g ↦
      let l = lent_of (u32_at s.node 44) _ cells s.eo s.dl (parts.row).descriptor g.1 in
      subst (λ (z : List ℕ). IsIn at z) (sym s.lent_is) (in_back at s.nl (s.cl ++ (s.dl ++ (s.vl ++ s.kl))) (in_back at s.cl (s.dl ++ (s.vl ++ s.kl)) (in_front at s.dl (s.vl ++ s.kl) (subst (λ (z : List ℕ). IsIn at z) (sym l.lent_is) (inl (sym is))))))
]

module _ (old new : List ℕ) (root minor : ℕ) (tree : TreeMap) (path : List (List ℕ)) (key at : ℕ) (g : KeyFound old root minor tree path key) (after : Cells) (shown : Shows new after) (others : SameBut at g.cells after) (its : List ℕ) (now : after at ≡ Some its) (changes : SecurityCountChanges (cell_data old at) its)
    (lent : IsIn at (g.above.lent ++ lent_cells g.subkey_list)) where
  recounts : (lent : List ℕ) → Recounts g.cells after lent
  recounts lent cell i bytes here = elim (eqb_tells cell at) [
    | inl k ↦ (its, ap after k.1 ∙ now, subst (λ (z : List ℕ). SecurityCountChanges z its) (ap (cell_data old) (sym k.1) ∙ sym (shown_some old g.cells g.shows cell bytes here).1) changes)
    | inr k ↦ (bytes, others cell k.1 ∙ here, record { len = refl; before = λ j h. refl; after = λ j h. refl })
  ]

  still_found : KeyFound new root minor tree path key
  still_found = record {
    cells = after;
    shows = shown;
    above = g.above;
    subkey_list = g.subkey_list;
    whole = whole_again (keys_in (splits minor) g.cells) (keys_in (splits minor) after) root g.above g.subkey_list g.whole
        (λ to parts e own_in lent_in. key_recounted g.cells after (splits minor) to parts e
        (λ cell i. others cell (λ k. g.apart at lent (subst (λ (z : ℕ). IsIn z (g.above.own ++ own_cells g.subkey_list)) k (own_in cell i))))
        (recounts parts.lent));
    apart = g.apart;
    is = g.is;
    place = g.place;
    there = g.there;
    at_is = g.at_is;
  }

-- the security cell that a found key names is lent to some key
lent_to_some : (bytes : List ℕ) (root minor : ℕ) (tree : TreeMap) (path : List (List ℕ)) (key at : ℕ) (f : KeyFound bytes root minor tree path key) → u32_at (cell_data bytes key) 44 ≡ at → at ≢ nil_offset → IsIn at (f.above.lent ++ lent_cells f.subkey_list)
lent_to_some bytes root minor tree path key at f is there = by (steps_found bytes root minor tree path key f)
  where
    by : Steps (splits minor) key f.cells f.place.parts → IsIn at (f.above.lent ++ lent_cells f.subkey_list)
    by s =
        let node_is : s.node ≡ cell_data bytes key = (shown_some bytes f.cells f.shows key s.node s.here).1 in
        lent_from root f.above f.subkey_list path f.place f.there at (in_front at f.place.parts.lent (lent_cells f.place.below) (security_lent (splits minor) key at f.cells f.place.parts s (ap (λ (z : List ℕ). u32_at z 44) node_is ∙ is) there))

-- what is lent in an image is so for each key that was found in it
lent_as_well : (bytes : List ℕ) (root minor : ℕ) (tree other : TreeMap) (path way : List (List ℕ)) (key to at : ℕ) (f : KeyFound bytes root minor tree path key) (g : KeyFound bytes root minor other way to) → IsIn at (f.above.lent ++ lent_cells f.subkey_list) → IsIn at (g.above.lent ++ lent_cells g.subkey_list)
lent_as_well bytes root minor tree other path way key to at f g i =
    let same : f.cells ≡ g.cells = same_cells bytes f.cells g.cells f.shows g.shows in
    let w : Whole (keys_in (splits minor) g.cells) root f.above f.subkey_list = subst (λ (z : Cells). Whole (keys_in (splits minor) z) root f.above f.subkey_list) same f.whole in
    let same_root : f.above ≡ g.above = one_parts (keys_in (splits minor) g.cells) root root f.above g.above refl w.read g.whole.read in
    let same_keys : f.subkey_list ≡ g.subkey_list = one_reading (keys_in (splits minor) g.cells) f.subkey_list g.subkey_list w.fits g.whole.fits (w.listed ∙ ap (λ (z : KeyParts Row). z.subkey_list) same_root ∙ sym g.whole.listed) in
    subst (λ (z : List ℕ). IsIn at z) (λ k. (same_root k).lent ++ lent_cells (same_keys k)) i

pub found_again : (old new : List ℕ) (root minor : ℕ) (tree other : TreeMap) (path way : List (List ℕ)) (key to at : ℕ) (f : KeyFound old root minor tree path key) (g : KeyFound old root minor other way to) (after : Cells) → Shows new after → u32_at (cell_data old key) 44 ≡ at → at ≢ nil_offset → SameBut at g.cells after →
    (its : List ℕ) → after at ≡ Some its → SecurityCountChanges (cell_data old at) its → KeyFound new root minor other way to
found_again old new root minor tree other path way key to at f g after shown is there others its now changes =
    still_found old new root minor other way to at g after shown others its now changes (lent_as_well old root minor tree other path way key to at f g (lent_to_some old root minor tree path key at f is there))
