-- A key without subkeys is created below one that was found.
use Rattle.std.proofs.Common.{◌≡◌, ◌≢◌, ◌⊎◌, inl, inr, ℕ, ◌==◌, true, List, [], ◌∷◌, ◌++◌, None, Some, Ok, IsSome, refl, sym, ap, subst, ◌∙◌, append-nil}
use Rattle.reg_names.specs.Names.{folded, folded_path}
use Rattle.reg_tree_parts.specs.Rows.{Row}
use Rattle.reg_tree_parts.specs.NewRows.{new_row}
use Rattle.reg_tree.specs.Maps.{TreeMap, row}
use Rattle.reg_tree.specs.Operations.{tree_after}
use Rattle.reg_tree.specs.declared.op.Op.TheVariants.{CreateKey}
use Rattle.hive_tree_model.specs.Lists.{IsIn, Once}
use Rattle.hive_tree_model.specs.Keys.{KeyParts, none, offsets}
use Rattle.hive_tree_model.proofs.Basics.{in_front, in_back}
use Rattle.hive_cells.specs.Tiles.{Tiles, IsAllocatedCell, u32_at, cell_data}
use Rattle.hive_cells.specs.Bins.{Cells, Shows}
use Rattle.hive_records.specs.Readers.{Read}
use Rattle.hive_records.specs.Numbers.{nil_offset}
use Rattle.hive_records.specs.Fields.{Gives, CellHolds}
use Rattle.hive_records.specs.KeyEncodings.{RowFits, KeyNodeFieldsFit, key_node_bytes}
use Rattle.hive_records.specs.KeyNodes.{keys_in, descriptor_at}
use Rattle.hive_records.specs.Images.{BinsEncodeTree}
use Rattle.hive_records.specs.Lists.{subkeys_at}
use Rattle.hive_records.specs.Values.{values_at}
use Rattle.hive_records.specs.declared.key_node_fields.KeyNodeFields.{KeyNodeFields}
use Rattle.hive_records.proofs.Keys.{keys_there, local_descriptor}
use Rattle.hive_records.proofs.KeysAgain.{no_class}
use Rattle.hive_records.proofs.WholesAgain.{no_values, no_subkeys}
use Rattle.hive_records.proofs.NodesAgain.{key_again}
use Rattle.hive_edit_laws.specs.Found.{KeyFound}
use Rattle.hive_edit_laws.specs.SubkeyLists.{subkey_cells, SubkeysChange, OneMore, AddsSubkey}
use Rattle.hive_edit_laws.proofs.CellsShown.{shown_some, shown_here}
use Rattle.hive_edit_laws.proofs.EachSwaps.{same_reading}
use Rattle.hive_edit_laws.proofs.KeyAdditions.{encodes}
use Rattle.hive_edit_laws.proofs.KeyChains.{last_whole}
use Rattle.hive_edit_laws.proofs.KeySteps.{Steps}
use Rattle.hive_edit_laws.proofs.ReaderSteps.{lent_of, rule_of, choice_of, done_of}
use Rattle.hive_edit_laws.proofs.RowRevisions.{read_found, steps_found, lent_apart}
use Rattle.hive_edit.specs.SubkeyPlaces.{NodeGetsList}

no_own : (cells : Cells) (at : ℕ) (own lent its : List ℕ) → Gives (descriptor_at at) cells own lent its → own ≡ []
no_own cells at own lent its h = elim (choice_of (at == nil_offset) _ _ cells own lent its h) [
  | inl g ↦ (done_of [] cells own lent its g.1).0
  | inr g ↦
      let l = lent_of at _ cells own lent its g.1 in
      let a = rule_of _ _ _ cells own l.lent_next its l.next in
      let b = rule_of _ _ _ cells own l.lent_next its a.1 in
      (done_of _ cells own l.lent_next its b.1).0
]

-- the security cell of a key that was found, and its descriptor
record Described (cells : Cells) (at : ℕ) (descriptor lent : List ℕ) : Type 0 where
  pub its : List ℕ
  pub reads : Gives (descriptor_at at) cells [] its descriptor
  pub within : (cell : ℕ) → IsIn cell its → IsIn cell lent

module _ (bytes : List ℕ) (root : ℕ) (tree : TreeMap) (path : List (List ℕ)) (home : ℕ) (f : KeyFound bytes root 5 tree path home) where
  described : Described f.cells (u32_at (cell_data bytes home) 44) (f.place.parts.row).descriptor f.place.parts.lent
  described = by (steps_found bytes root 5 tree path home f)
    where
      by : Steps true home f.cells f.place.parts → Described f.cells (u32_at (cell_data bytes home) 44) (f.place.parts.row).descriptor f.place.parts.lent
      by s =
          let same : s.node ≡ cell_data bytes home = (shown_some bytes f.cells f.shows home s.node s.here).1 in
          let none_own : s.eo ≡ [] = no_own f.cells (u32_at s.node 44) s.eo s.dl (f.place.parts.row).descriptor s.described in
          record {
            its = s.dl;
            reads = subst (λ (z : List ℕ). Gives (descriptor_at (u32_at z 44)) f.cells [] s.dl (f.place.parts.row).descriptor) same (subst (λ (z : List ℕ). Gives (descriptor_at (u32_at s.node 44)) f.cells z s.dl (f.place.parts.row).descriptor) none_own s.described);
            within = λ cell i. subst (λ (z : List ℕ). IsIn cell z) (sym s.lent_is) (in_back cell s.nl (s.cl ++ (s.dl ++ (s.vl ++ s.kl))) (in_back cell s.cl (s.dl ++ (s.vl ++ s.kl)) (in_front cell s.dl (s.vl ++ s.kl) i)));
          }

  pub home_own : IsIn home f.place.parts.own
  home_own = by (steps_found bytes root 5 tree path home f)
    where
      by : Steps true home f.cells f.place.parts → IsIn home f.place.parts.own
      by s = subst (λ (z : List ℕ). IsIn home z) (sym s.own_is) (inl refl)

  pub lists_own : (cell : ℕ) → IsIn cell (subkey_cells f.cells (cell_data bytes home)) → IsIn cell f.place.parts.own
  lists_own cell i = by (steps_found bytes root 5 tree path home f)
    where
      by : Steps true home f.cells f.place.parts → IsIn cell f.place.parts.own
      by s =
          let same : s.node ≡ cell_data bytes home = (shown_some bytes f.cells f.shows home s.node s.here).1 in
          let lists : subkey_cells f.cells (cell_data bytes home) ≡ s.ko = ap (subkey_cells f.cells) (sym same) ∙ ap (λ (z : Read (List ℕ)). z.own) (s.listed).reads in
          subst (λ (z : List ℕ). IsIn cell z) (sym s.own_is) (inr (in_back cell s.na (s.co ++ (s.eo ++ (s.vo ++ s.ko))) (in_back cell s.co (s.eo ++ (s.vo ++ s.ko)) (in_back cell s.eo (s.vo ++ s.ko) (in_back cell s.vo s.ko (subst (λ (z : List ℕ). IsIn cell z) lists i))))))

  lent_some : (cell : ℕ) → IsIn cell f.place.parts.lent → IsSome (f.cells cell)
  lent_some cell i = keys_there true f.cells home f.place.parts (read_found bytes root 5 tree path home f) cell (in_back cell f.place.parts.own f.place.parts.lent i)

module _ (bytes : List ℕ) (root : ℕ) (tree : TreeMap) (hive : ℕ) (front : List (List ℕ)) (name : List ℕ) (home : ℕ) (f : KeyFound bytes root 5 tree (folded_path front) home) (there : IsAllocatedCell bytes home) (named : folded name ≢ []) (absent : row tree (folded_path front ++ folded name ∷ []) ≡ None) (moment : ℕ) (its : KeyNodeFields)
    (fits : (descriptor : List ℕ) → RowFits (new_row name descriptor moment)) (its_fit : KeyNodeFieldsFit its) (security : its.security ≡ u32_at (cell_data bytes home) 44) (no_total : its.subkey_total ≡ 0) (no_count : its.value_count ≡ 0)
    (new_bytes : List ℕ) (new_tiles : Tiles new_bytes) (after : Cells) (shown : Shows new_bytes after) (at to left : ℕ) (fresh : f.cells at ≡ None) (holds : (d : List ℕ) → CellHolds after at (key_node_bytes (new_row name d moment) its)) (node : List ℕ) (node_is : after home ≡ Some node) (gets : NodeGetsList (cell_data bytes home) node left to moment)
    (subkeys : List ℕ) (more : OneMore at (offsets f.place.below) subkeys) (own : List ℕ) (reads : Gives (subkeys_at left to) after own [] subkeys) (own_once : Once own) (takes : (cell : ℕ) → IsIn cell own → IsIn cell (subkey_cells f.cells (cell_data bytes home)) ⊎ (f.cells cell ≡ None)) (apart : IsIn at own → ⊥)
    (stays : (cell : ℕ) → IsSome (f.cells cell) → cell ≢ home → (IsIn cell (subkey_cells f.cells (cell_data bytes home)) → ⊥) → after cell ≡ f.cells cell) where
  abbrev new_key : Row
  new_key = new_row name (f.place.parts.row).descriptor moment

  d : Described f.cells (u32_at (cell_data bytes home) 44) (f.place.parts.row).descriptor f.place.parts.lent
  d = described bytes root tree (folded_path front) home f

  lent_stays : (cell : ℕ) → IsIn cell f.place.parts.lent → after cell ≡ f.cells cell
  lent_stays cell i = stays cell (lent_some bytes root tree (folded_path front) home f cell i)
      (λ e. lent_apart bytes root 5 tree (folded_path front) home f cell i (subst (λ (z : ℕ). IsIn z f.place.parts.own) (sym e) (home_own bytes root tree (folded_path front) home f)))
      (λ j. lent_apart bytes root 5 tree (folded_path front) home f cell i (lists_own bytes root tree (folded_path front) home f cell j))

  described_now : Gives (descriptor_at its.security) after [] d.its (f.place.parts.row).descriptor
  described_now = subst (λ (z : ℕ). Gives (descriptor_at z) after [] d.its (f.place.parts.row).descriptor) (sym security)
      (same_reading (descriptor_at (u32_at (cell_data bytes home) 44)) (local_descriptor (u32_at (cell_data bytes home) 44)) f.cells after [] d.its (f.place.parts.row).descriptor d.reads (λ cell i. absurd i) (λ cell i. lent_stays cell (d.within cell i)))

  abbrev parts : KeyParts Row
  parts = record { name = folded name; row = new_key; subkey_list = []; own = at ∷ []; lent = d.its }

  read_new : keys_in true after at ≡ Ok parts
  read_new = key_again true after at new_key its [] d.its [] [] [] (fits (f.place.parts.row).descriptor) its_fit (holds (f.place.parts.row).descriptor) (no_class after its.class) described_now
      (subst (λ (z : ℕ). Gives (values_at true z its.values) after [] [] new_key.values) (sym no_count) (no_values true after its.values))
      (subst (λ (z : ℕ). Gives (subkeys_at z its.subkey_list) after [] [] []) (sym no_total) (no_subkeys after its.subkey_list))

  change : SubkeysChange f.cells after home subkeys moment []
  change = record {
    old_node = cell_data bytes home;
    old_is = shown_here bytes f.cells f.shows home there;
    new_node = node;
    new_is = node_is;
    fields = gets.fields;
    time_is = gets.time_is;
    value_count = gets.value_count;
    value_list = gets.value_list;
    own = own;
    reads = subst (λ (z : ℕ). Gives (subkeys_at z (u32_at node 28)) after own [] subkeys) (sym gets.count_is) (subst (λ (z : ℕ). Gives (subkeys_at left z) after own [] subkeys) (sym gets.list_is) reads);
    once = own_once;
    takes = takes;
    stays = λ cell some no not_list not_given. stays cell some no not_list;
  }

  adds : AddsSubkey true f.cells after home at (offsets f.place.below) f.place.parts.lent parts none moment
  unfolding change
  adds = record {
    subkeys = subkeys;
    change = change;
    more = more;
    whole = last_whole true after at parts read_new refl ((λ i. i), tt);
    fresh = λ cell i. only cell i;
    apart = λ cell i j. elim j [ inl e ↦ apart (subst (λ (z : ℕ). IsIn z own) e i) | inr k ↦ k ];
    lends = λ cell i. d.within cell (lent_only cell i);
  }
    where
      only : (cell : ℕ) → IsIn cell (at ∷ []) → f.cells cell ≡ None
      only cell (inl e) = ap f.cells e ∙ fresh
      only cell (inr i) = absurd i

      lent_only : (cell : ℕ) → IsIn cell (d.its ++ []) → IsIn cell d.its
      lent_only cell i = subst (λ (z : List ℕ). IsIn cell z) (append-nil d.its) i

  pub created : BinsEncodeTree new_bytes root 5 (tree_after tree (CreateKey hive (front ++ name ∷ [])) moment)
  created = encodes bytes new_bytes root 5 tree hive front [] name home at moment parts none f new_tiles after shown named absent adds (refl, refl)
