-- A key and all below it, written.
use Rattle.std.proofs.Common.{◌≡◌, ◌⊎◌, inl, inr, ℕ, zero, suc, ◌+◌, ◌<◌, ◌≤◌, ◌^◌, true, T, List, [], ◌∷◌, ◌++◌, length, map, take, slice_get, refl, sym, ◌∙◌, ap, subst, arith, Option, Some, None, IsSome, is_some, Ok, MatchOption, length-append}
use Rattle.std.specs.List.{AllByRecursion}
use Rattle.std.specs.FinMap as finite
use Rattle.std.specs.FinMap.Entries.{is_sorted, below_all}
use Rattle.std.specs.Ordering.{is_lt}
use Rattle.std.specs.Cmp.{tied_itself}
use Rattle.std.specs.declared.cmp.Ordering.TheVariants.{Less, Equal}
use Rattle.reg_names.specs.Names.{folded}
use Rattle.hive_cells.specs.Tiles.{Tiles, IsAllocatedCell, cell_data}
use Rattle.hive_cells.specs.Bins.{Cells, Shows}
use Rattle.hive_tree_model.specs.Lists.{IsIn, Once}
use Rattle.hive_tree_model.specs.Keys.{KeyParts, Keys, none, key, names, lent_cells}
use Rattle.hive_tree_model.specs.Cells.{Grows, SameBut}
use Rattle.hive_tree_model.specs.Loads.{with_last}
use Rattle.hive_tree_model.proofs.Basics.{in_either, in_front, in_back}
use Rattle.hive_tree_model.proofs.Loading.{offsets_last}
use Rattle.hive_tree_model.proofs.Writings.{writes_none, writes_on, writes_filled}
use Rattle.reg_tree_parts.specs.Orders.{name_order}
use Rattle.reg_tree_parts.specs.Rows.{Row}
use Rattle.reg_tree_parts.specs.Nodes.{Entries, below, all_below, entries_of, row_at, root_name, subkeys_of, HasSubkeys, IsNode, AreNodes}
use Rattle.reg_tree_parts.proofs.Keys.{names_total}
use Rattle.reg_tree_parts.proofs.SortedLists.{front_of, back_of, less_of}
use Rattle.hive_records.specs.Numbers.{nil_offset}
use Rattle.hive_records.specs.Fields.{Gives, CellHolds}
use Rattle.hive_records.specs.KeyNodes.{keys_in, class_at, descriptor_at}
use Rattle.hive_records.specs.Values.{values_at}
use Rattle.hive_records.specs.Lists.{subkeys_at}
use Rattle.hive_records.specs.ListEncodings.{Subkey, AreOffsets}
use Rattle.hive_records.specs.KeyEncodings.{key_node_bytes, security_bytes, KeyNodeFieldsFit}
use Rattle.hive_records.specs.Nodes.{IsNodeOf}
use Rattle.hive_records.specs.declared.key_node_fields.KeyNodeFields.{KeyNodeFields}
use Rattle.hive_records.proofs.Keys.{keys_local, keys_there, local_values, local_subkeys, local_class}
use Rattle.hive_records.proofs.KeysAgain.{security_again, no_security}
use Rattle.hive_records.proofs.NodesAgain.{key_again}
use Rattle.hive_records.proofs.NodesOf.{node_of}
use Rattle.hive_load_parts.specs.Nodes.{AreListed}
use Rattle.hive_load_parts.proofs.Listed.{listed_rows, listed_more, listed_names}
use Rattle.hive_emit.specs.CellWrites.{Makes, Opens, Fills, IsLongCell}
use Rattle.hive_emit.specs.Values.{AreListedValues}
use Rattle.hive_emit.specs.KeyLists.{placed, IsListed}
use Rattle.hive_emit.proofs.Leaves.{placed_long}
use Rattle.hive_emit.proofs.Stays.{listed_stays, values_stay}
use Rattle.hive_emit.proofs.Makings.{made_then, made_none, holds_grown, grows_on, all_push, all_as, some_not}
use Rattle.hive_emit.proofs.ValueMaps.{take_next}
use Rattle.hive_emit.proofs.NewCells.{data_long}
use Rattle.hive_emit.specs.declared.security.SecurityEntry.{SecurityEntry}
use Rattle.hive_emit.specs.EmittedKeys.{SecurityIsWritten, SecuritiesAreWritten, security_cells, CanPutKey, CanPutKeys, IsCounted, AreCounted, KeyAt, PutsKey, SubkeysDone, PutsSubkeys, OwnAt, KeyNodeFieldsAre, IsOffsetOf, listed_subkeys}
use Rattle.hive_emit.specs.Forms.{is_plain, Rises, IsClass}
use Rattle.hive_emit.proofs.Owns.{gives_stays}
use Rattle.hive_emit.proofs.Formed.{class_stays, formed_stay, formed_grown, formed_last, placed_subkeys, placed_rise}

-- security cells stay
pub held_grown : (securities : List SecurityEntry) (y z : Cells) → Grows y z → SecuritiesAreWritten securities y → SecuritiesAreWritten securities z
held_grown securities y z g h = all_as (SecurityIsWritten y) (SecurityIsWritten z) securities (λ s is. record { near = is.near; few = is.few; encoding = holds_grown y z s.at (security_bytes s.next s.previous s.count s.descriptor) g is.encoding }) h

held_at : (securities : List SecurityEntry) (cells : Cells) (i : ℕ) (s : SecurityEntry) → SecuritiesAreWritten securities cells → slice_get securities i ≡ Some s → SecurityIsWritten cells s × IsIn s.at (security_cells securities)
held_at [] cells i s h e = absurd (let no : ⊥ = cc in no)
held_at (t ∷ securities) cells zero s h e = let same : t ≡ s = cc in (subst (SecurityIsWritten cells) same h.0, inl (ap (λ (x : SecurityEntry). x.at) (sym same)))
held_at (t ∷ securities) cells (suc i) s h e = let rest = held_at securities cells i s h.1 e in (rest.0, inr rest.1)

pub held_there : (securities : List SecurityEntry) (cells : Cells) → SecuritiesAreWritten securities cells → (cell : ℕ) → IsIn cell (security_cells securities) → IsSome (cells cell)
held_there [] cells h cell i = absurd i
held_there (s ∷ securities) cells h cell (inl e) = ap is_some (ap cells e ∙ h.0.encoding.1)
held_there (s ∷ securities) cells h cell (inr i) = held_there securities cells h.1 cell i

-- a descriptor reads back
record Lent (securities : List SecurityEntry) (cells : Cells) (at : ℕ) (descriptor : List ℕ) : Type 0 where
  lent : List ℕ
  gives : Gives (descriptor_at at) cells [] lent descriptor
  among : (cell : ℕ) → IsIn cell lent → IsIn cell (security_cells securities)

lent_of : (securities : List SecurityEntry) (cells : Cells) (at : ℕ) (descriptor : List ℕ) → SecuritiesAreWritten securities cells → IsOffsetOf securities descriptor at → Lent securities cells at descriptor
lent_of securities cells at descriptor h (inl empty) = record {
  lent = [];
  gives = subst (λ (a : ℕ). Gives (descriptor_at a) cells [] [] descriptor) (sym empty.1) (subst (λ (d : List ℕ). Gives (descriptor_at nil_offset) cells [] [] d) (sym empty.0) (no_security cells));
  among = λ cell i. absurd i;
}
lent_of securities cells at descriptor h (inr found) =
    let held = held_at securities cells found.place found.security h found.is in
    record {
      lent = at ∷ [];
      gives = subst (λ (d : List ℕ). Gives (descriptor_at at) cells [] (at ∷ []) d) found.same
          (subst (λ (a : ℕ). Gives (descriptor_at a) cells [] (a ∷ []) found.security.descriptor) found.here
          (security_again cells found.security.at found.security.next found.security.previous found.security.count found.security.descriptor held.0.near held.0.few held.0.encoding));
      among = λ cell i. elim i [ inl e ↦ subst (λ (x : ℕ). IsIn x (security_cells securities)) (sym (e ∙ sym found.here)) held.1 | inr past ↦ absurd past ];
    }

-- names of subkeys
tie : (n : List ℕ) → name_order n n ≡ Equal
tie n = tied_itself names_total n

apart_below : (n : List ℕ) (ks : List (List ℕ × Entries)) → T (below_all name_order n ks) → IsIn n (map (λ k. k.0) ks) → ⊥
apart_below n [] h i = i
apart_below n (k ∷ ks) h (inl e) = let less : name_order n k.0 ≡ Less = less_of (name_order n k.0) (front_of (is_lt (name_order n k.0)) (below_all name_order n ks) h) in let same : name_order n k.0 ≡ Equal = ap (name_order n) (sym e) ∙ tie n in let no : ⊥ = cc in no
apart_below n (k ∷ ks) h (inr i) = apart_below n ks (back_of (is_lt (name_order n k.0)) (below_all name_order n ks) h) i

once_sorted : (ks : List (List ℕ × Entries)) → T (is_sorted name_order ks) → Once (map (λ k. k.0) ks)
once_sorted [] h = tt
once_sorted (k ∷ ks) h = (apart_below k.0 ks (front_of (below_all name_order k.0 ks) (is_sorted name_order ks) h), once_sorted ks (back_of (below_all name_order k.0 ks) (is_sorted name_order ks) h))

-- what holds of all entries holds of the entries of subkeys
pub all_parts : {A : Type 0} (P : A → Type 0) (xs ys : List A) → AllByRecursion P (xs ++ ys) → AllByRecursion P xs × AllByRecursion P ys
all_parts P [] ys h = (tt, h)
all_parts P (x ∷ xs) ys h = let rest = all_parts P xs ys h.1 in ((h.0, rest.0), rest.1)

can_below : (n : List ℕ) (es : Entries) → CanPutKeys (below n es) → CanPutKeys es
can_below n [] h = tt
can_below n (e ∷ es) h = (record { fits = h.0.fits; values = h.0.values; named = λ some. h.0.named (omega arith); short = h.0.short }, can_below n es h.1)

pub can_subkey : (ks : List (List ℕ × Entries)) (i : ℕ) (es : Entries) → Some es ≡ slice_get (map (λ k. k.1) ks) i → CanPutKeys (all_below ks) → CanPutKeys es
can_subkey [] i es e h = absurd (let no : ⊥ = cc in no)
can_subkey (k ∷ ks) zero es e h = let same : es ≡ k.1 = cc in subst CanPutKeys (sym same) (can_below k.0 k.1 (all_parts (λ (e : List (List ℕ) × Row). CanPutKey e.0 e.1) (below k.0 k.1) (all_below ks) h).0)
can_subkey (k ∷ ks) (suc i) es e h = can_subkey ks i es e (all_parts (λ (e : List (List ℕ) × Row). CanPutKey e.0 e.1) (below k.0 k.1) (all_below ks) h).1

counted_below : (securities : List SecurityEntry) (n : List ℕ) (es : Entries) → AreCounted securities (below n es) → AreCounted securities es
counted_below securities n [] h = tt
counted_below securities n (e ∷ es) h = (h.0, counted_below securities n es h.1)

pub counted_subkey : (securities : List SecurityEntry) (ks : List (List ℕ × Entries)) (i : ℕ) (es : Entries) → Some es ≡ slice_get (map (λ k. k.1) ks) i → AreCounted securities (all_below ks) → AreCounted securities es
counted_subkey securities [] i es e h = absurd (let no : ⊥ = cc in no)
counted_subkey securities (k ∷ ks) zero es e h = let same : es ≡ k.1 = cc in subst (AreCounted securities) (sym same) (counted_below securities k.0 k.1 (all_parts (λ (e : List (List ℕ) × Row). IsCounted securities e.1) (below k.0 k.1) (all_below ks) h).0)
counted_subkey securities (k ∷ ks) (suc i) es e h = counted_subkey securities ks i es e (all_parts (λ (e : List (List ℕ) × Row). IsCounted securities e.1) (below k.0 k.1) (all_below ks) h).1

folded_some : (n : List ℕ) → 0 < length n → folded n ≡ [] → ⊥
folded_some [] h e = omega (arith, h)
folded_some (u ∷ n) h e = let no : ⊥ = cc in no

named_subkey : (k : List ℕ × Entries) → IsNode k.1 → root_name k.1 ≡ k.0 → CanPutKeys (below k.0 k.1) → k.0 ≡ [] → ⊥
named_subkey k node named can e =
    let whole : k.1 ≡ ([], node.row) ∷ node.others = node.whole in
    let first : CanPutKeys (below k.0 (([], node.row) ∷ node.others)) = subst (λ es. CanPutKeys (below k.0 es)) whole can in
    folded_some node.row.name (first.0.named (omega arith)) (sym (ap root_name whole) ∙ named ∙ e)

some_named : (ks : List (List ℕ × Entries)) → AreNodes ks → AllByRecursion (λ (k : List ℕ × Entries). root_name k.1 ≡ k.0) ks → CanPutKeys (all_below ks) → IsIn [] (map (λ k. k.0) ks) → ⊥
some_named [] nodes named can i = i
some_named (k ∷ ks) nodes named can i =
    let parts = all_parts (λ (e : List (List ℕ) × Row). CanPutKey e.0 e.1) (below k.0 k.1) (all_below ks) can in
    elim i [ inl e ↦ named_subkey k nodes.0 named.0 parts.0 (sym e) | inr j ↦ some_named ks nodes.1 named.1 parts.1 j ]

-- the subkeys, one after another
lent_last : (f : Keys Row) (at : ℕ) (p : KeyParts Row) (below : Keys Row) (cell : ℕ) → IsIn cell (lent_cells (with_last f at p below)) → IsIn cell (lent_cells f) ⊎ IsIn cell (p.lent ++ lent_cells below)
lent_last none at p below cell h = elim (in_either cell (p.lent ++ lent_cells below) [] h) [ inl i ↦ inr i | inr i ↦ absurd i ]
lent_last (key to q subkey_list after) at p below cell h = elim (in_either cell (q.lent ++ lent_cells subkey_list) (lent_cells (with_last after at p below)) h) [
  | inl i ↦ inl (in_front cell (q.lent ++ lent_cells subkey_list) (lent_cells after) i)
  | inr i ↦ elim (lent_last after at p below cell i) [ inl j ↦ inl (in_back cell (q.lent ++ lent_cells subkey_list) (lent_cells after) j) | inr j ↦ inr j ]
]

pub no_subkeys_done : (bytes : List ℕ) (securities : List SecurityEntry) (parent : ℕ) → Makes bytes bytes (PutsSubkeys securities parent [] [])
no_subkeys_done bytes securities parent = made_none bytes (PutsSubkeys securities parent [] []) (λ x held. record { keys = none; writing = writes_none (keys_in true) (keys_local true) (keys_there true) x; at = refl; listed = tt; near = tt; lent = λ cell i. absurd i; formed = tt })

subkeys_on : (securities : List SecurityEntry) (parent : ℕ) (cell_offsets : List ℕ) (subkey_list : List (List ℕ × Entries)) (at : ℕ) (name : List ℕ) (entries : Entries) (x y z : Cells) → root_name entries ≡ name → Grows x y → Grows y z → PutsSubkeys securities parent cell_offsets subkey_list x y → PutsKey securities parent at entries y z → PutsSubkeys securities parent (cell_offsets ++ at ∷ []) (subkey_list ++ (name, entries) ∷ []) x z
subkeys_on securities parent cell_offsets subkey_list at name entries x y z named g h done one held =
    let k = done held in
    let o = one (held_grown securities x y g held) in
    record {
      keys = with_last k.keys at o.parts o.below;
      writing = writes_on (keys_in true) (keys_local true) (keys_there true) x y z k.keys at o.parts o.below k.writing o.written;
      at = offsets_last (keys_in true z) k.keys at o.parts o.below ∙ ap (λ ps. ps ++ at ∷ []) k.at;
      listed = subst (λ (n : List ℕ). AreListed (subkey_list ++ (n, entries) ∷ []) (with_last k.keys at o.parts o.below)) (sym o.name ∙ named) (listed_more subkey_list k.keys at o.parts o.below entries k.listed o.node);
      near = all_push (λ at. at < 2 ^ 32) cell_offsets at k.near o.near;
      lent = λ cell i. elim (lent_last k.keys at o.parts o.below cell i) [ inl j ↦ k.lent cell j | inr j ↦ o.lent cell j ];
      formed = formed_last z (IsOffsetOf securities) parent k.keys at o.parts o.below (formed_grown y z (IsOffsetOf securities) parent k.keys k.writing.fits h k.formed) o.form o.formed;
    }

pub subkeys_more : (a b c : List ℕ) (securities : List SecurityEntry) (parent : ℕ) (cell_offsets : List ℕ) (subkey_list : List (List ℕ × Entries)) (at : ℕ) (name : List ℕ) (entries : Entries) → root_name entries ≡ name → Makes a b (PutsSubkeys securities parent cell_offsets subkey_list) → Makes b c (PutsKey securities parent at entries) → Makes a c (PutsSubkeys securities parent (cell_offsets ++ at ∷ []) (subkey_list ++ (name, entries) ∷ []))
subkeys_more a b c securities parent cell_offsets subkey_list at name entries named m n = made_then a b c (PutsSubkeys securities parent cell_offsets subkey_list) (PutsKey securities parent at entries) (PutsSubkeys securities parent (cell_offsets ++ at ∷ []) (subkey_list ++ (name, entries) ∷ [])) m n (λ x y z g h d o. subkeys_on securities parent cell_offsets subkey_list at name entries x y z named g h d o)

-- the whole key
shown_some : (bytes : List ℕ) (at : ℕ) (o : Option (List ℕ)) → IsAllocatedCell bytes at → MatchOption o (¬ IsAllocatedCell bytes at) (λ its. IsAllocatedCell bytes at × (its ≡ cell_data bytes at)) → o ≡ Some (cell_data bytes at)
shown_some bytes at None found h = absurd (h found)
shown_some bytes at (Some its) found h = ap Some h.1

some_shown : (bytes : List ℕ) (at : ℕ) (its : List ℕ) (o : Option (List ℕ)) → o ≡ Some its → MatchOption o (¬ IsAllocatedCell bytes at) (λ its. IsAllocatedCell bytes at × (its ≡ cell_data bytes at)) → IsAllocatedCell bytes at × (its ≡ cell_data bytes at)
some_shown bytes at its None e h = absurd (let no : ⊥ = cc in no)
some_shown bytes at its (Some is) e h = let same : is ≡ its = cc in (h.0, sym same ∙ h.1)

pub long_stays : (a b : List ℕ) (P : Cells → Cells → Type 0) (at len : ℕ) (before : Cells) → Shows a before → Tiles a → Tiles b → Makes a b P → IsLongCell a at len → IsLongCell b at len
long_stays a b P at len before shows tiles new_tiles m long =
    let x = m.cells before shows in
    let was : before at ≡ Some (cell_data a at) = shown_some a at (before at) long.0 (shows at) in
    let is : x.0 at ≡ Some (cell_data a at) = x.2 at (ap is_some was) ∙ was in
    let found = some_shown b at (cell_data a at) (x.0 at) is (x.1 at) in
    (found.0, omega (arith, long.1, data_long a at tiles long.0, data_long b at new_tiles found.0, ap length found.1))

pub record Filling (parent at len security class values subkey_list : ℕ) (row : Row) (its : KeyNodeFields) (securities : List SecurityEntry) (entries : Entries) (cell_offsets : List ℕ) : Type 0 where
  pub count : length cell_offsets ≡ length (subkeys_of entries)
  pub near : AreOffsets cell_offsets
  pub few : length (subkeys_of entries) < 2 ^ 24
  pub near_at : at < 2 ^ 32
  pub security_near : security < 2 ^ 32
  pub has : HasSubkeys entries (subkeys_of entries)
  pub here : row_at entries [] ≡ Some row
  pub can : CanPutKeys entries
  pub time : row.time < 2 ^ 64
  pub said : KeyNodeFieldsAre its row parent (length (subkeys_of entries)) security class values subkey_list
  pub offset : IsOffsetOf securities row.descriptor security

whole_of : (entries : Entries) (row : Row) → HasSubkeys entries (subkeys_of entries) → row_at entries [] ≡ Some row → entries ≡ entries_of row (subkeys_of entries)
whole_of entries row has here = has.whole row here

below_can : (entries : Entries) (row : Row) → HasSubkeys entries (subkeys_of entries) → row_at entries [] ≡ Some row → CanPutKeys entries → CanPutKey [] row × CanPutKeys (all_below (subkeys_of entries))
below_can entries row has here can = subst CanPutKeys (whole_of entries row has here) can

pub counted_parts : (securities : List SecurityEntry) (entries : Entries) (row : Row) → HasSubkeys entries (subkeys_of entries) → row_at entries [] ≡ Some row → AreCounted securities entries → IsCounted securities row × AreCounted securities (all_below (subkeys_of entries))
counted_parts securities entries row has here counted = subst (AreCounted securities) (whole_of entries row has here) counted

pub subkeys_can : (entries : Entries) (row : Row) → HasSubkeys entries (subkeys_of entries) → row_at entries [] ≡ Some row → CanPutKeys entries → CanPutKeys (all_below (subkeys_of entries))
subkeys_can entries row has here can = (below_can entries row has here can).1

at_end : (securities : List SecurityEntry) (parent at len security class values subkey_list : ℕ) (row : Row) (its : KeyNodeFields) (entries : Entries) (cell_offsets : List ℕ) (x0 x1 x2 x3 x4 : Cells) → Filling parent at len security class values subkey_list row its securities entries cell_offsets
    → Grows x0 x1 → Grows x1 x2 → Grows x2 x3 → SameBut at x3 x4 → Opens at len x0 x1 → SubkeysDone securities at cell_offsets (subkeys_of entries) x1 x2 → OwnAt class values subkey_list row cell_offsets (subkeys_of entries) x2 x3 → CellHolds x4 at (key_node_bytes row its) → SecuritiesAreWritten securities x0 → KeyAt securities parent at entries x0 x4
at_end securities parent at len security class values subkey_list row its entries cell_offsets x0 x1 x2 x3 x4 f g01 g12 g23 same o k own holds held = record {
  parts = parts;
  below = k.keys;
  written = writes_filled (keys_in true) (keys_local true) (keys_there true) x0 x1 x2 x3 x4 at parts k.keys rest g01 gone here k.writing g23 same read refl own.adds.once own.adds.fresh (λ cell i. held_there securities x0 held cell (k.lent cell i)) k.at once_names some_names;
  node = subst (λ (es : Entries). IsNodeOf es parts k.keys) (sym whole) (node_of parts k.keys (subkeys_of entries) f.has.rises (listed_rows (subkeys_of entries) k.keys k.listed));
  name = ap root_name whole;
  near = f.near_at;
  lent = λ cell i. elim (in_either cell lends.lent (lent_cells k.keys) i) [ inl j ↦ lends.among cell j | inr j ↦ k.lent cell j ];
  form = record {
    its = its;
    encoding = holds;
    parent_is = f.said.parent_is;
    subkey_total = f.said.subkey_count_is ∙ sym f.count ∙ sym (placed_long cell_offsets (subkeys_of entries) (omega (arith, f.count))) ∙ ap length listed_are;
    value_count = f.said.value_count_is;
    class_own = own.class_own;
    values_own = own.values_own;
    subkeys_own = own.subkeys_own;
    own = refl;
    class = subst (λ (n : ℕ). IsClass n row.class own.class_own x4) (sym f.said.class_is) (class_stays class row.class own.class_own x3 x4 class_same own.class_is);
    values = subst (λ (n : ℕ). AreListedValues n row.values own.values_own x4) (sym f.said.values_is) (values_stay values row.values own.values_own x3 x4 values_same own.values_is);
    subkey_list = subst (λ (n : ℕ). IsListed n (is_plain (listed_subkeys k.keys)) (listed_subkeys k.keys) own.subkeys_own x4) (sym f.said.subkeys_is)
        (subst (λ (ks : List Subkey). IsListed subkey_list (is_plain ks) ks own.subkeys_own x4) listed_are (listed_stays subkey_list (is_plain (placed cell_offsets (subkeys_of entries))) (placed cell_offsets (subkeys_of entries)) own.subkeys_own x3 x4 subkeys_same own.subkeys_is));
    rises = subst Rises listed_are (placed_rise cell_offsets (subkeys_of entries) f.has.rises);
    security = subst (IsOffsetOf securities row.descriptor) (sym f.said.security_is) f.offset;
  };
  formed = formed_stay x3 x4 (IsOffsetOf securities) at k.keys (λ cell i. same cell (λ e. some_not (x1 at) here (ap x1 (sym e) ∙ k.writing.fresh cell i))) (formed_grown x2 x3 (IsOffsetOf securities) at k.keys k.writing.fits g23 k.formed);
}
  where
    whole : entries ≡ entries_of row (subkeys_of entries)
    whole = f.has.whole row f.here

    gone : x0 at ≡ None
    gone = o.adds.fresh at (inl refl)

    here : IsSome (x1 at)
    here = o.adds.there at (inl refl)

    mid : IsSome (x2 at)
    mid = ap is_some (g12 at here) ∙ here

    rest : List ℕ
    rest = own.class_own ++ (own.values_own ++ own.subkeys_own)

    not_at : (cell : ℕ) → IsIn cell rest → cell ≡ at → ⊥
    not_at cell i e = some_not (x2 at) mid (ap x2 (sym e) ∙ own.adds.fresh cell i)

    class_same : (cell : ℕ) → IsIn cell own.class_own → x4 cell ≡ x3 cell
    class_same cell i = same cell (λ e. not_at cell (in_front cell own.class_own (own.values_own ++ own.subkeys_own) i) e)

    values_same : (cell : ℕ) → IsIn cell own.values_own → x4 cell ≡ x3 cell
    values_same cell i = same cell (λ e. not_at cell (in_back cell own.class_own (own.values_own ++ own.subkeys_own) (in_front cell own.values_own own.subkeys_own i)) e)

    subkeys_same : (cell : ℕ) → IsIn cell own.subkeys_own → x4 cell ≡ x3 cell
    subkeys_same cell i = same cell (λ e. not_at cell (in_back cell own.class_own (own.values_own ++ own.subkeys_own) (in_back cell own.values_own own.subkeys_own i)) e)

    listed_are : placed cell_offsets (subkeys_of entries) ≡ listed_subkeys k.keys
    listed_are = ap (λ (os : List ℕ). placed os (subkeys_of entries)) (sym k.at) ∙ placed_subkeys (subkeys_of entries) k.keys k.listed

    grown : Grows x0 x4
    grown cell there = same cell (λ e. some_not (x0 cell) there (ap x0 e ∙ gone)) ∙ grows_on x0 x2 x3 (grows_on x0 x1 x2 g01 g12) g23 cell there

    lends : Lent securities x4 security row.descriptor
    lends = lent_of securities x4 security row.descriptor (held_grown securities x0 x4 grown held) f.offset

    parts : KeyParts Row
    parts = record { name = folded row.name; row = row; subkey_list = cell_offsets; own = at ∷ rest; lent = lends.lent }

    class_now : Gives (class_at (length row.class) its.class) x4 own.class_own [] row.class
    class_now = subst (λ (n : ℕ). Gives (class_at (length row.class) n) x4 own.class_own [] row.class) (sym f.said.class_is)
        (gives_stays (class_at (length row.class) class) x3 x4 own.class_own [] row.class (local_class (length row.class) class) own.class_gives class_same (λ cell i. absurd i))

    values_now : Gives (values_at true its.value_count its.values) x4 own.values_own [] row.values
    values_now = subst (λ (n : ℕ). Gives (values_at true n its.values) x4 own.values_own [] row.values) (sym f.said.value_count_is) (subst (λ (n : ℕ). Gives (values_at true (finite.len row.values) n) x4 own.values_own [] row.values) (sym f.said.values_is)
        (gives_stays (values_at true (finite.len row.values) values) x3 x4 own.values_own [] row.values (local_values true (finite.len row.values) values) own.values_gives values_same (λ cell i. absurd i)))

    subkeys_now : Gives (subkeys_at its.subkey_total its.subkey_list) x4 own.subkeys_own [] cell_offsets
    subkeys_now = subst (λ (n : ℕ). Gives (subkeys_at n its.subkey_list) x4 own.subkeys_own [] cell_offsets) (f.count ∙ sym f.said.subkey_count_is) (subst (λ (n : ℕ). Gives (subkeys_at (length cell_offsets) n) x4 own.subkeys_own [] cell_offsets) (sym f.said.subkeys_is)
        (gives_stays (subkeys_at (length cell_offsets) subkey_list) x3 x4 own.subkeys_own [] cell_offsets (local_subkeys (length cell_offsets) subkey_list) own.subkeys_gives subkeys_same (λ cell i. absurd i)))

    security_now : Gives (descriptor_at its.security) x4 [] lends.lent row.descriptor
    security_now = subst (λ (n : ℕ). Gives (descriptor_at n) x4 [] lends.lent row.descriptor) (sym f.said.security_is) lends.gives

    can : CanPutKey [] row × CanPutKeys (all_below (subkeys_of entries))
    can = below_can entries row f.has f.here f.can

    near : KeyNodeFieldsFit its
    near = record {
      subkey_total = (let e = f.said.subkey_count_is in let few = f.few in omega (arith, e, few));
      subkey_list = (let e = f.said.subkeys_is in let n = own.subkeys_near in omega (arith, e, n));
      value_count = (let e = f.said.value_count_is in let n = can.0.values.few in omega (arith, e, n));
      values = (let e = f.said.values_is in let n = own.values_near in omega (arith, e, n));
      security = (let e = f.said.security_is in let n = f.security_near in omega (arith, e, n));
      class = (let e = f.said.class_is in let n = own.class_near in omega (arith, e, n));
    }

    read : keys_in true x4 at ≡ Ok parts
    read = key_again true x4 at row its own.class_own lends.lent own.values_own own.subkeys_own cell_offsets (can.0.fits f.time) near holds class_now security_now values_now subkeys_now

    names_are : map (λ (k : List ℕ × Entries). k.0) (subkeys_of entries) ≡ names k.keys
    names_are = listed_names (subkeys_of entries) k.keys k.listed

    once_names : Once (names k.keys)
    once_names = subst Once names_are (once_sorted (subkeys_of entries) f.has.rises)

    some_names : IsIn [] (names k.keys) → ⊥
    some_names i = some_named (subkeys_of entries) f.has.nodes f.has.named can.1 (subst (λ (ns : List (List ℕ)). IsIn [] ns) (sym names_are) i)

pub key_made : (securities : List SecurityEntry) (a b c d e : List ℕ) (parent at len security class values subkey_list : ℕ) (row : Row) (its : KeyNodeFields) (entries : Entries) (cell_offsets : List ℕ) → Filling parent at len security class values subkey_list row its securities entries cell_offsets
    → Makes a b (Opens at len) → Makes b c (PutsSubkeys securities at cell_offsets (subkeys_of entries)) → Makes c d (OwnAt class values subkey_list row cell_offsets (subkeys_of entries)) → Fills d e at (key_node_bytes row its) → Makes a e (PutsKey securities parent at entries)
key_made securities a b c d e parent at len security class values subkey_list row its entries cell_offsets f m n o p = record {
  cells = λ x0 shows.
      let x1 = m.cells x0 shows in
      let x2 = n.cells x1.0 x1.1 in
      let x3 = o.cells x2.0 x2.1 in
      let x4 = p.cells x3.0 x3.1 in
      let gone : x0 at ≡ None = x1.3.adds.fresh at (inl refl) in (
        x4.0,
        x4.1,
        (λ cell there. x4.2 cell (λ i. some_not (x0 cell) there (ap x0 i ∙ gone)) ∙ grows_on x0 x2.0 x3.0 (grows_on x0 x1.0 x2.0 x1.2 x2.2) x3.2 cell there),
        (λ held. at_end securities parent at len security class values subkey_list row its entries cell_offsets x0 x1.0 x2.0 x3.0 x4.0 f x1.2 x2.2 x3.2 x4.2 x1.3 (x2.3 (held_grown securities x0 x1.0 x1.2 held)) x3.3 x4.3 held),
      );
  longer = (let i = m.longer in let j = n.longer in let k = o.longer in let l = p.len in omega (arith, i, j, k, l));
}

-- the subkey at an index
pub found_subkey : (ks : List (List ℕ × Entries)) (i : ℕ) (es : Entries) → AllByRecursion (λ (k : List ℕ × Entries). root_name k.1 ≡ k.0) ks → Some es ≡ slice_get (map (λ k. k.1) ks) i → (name : List ℕ) × (slice_get ks i ≡ Some (name, es)) × (root_name es ≡ name)
found_subkey [] i es named e = absurd (let no : ⊥ = cc in no)
found_subkey (k ∷ ks) zero es named e = let same : k.1 ≡ es = cc in (k.0, ap (λ (x : Entries). Some (k.0, x)) same, ap root_name (sym same) ∙ named.0)
found_subkey (k ∷ ks) (suc i) es named e = found_subkey ks i es named.1 e

pub subkey_there : (ks : List (List ℕ × Entries)) (i : ℕ) → i < length ks → None ≡ slice_get (map (λ k. k.1) ks) i → ⊥
subkey_there [] i h e = omega (arith, h)
subkey_there (k ∷ ks) zero h e = let no : ⊥ = cc in no
subkey_there (k ∷ ks) (suc i) h e = subkey_there ks i (omega (arith, h)) e

below_some : (ks : List (List ℕ × Entries)) → AreNodes ks → length ks ≤ length (all_below ks)
below_some [] nodes = omega arith
below_some (k ∷ ks) nodes =
    let node = nodes.0 in
    let some : length (below k.0 k.1) ≡ length k.1 = below_long k.0 k.1 in
    let whole : length k.1 ≡ length (([], node.row) ∷ node.others) = ap length node.whole in
    omega (arith, length-append (below k.0 k.1) (all_below ks), some, whole, below_some ks nodes.1)
  where
    below_long : (n : List ℕ) (es : Entries) → length (below n es) ≡ length es
    below_long n [] = refl
    below_long n (e ∷ es) = ap suc (below_long n es)

pub subkeys_few : (entries : Entries) (row : Row) → HasSubkeys entries (subkeys_of entries) → row_at entries [] ≡ Some row → length (subkeys_of entries) < length entries
subkeys_few entries row has here = let whole : length entries ≡ length (entries_of row (subkeys_of entries)) = ap length (has.whole row here) in omega (arith, whole, below_some (subkeys_of entries) has.nodes)

pub subkeys_next : (a b c : List ℕ) (securities : List SecurityEntry) (parent : ℕ) (cell_offsets : List ℕ) (ks : List (List ℕ × Entries)) (i at : ℕ) (es : Entries) → AllByRecursion (λ (k : List ℕ × Entries). root_name k.1 ≡ k.0) ks → Some es ≡ slice_get (map (λ k. k.1) ks) i → Makes a b (PutsSubkeys securities parent cell_offsets (take i ks)) → Makes b c (PutsKey securities parent at es) → Makes a c (PutsSubkeys securities parent (cell_offsets ++ at ∷ []) (take (i + 1) ks))
subkeys_next a b c securities parent cell_offsets ks i at es named e m n =
    let k = found_subkey ks i es named e in
    subst (λ (subkey_list : List (List ℕ × Entries)). Makes a c (PutsSubkeys securities parent (cell_offsets ++ at ∷ []) subkey_list)) (sym (take_next ks i (k.0, es) k.1)) (subkeys_more a b c securities parent cell_offsets (take i ks) at k.0 es k.2 m n)

pub both_made : (a b c : List ℕ) (P Q : Cells → Cells → Type 0) → Makes a b P → Makes b c Q → Makes a c (λ x z. Unit {0})
both_made a b c P Q m n = made_then a b c P Q (λ x z. Unit {0}) m n (λ x y z g h p q. tt)
