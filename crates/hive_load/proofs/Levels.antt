-- A key and the keys below it, loaded or refused.
use Rattle.std.proofs.Common.{◌≡◌, ◌≢◌, ◌⊎◌, inl, inr, ℕ, zero, suc, Bool, List, [], ◌∷◌, ◌++◌, length, refl, ◌∙◌, ap, sym, subst, arith, Ok, Err, Some, slice_get, append_assoc, append-nil, Result, MatchResult}
use Rattle.refusals.specs.declared.refusal.Refusal.{Refusal}
use Rattle.refusals.specs.declared.refusal.Refusal.TheVariants as refusal
use Rattle.refusals.specs.declared.refusal.Cause.TheVariants as cause
use Rattle.reg_tree_parts.specs.Rows.{Row}
use Rattle.reg_tree_parts.specs.Nodes.{Entries, entries_of, root_name, row_in}
use Rattle.hive_tree_model.specs.Lists.{IsIn, Once}
use Rattle.hive_tree_model.specs.Keys.{KeyParts, Keys, none, key, offsets, names, lent_cells}
use Rattle.hive_tree_model.specs.Trees.{same}
use Rattle.hive_tree_model.specs.Encodings.{CellsMatchKeys}
use Rattle.hive_tree_model.specs.Faults.{IsTrail}
use Rattle.hive_tree_model.specs.Loads.{CellMarks, Marked, with_last}
use Rattle.hive_tree_model.proofs.Basics.{decided, clash, same_is, same_of, in_front, in_back, in_either}
use Rattle.hive_tree_model.proofs.Loading.{begins, goes_on, ends, offsets_last, told_up}
use Rattle.hive_cells.specs.Bins.{Cells}
use Rattle.hive_records.specs.KeyNodes.{key_at, keys_in, trail_in, lends_in}
use Rattle.hive_records.specs.Nodes.{AreNodesOf}
use Rattle.hive_records.specs.Follows.{Follows}
use Rattle.hive_records.proofs.NodesOf.{node_of}
use Rattle.hive_load_parts.specs.Nodes.{AreListed}
use Rattle.hive_load_parts.specs.PartsOfKey.{parts_at}
use Rattle.hive_load_parts.specs.Descriptors.{KeepsDescriptors}
use Rattle.hive_load_parts.proofs.KeyTold.{key_parts, key_told}
use Rattle.hive_load_parts.proofs.Listed.{listed_rows, listed_more, listed_names}
use Rattle.hive_load_parts.proofs.Lending.{keeps_none}
use Rattle.hive_load.specs.Nodes.{names_of, AreSiblings, NoSiblings}
use Rattle.hive_load.specs.Answers.{IsShallow, LoadsKey, RefusesKey, LoadsKeys, RefusesKeys}
use Rattle.hive_load.proofs.Shuffled.{shuffled_found}

-- ---- lists

pub behind : (xs : List ℕ) (x : ℕ) (ys : List ℕ) → slice_get (xs ++ x ∷ ys) (length xs) ≡ Some x
behind [] x ys = refl
behind (z ∷ xs) x ys = behind xs x ys

pub keeps_joined : (a b c : List (ℕ × List ℕ)) (xs ys : List ℕ) → KeepsDescriptors a b xs → KeepsDescriptors b c ys → KeepsDescriptors a c (xs ++ ys)
keeps_joined a b c xs ys h g at = (
  λ is. elim ((g at).0 is) [
    | inl k ↦ elim ((h at).0 k) [ inl j ↦ inl j | inr i ↦ inr (in_front at xs ys i) ]
    | inr i ↦ inr (in_back at xs ys i)
  ],
  λ is. elim is [
    | inl j ↦ (g at).1 (inl ((h at).1 (inl j)))
    | inr i ↦ elim (in_either at xs ys i) [ inl j ↦ (g at).1 (inl ((h at).1 (inr j))) | inr j ↦ (g at).1 (inr j) ]
  ],
)

lent_last : (f : Keys Row) (at : ℕ) (p : KeyParts Row) (below : Keys Row) → lent_cells (with_last f at p below) ≡ lent_cells f ++ (p.lent ++ lent_cells below)
lent_last none at p below = append-nil (p.lent ++ lent_cells below)
lent_last (key to q subkey_list after) at p below = ap (λ (z : List ℕ). (q.lent ++ lent_cells subkey_list) ++ z) (lent_last after at p below) ∙ sym (append_assoc (q.lent ++ lent_cells subkey_list) (lent_cells after) (p.lent ++ lent_cells below))

shallow_last : (levels : ℕ) (f : Keys Row) (at : ℕ) (p : KeyParts Row) (below : Keys Row) → IsShallow levels f → IsShallow levels (key at p below none) → IsShallow levels (with_last f at p below)
shallow_last levels none at p below h g = g
shallow_last zero (key to q subkey_list after) at p below h g = h
shallow_last (suc levels) (key to q subkey_list after) at p below h g = (h.0, shallow_last (suc levels) after at p below h.1 g)

among : (n : List ℕ) (ns : List (List ℕ)) → IsIn n ns ⊎ (IsIn n ns → ⊥)
among n [] = inr (λ h. h)
among n (m ∷ ns) = elim (decided (same n m)) [
  | inl t ↦ inl (inl (same_is n m t))
  | inr f ↦ elim (among n ns) [ inl i ↦ inl (inr i) | inr h ↦ inr (λ i. elim i [ inl e ↦ clash (same n m) (same_of n m e) f | inr j ↦ h j ]) ]
]

-- ---- keys one after another

module _ (split : Bool) (cells : Cells) (old : CellMarks) (had : List (ℕ × List ℕ)) (levels : ℕ) where
  pub keys_begin : LoadsKeys split cells old old had had levels [] []
  keys_begin = record { keys = none; loading = begins (keys_in split cells) old; are_listed = refl; are_nodes = tt; shallow = no_keys levels; keeps = keeps_none had }
    where
      no_keys : (n : ℕ) → IsShallow n none
      no_keys zero = tt
      no_keys (suc n) = tt

  pub keys_on : (mid new : CellMarks) (between has : List (ℕ × List ℕ)) (listed : List ℕ) (nodes : List (List ℕ × Entries)) (at : ℕ) (node : Entries) →
      LoadsKeys split cells old mid had between levels listed nodes → LoadsKey split cells mid new between has levels at node → LoadsKeys split cells old new had has levels (listed ++ at ∷ []) (nodes ++ (root_name node, node) ∷ [])
  keys_on mid new between has listed nodes at node l k = record {
    keys = with_last l.keys at k.parts k.below;
    loading = goes_on (keys_in split cells) old mid new l.keys at k.parts k.below l.loading k.loaded;
    are_listed = offsets_last (keys_in split cells) l.keys at k.parts k.below ∙ ap (λ (z : List ℕ). z ++ at ∷ []) l.are_listed;
    are_nodes = subst (λ (n : List ℕ). AreListed (nodes ++ (n, node) ∷ []) (with_last l.keys at k.parts k.below)) (sym k.named) (listed_more nodes l.keys at k.parts k.below node l.are_nodes k.is_node);
    shallow = shallow_last levels l.keys at k.parts k.below l.shallow k.shallow;
    keeps = subst (λ (z : List ℕ). KeepsDescriptors had has z) (sym (lent_last l.keys at k.parts k.below)) (keeps_joined had between has (lent_cells l.keys) (k.parts.lent ++ lent_cells k.below) l.keeps k.keeps);
  }

  pub keys_stop : (mid : CellMarks) (between : List (ℕ × List ℕ)) (first rest : List ℕ) (nodes : List (List ℕ × Entries)) (at : ℕ) (why : Refusal) →
      LoadsKeys split cells old mid had between levels first nodes → RefusesKey split cells mid levels at why → RefusesKeys split cells old levels (first ++ at ∷ rest) why
  keys_stop mid between first rest nodes at why l r = inr (l.keys, mid, at, rest, l.loading, ap (λ (z : List ℕ). z ++ at ∷ rest) (sym l.are_listed), r)

-- ---- a key and those below it

found_nodes : (nodes sorted : List (List ℕ × Entries)) (keys : Keys Row) → AreSiblings nodes sorted → AreNodesOf nodes keys → AreNodesOf sorted keys
found_nodes nodes sorted keys s h name path = ap (λ o. row_in o path) (shuffled_found nodes sorted s.same s.apart name) ∙ h name path

module _ (split : Bool) (cells : Cells) (at : ℕ) (old mid : CellMarks) (row : Row) (subkey_list : List ℕ) (read : Follows (key_at split at) cells old mid (Ok (row, subkey_list))) where
  abbrev its : KeyParts Row
  its = parts_at split cells at row subkey_list

  reads_so : keys_in split cells at ≡ Ok (parts_at split cells at row subkey_list)
  reads_so = (key_parts split cells at old mid row subkey_list read).0

  are_marked : Marked old mid (trail_in split cells at)
  are_marked = (key_parts split cells at old mid row subkey_list read).1

  pub key_loaded : (new : CellMarks) (had between has : List (ℕ × List ℕ)) (levels : ℕ) (nodes sorted : List (List ℕ × Entries)) (node : Entries) → KeepsDescriptors had between (lends_in split cells at) → LoadsKeys split cells mid new between has levels subkey_list nodes → AreSiblings nodes sorted → node ≡ entries_of row sorted →
      LoadsKey split cells old new had has (suc levels) at node
  key_loaded new had between has levels nodes sorted node lends l s e =
      let named : names_of nodes ≡ names l.keys = listed_names nodes l.keys l.are_nodes in
      subst (λ (n : Entries). LoadsKey split cells old new had has (suc levels) at n) (sym e) (record {
        parts = parts_at split cells at row subkey_list;
        below = l.keys;
        loaded = ends (keys_in split cells) old mid new at (parts_at split cells at row subkey_list) l.keys reads_so are_marked l.loading l.are_listed
            (subst (λ (z : List (List ℕ)). Once z) named s.apart) (subst (λ (z : List (List ℕ)). IsIn [] z → ⊥) named s.named);
        is_node = node_of (parts_at split cells at row subkey_list) l.keys sorted s.rises (found_nodes nodes sorted l.keys s (listed_rows nodes l.keys l.are_nodes));
        named = refl;
        shallow = (l.shallow, tt);
        keeps = keeps_joined had between has (lends_in split cells at) (lent_cells l.keys) lends l.keeps;
      })

  pub key_too_deep : RefusesKey split cells old zero at refusal.TooLarge
  key_too_deep = inr (inl (refl, ([], at, parts_at split cells at row subkey_list, refl, reads_so, omega arith)))

  module _ (trail : IsTrail (trail_in split cells) (keys_in split cells)) where
    pub subkey_refused : (levels : ℕ) (why : Refusal) → RefusesKeys split cells mid levels subkey_list why → RefusesKey split cells old (suc levels) at why
    subkey_refused levels why (inl e) = inl e
    subkey_refused levels why (inr r) = by_subkey r.6
      where
        listed : slice_get subkey_list (length (offsets r.0)) ≡ Some r.2
        listed = ap (λ (z : List ℕ). slice_get z (length (offsets r.0))) r.5 ∙ behind (offsets r.0) r.2 r.3

        by_subkey : RefusesKey split cells r.1 levels r.2 why → RefusesKey split cells old (suc levels) at why
        by_subkey (inl e) = inl e
        by_subkey (inr (inl (e, d))) = inr (inl (e, (length (offsets r.0) ∷ d.0, d.1, d.2, (parts_at split cells at row subkey_list, r.2, reads_so, listed, d.3), d.4, let most = d.5 in omega (arith, most))))
        by_subkey (inr (inr t)) = inr (inr (told_up (keys_in split cells) (trail_in split cells) trail (refusal.HiveDamaged 0 cause.BadName) (refusal.HiveDamaged 0 cause.Shared) at (parts_at split cells at row subkey_list) reads_so old mid r.1 are_marked r.0 r.4 r.2 r.3 r.5 why t))

  -- names that are missing or not apart
  record Place (keys : Keys Row) (name : List ℕ) : Type 0 where
    place : ℕ
    subkey : ℕ
    listed : slice_get (offsets keys) place ≡ Some subkey
    parts : KeyParts Row
    reads : keys_in split cells subkey ≡ Ok parts
    named : parts.name ≡ name

  place_in : (keys : Keys Row) → CellsMatchKeys (keys_in split cells) keys → (name : List ℕ) → IsIn name (names keys) → Place keys name
  place_in none fits name h = absurd h
  place_in (key to p below after) fits name (inl e) = record { place = 0; subkey = to; listed = refl; parts = p; reads = fits.0; named = sym e }
  place_in (key to p below after) fits name (inr h) = let there : Place after name = place_in after fits.3 name h in record { place = suc there.place; subkey = there.subkey; listed = there.listed; parts = there.parts; reads = there.reads; named = there.named }

  record Pair (keys : Keys Row) : Type 0 where
    name : List ℕ
    one : Place keys name
    other : Place keys name
    apart : one.place ≢ other.place

  pair_in : (keys : Keys Row) → CellsMatchKeys (keys_in split cells) keys → (Once (names keys) → ⊥) → Pair keys
  pair_in none fits twice = absurd (twice tt)
  pair_in (key to p below after) fits twice = by_rest (among p.name (names after)) (pair_in after fits.3)
    where
      zero_apart : (n : ℕ) → zero ≡ suc n → ⊥
      zero_apart n e = absurd (omega (arith, e))

      suc_apart : (n m : ℕ) → (n ≢ m) → suc n ≡ suc m → ⊥
      suc_apart n m h e = h (omega (arith, e))

      later : (name : List ℕ) → Place after name → Place (key to p below after) name
      later name there = record { place = suc there.place; subkey = there.subkey; listed = there.listed; parts = there.parts; reads = there.reads; named = there.named }

      both_later : Pair after → Pair (key to p below after)
      both_later pair = record { name = pair.name; one = later pair.name pair.one; other = later pair.name pair.other; apart = suc_apart pair.one.place pair.other.place pair.apart }

      by_rest : IsIn p.name (names after) ⊎ (IsIn p.name (names after) → ⊥) → ((Once (names after) → ⊥) → Pair after) → Pair (key to p below after)
      by_rest (inl h) rest = let there : Place after p.name = place_in after fits.3 p.name h in
          record { name = p.name; one = record { place = 0; subkey = to; listed = refl; parts = p; reads = fits.0; named = refl }; other = later p.name there; apart = zero_apart there.place }
      by_rest (inr h) rest = both_later (rest (λ o. twice (h, o)))

  pub siblings_refused : (new : CellMarks) (between has : List (ℕ × List ℕ)) (levels : ℕ) (nodes : List (List ℕ × Entries)) (why : Refusal) → LoadsKeys split cells mid new between has levels subkey_list nodes → NoSiblings nodes why → RefusesKey split cells old (suc levels) at why
  siblings_refused new between has levels nodes why l (inl e) = inl e
  siblings_refused new between has levels nodes why l (inr (e, inl h)) =
      let there : Place l.keys [] = place_in l.keys l.loading.fits [] (subst (λ (z : List (List ℕ)). IsIn [] z) (listed_names nodes l.keys l.are_nodes) h) in
      inr (inr (inr (inl (e, inl (there.place, [], there.subkey, there.parts, (parts_at split cells at row subkey_list, there.subkey, reads_so, ap (λ (z : List ℕ). slice_get z there.place) (sym l.are_listed) ∙ there.listed, refl), there.reads, there.named)))))
  siblings_refused new between has levels nodes why l (inr (e, inr h)) =
      let pair : Pair l.keys = pair_in l.keys l.loading.fits (λ o. h (subst (λ (z : List (List ℕ)). Once z) (sym (listed_names nodes l.keys l.are_nodes)) o)) in
      inr (inr (inr (inl (
        e,
        inr (record {
          way = [];
          at = at;
          leads = refl;
          parts = parts_at split cells at row subkey_list;
          reads_so = reads_so;
          i = pair.one.place;
          j = pair.other.place;
          apart = pair.apart;
          one = pair.one.subkey;
          one_listed = ap (λ (z : List ℕ). slice_get z pair.one.place) (sym l.are_listed) ∙ pair.one.listed;
          one_parts = pair.one.parts;
          one_reads = pair.one.reads;
          other = pair.other.subkey;
          other_listed = ap (λ (z : List ℕ). slice_get z pair.other.place) (sym l.are_listed) ∙ pair.other.listed;
          other_parts = pair.other.parts;
          other_reads = pair.other.reads;
          same_name = pair.one.named ∙ sym pair.other.named;
        }),
      ))))

-- a key that isn't read
pub key_unread : (split : Bool) (cells : Cells) (at : ℕ) (old new : CellMarks) (levels : ℕ) (why : Refusal) → Follows (key_at split at) cells old new (Err why) → RefusesKey split cells old levels at why
key_unread split cells at old new levels why h = elim (key_told split cells at old new why h) [ inl e ↦ inl e | inr t ↦ inr (inr t) ]

-- the answer of a key whose subkeys were loaded is the answer of its node
module _ (split : Bool) (cells : Cells) (at : ℕ) (old mid new : CellMarks) (row : Row) (subkey_list : List ℕ) (read : Follows (key_at split at) cells old mid (Ok (row, subkey_list))) where
  pub node_answers : (had between has : List (ℕ × List ℕ)) (below levels : ℕ) (nodes : List (List ℕ × Entries)) (result : Result Entries Refusal) → suc below ≡ levels → KeepsDescriptors had between (lends_in split cells at) → LoadsKeys split cells mid new between has below subkey_list nodes →
      MatchResult result (λ node. (sorted : List (List ℕ × Entries)) × (node ≡ entries_of row sorted) × AreSiblings nodes sorted) (λ why. NoSiblings nodes why) →
      MatchResult result (λ node. LoadsKey split cells old new had has levels at node) (λ why. RefusesKey split cells old levels at why)
  node_answers had between has below levels nodes (Ok node) more lends l s =
      subst (λ (n : ℕ). LoadsKey split cells old new had has n at node) more (key_loaded split cells at old mid row subkey_list read new had between has below nodes s.0 node lends l s.2 s.1)
  node_answers had between has below levels nodes (Err why) more lends l s =
      subst (λ (n : ℕ). RefusesKey split cells old n at why) more (siblings_refused split cells at old mid row subkey_list read new between has below nodes why l s)
