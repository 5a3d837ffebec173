-- Leaves of subkeys, and lists of leaves.
use Rattle.std.proofs.Common.{◌≡◌, ◌⊎◌, inl, inr, ℕ, zero, suc, ◌+◌, ◌-◌, ◌*◌, ◌<◌, ◌≤◌, ◌^◌, Bool, true, false, List, [], ◌∷◌, ◌++◌, length, map, flat_map, take, drop, slice_get, get_or, eqb, min, refl, sym, ◌∙◌, ap, subst, arith, append-nil, append_assoc, length-take, length-drop, Some}
use Rattle.std.specs.List.{AllByRecursion}
use Rattle.std.proofs.Math.Seq.{take-add}
use Rattle.std.proofs.lemmas.List.{map-append, length-map, take_all}
use Rattle.std.proofs.lemmas.Bool.{cases_lt, eqb-true}
use Rattle.std.proofs.lemmas.Option.{slice_get-get_or}
use Rattle.std.proofs.lemmas.List.Concat.{flat_map_single, flat_map-cons}
use Rattle.std.proofs.lemmas.Grind.{flat_map-append}
use Rattle.reg_tree_parts.specs.Nodes.{Entries, root_name}
use Rattle.hive_cells.specs.Bins.{Cells}
use Rattle.hive_tree_model.specs.Cells.{Grows}
use Rattle.hive_records.specs.Numbers.{nil_offset}
use Rattle.hive_records.specs.Lists.{subkeys_at, leaf_at}
use Rattle.hive_records.specs.Fields.{Gives, CellHolds}
use Rattle.hive_records.specs.ListEncodings.{Subkey, hashed, indirect, cell_offsets, AreOffsets}
use Rattle.hive_records.specs.KeyEncodings.{Leaf}
use Rattle.hive_records.proofs.ListsAgain.{plain_again, hashed_again, one_plain, one_hashed}
use Rattle.hive_records.proofs.ManyAgain.{indirect_back}
use Rattle.hive_records.proofs.WholesAgain.{no_subkeys}
use Rattle.hive_emit.specs.CellWrites.{Makes, Adds, Puts}
use Rattle.hive_emit.specs.KeyLists.{leaf_bytes, placed, SubkeyLeaf, leaf_own, leaf_offsets, IsLeaf, IsListed, ListedLeaves, SubkeysAt}
use Rattle.hive_emit.proofs.ValueMaps.{take_next}
use Rattle.hive_emit.proofs.Makings.{made_then, made_as, made_none, holds_grown, adds_none, adds_ahead, all_push, all_as, lists_none, lists_more}

-- subkeys with their cells
pub placed_at : (offsets : List ℕ) (subkeys : List (List ℕ × Entries)) (i at : ℕ) (k : List ℕ × Entries) → slice_get offsets i ≡ Some at → slice_get subkeys i ≡ Some k → slice_get (placed offsets subkeys) i ≡ Some (record { at = at; name = k.0 })
placed_at [] subkeys i at k e f = absurd (let no : ⊥ = cc in no)
placed_at (o ∷ offsets) [] i at k e f = absurd (let no : ⊥ = cc in no)
placed_at (o ∷ offsets) (s ∷ subkeys) zero at k e f = let a : o ≡ at = cc in let b : s ≡ k = cc in ap (λ (x : ℕ). Some (record { at = x; name = s.0 })) a ∙ ap (λ (x : List ℕ × Entries). Some (record { at = at; name = x.0 })) b
placed_at (o ∷ offsets) (s ∷ subkeys) (suc i) at k e f = placed_at offsets subkeys i at k e f

pub placed_places : (offsets : List ℕ) (subkeys : List (List ℕ × Entries)) → length offsets ≤ length subkeys → cell_offsets (placed offsets subkeys) ≡ offsets
placed_places [] subkeys h = refl
placed_places (o ∷ offsets) [] h = absurd (omega (arith, h))
placed_places (o ∷ offsets) (s ∷ subkeys) h = ap (λ xs. o ∷ xs) (placed_places offsets subkeys (omega (arith, h)))

pub placed_long : (offsets : List ℕ) (subkeys : List (List ℕ × Entries)) → length offsets ≤ length subkeys → length (placed offsets subkeys) ≡ length offsets
placed_long offsets subkeys h = sym (length-map (placed offsets subkeys) (λ (k : Subkey). k.at)) ∙ ap length (placed_places offsets subkeys h)

pub placed_split : (xs ys : List ℕ) (subkeys : List (List ℕ × Entries)) → length xs ≤ length subkeys → placed (xs ++ ys) subkeys ≡ placed xs subkeys ++ placed ys (drop (length xs) subkeys)
placed_split [] ys subkeys h = refl
placed_split (x ∷ xs) ys [] h = absurd (omega (arith, h))
placed_split (x ∷ xs) ys (s ∷ subkeys) h = ap (λ ks. record { at = x; name = s.0 } ∷ ks) (placed_split xs ys subkeys (omega (arith, h)))

-- leaves in turn
pub no_leaves : (bytes : List ℕ) (plain : Bool) → Makes bytes bytes (ListedLeaves plain [] [])
no_leaves bytes plain = made_none bytes (ListedLeaves plain [] []) (λ x. record { leaves = []; listed = lists_none (IsLeaf plain) leaf_own x; at = refl; its = refl; near = tt })

leaf_grown : (plain : Bool) (y z : Cells) → Grows y z → (l : SubkeyLeaf) → IsLeaf plain y l → IsLeaf plain z l
leaf_grown plain y z g l is = record { some = is.some; most = is.most; held = holds_grown y z l.at (leaf_bytes plain l.subkey_list) g is.held }

leaves_on : (plain : Bool) (offsets : List ℕ) (subkey_list more : List Subkey) (at : ℕ) (x y z : Cells) → 0 < length more → length more ≤ 500 → Grows x y → Grows y z → ListedLeaves plain offsets subkey_list x y → Puts at (leaf_bytes plain more) y z → ListedLeaves plain (offsets ++ at ∷ []) (subkey_list ++ more) x z
leaves_on plain offsets subkey_list more at x y z some few g h l p = record {
  leaves = l.leaves ++ record { at = at; subkey_list = more } ∷ [];
  listed = lists_more (IsLeaf plain) leaf_own l.leaves (record { at = at; subkey_list = more }) x y z (λ a is. leaf_grown plain y z h a is) g h l.listed (record { some = some; most = few; held = p.holds }) p.adds;
  at = map-append (λ (l : SubkeyLeaf). l.at) l.leaves (record { at = at; subkey_list = more } ∷ []) ∙ ap (λ ps. ps ++ at ∷ []) l.at;
  its = subkeys_push l.leaves (record { at = at; subkey_list = more }) ∙ ap (λ ks. ks ++ more) l.its;
  near = all_push (λ at. at < 2 ^ 32) offsets at l.near (let near : at < nil_offset = p.near in omega arith);
}
  where
    subkeys_push : (leaves : List SubkeyLeaf) (leaf : SubkeyLeaf) → flat_map (λ (l : SubkeyLeaf). l.subkey_list) (leaves ++ leaf ∷ []) ≡ flat_map (λ (l : SubkeyLeaf). l.subkey_list) leaves ++ leaf.subkey_list
    subkeys_push leaves leaf = flat_map-append (λ (l : SubkeyLeaf). l.subkey_list) leaves (leaf ∷ []) ∙ ap (λ xs. flat_map (λ (l : SubkeyLeaf). l.subkey_list) leaves ++ xs) (append-nil leaf.subkey_list)

pub one_leaf_more : (a b c : List ℕ) (plain : Bool) (offsets : List ℕ) (subkey_list more : List Subkey) (at : ℕ) → 0 < length more → length more ≤ 500 → Makes a b (ListedLeaves plain offsets subkey_list) → Makes b c (Puts at (leaf_bytes plain more)) → Makes a c (ListedLeaves plain (offsets ++ at ∷ []) (subkey_list ++ more))
one_leaf_more a b c plain offsets subkey_list more at some few m n = made_then a b c (ListedLeaves plain offsets subkey_list) (Puts at (leaf_bytes plain more)) (ListedLeaves plain (offsets ++ at ∷ []) (subkey_list ++ more)) m n (λ x y z g h l p. leaves_on plain offsets subkey_list more at x y z some few g h l p)

-- the list of a key
pub no_subkeys_made : (a : List ℕ) (plain : Bool) → Makes a a (SubkeysAt nil_offset plain [])
no_subkeys_made a plain = made_none a (SubkeysAt nil_offset plain []) (λ x. record { own = []; near = omega arith; adds = adds_none x x; is = inl (record { none = refl; without = refl; its_own = refl }) })

pub one_leaf_made : (a b : List ℕ) (plain : Bool) (subkey_list : List Subkey) (list : ℕ) → 0 < length subkey_list → length subkey_list ≤ 500 → Makes a b (Puts list (leaf_bytes plain subkey_list)) → Makes a b (SubkeysAt list plain subkey_list)
one_leaf_made a b plain subkey_list list some few m = made_as a b (Puts list (leaf_bytes plain subkey_list)) (SubkeysAt list plain subkey_list) m (λ x y g p. record {
  own = list ∷ [];
  near = let near : list < nil_offset = p.near in omega arith;
  adds = p.adds;
  is = inr (inl (record { is = record { some = some; most = few; held = p.holds }; its_own = refl }));
})

many_at : (plain : Bool) (offsets : List ℕ) (subkey_list : List Subkey) (list : ℕ) (x y z : Cells) → 500 < length subkey_list → length offsets < 2 ^ 16 → Grows x y → Grows y z → ListedLeaves plain offsets subkey_list x y → Puts list (indirect offsets) y z → SubkeysAt list plain subkey_list x z
many_at plain offsets subkey_list list x y z many count g h l p = record {
  own = list ∷ offsets;
  near = let near : list < nil_offset = p.near in omega arith;
  adds = adds_ahead x y z offsets (list ∷ []) g h (subst (Adds x y) (flat_map_single (λ (l : SubkeyLeaf). l.at) l.leaves ∙ l.at) l.listed.adds) p.adds;
  is = inr (inr (record {
    many = many;
    leaves = l.leaves;
    its = l.its;
    each = all_as (IsLeaf plain y) (IsLeaf plain z) l.leaves (λ a is. leaf_grown plain y z h a is) l.listed.all;
    held = subst (λ os. CellHolds z list (indirect os)) (sym l.at) p.holds;
    its_own = ap (λ os. list ∷ os) (sym l.at);
    count = omega (arith, count, length-map l.leaves (λ (l : SubkeyLeaf). l.at), ap length l.at);
    near = subst AreOffsets (sym l.at) l.near;
  }));
}

pub leaves_made : (a b c : List ℕ) (plain : Bool) (offsets : List ℕ) (subkey_list : List Subkey) (list : ℕ) → 500 < length subkey_list → length offsets < 2 ^ 16 → Makes a b (ListedLeaves plain offsets subkey_list) → Makes b c (Puts list (indirect offsets)) → Makes a c (SubkeysAt list plain subkey_list)
leaves_made a b c plain offsets subkey_list list many count m n = made_then a b c (ListedLeaves plain offsets subkey_list) (Puts list (indirect offsets)) (SubkeysAt list plain subkey_list) m n (λ x y z g h l p. many_at plain offsets subkey_list list x y z many count g h l p)

-- a list of subkeys reads back
leaf_read : (plain : Bool) (cells : Cells) (l : SubkeyLeaf) → AreOffsets (cell_offsets l.subkey_list) → IsLeaf plain cells l → Gives (leaf_at l.at) cells (l.at ∷ []) [] (cell_offsets l.subkey_list)
leaf_read true cells l near is = let most : length l.subkey_list ≤ 500 = is.most in plain_again cells l.at (cell_offsets l.subkey_list) (omega (arith, most, length-map l.subkey_list (λ (k : Subkey). k.at))) near is.held
leaf_read false cells l near is = let most : length l.subkey_list ≤ 500 = is.most in hashed_again cells l.at l.subkey_list (omega (arith, most)) near is.held

one_read : (plain : Bool) (cells : Cells) (list : ℕ) (subkey_list : List Subkey) → AreOffsets (cell_offsets subkey_list) → IsLeaf plain cells (record { at = list; subkey_list = subkey_list }) → Gives (subkeys_at (length subkey_list) list) cells (list ∷ []) [] (cell_offsets subkey_list)
one_read true cells list subkey_list near is =
    let most : length subkey_list ≤ 500 = is.most in
    let some : 0 < length subkey_list = is.some in
    let same : length (cell_offsets subkey_list) ≡ length subkey_list = length-map subkey_list (λ (k : Subkey). k.at) in
    subst (λ (n : ℕ). Gives (subkeys_at n list) cells (list ∷ []) [] (cell_offsets subkey_list)) same (one_plain cells list (cell_offsets subkey_list) (omega (arith, same, some)) (omega (arith, same, most)) near is.held)
one_read false cells list subkey_list near is = let most : length subkey_list ≤ 500 = is.most in one_hashed cells list subkey_list is.some (omega (arith, most)) near is.held

all_front : (xs ys : List ℕ) → AreOffsets (xs ++ ys) → AreOffsets xs
all_front [] ys h = tt
all_front (x ∷ xs) ys h = (h.0, all_front xs ys h.1)

all_back : (xs ys : List ℕ) → AreOffsets (xs ++ ys) → AreOffsets ys
all_back [] ys h = h
all_back (x ∷ xs) ys h = all_back xs ys h.1

joined : (leaves : List SubkeyLeaf) → cell_offsets (flat_map (λ (l : SubkeyLeaf). l.subkey_list) leaves) ≡ flat_map (λ (l : Leaf). l.subkey_list) (map (λ (l : SubkeyLeaf). record { at = l.at; subkey_list = cell_offsets l.subkey_list }) leaves)
joined [] = refl
joined (l ∷ leaves) = ap cell_offsets (flat_map-cons (λ (l : SubkeyLeaf). l.subkey_list) l leaves) ∙ map-append (λ (k : Subkey). k.at) l.subkey_list (flat_map (λ (l : SubkeyLeaf). l.subkey_list) leaves) ∙ ap (λ xs. cell_offsets l.subkey_list ++ xs) (joined leaves) ∙ sym (flat_map-cons (λ (l : Leaf). l.subkey_list) (record { at = l.at; subkey_list = cell_offsets l.subkey_list }) (map (λ (l : SubkeyLeaf). record { at = l.at; subkey_list = cell_offsets l.subkey_list }) leaves))

leaves_read : (plain : Bool) (cells : Cells) (leaves : List SubkeyLeaf) → AreOffsets (cell_offsets (flat_map (λ (l : SubkeyLeaf). l.subkey_list) leaves)) → AllByRecursion (IsLeaf plain cells) leaves → AllByRecursion (λ (l : Leaf). Gives (leaf_at l.at) cells (l.at ∷ []) [] l.subkey_list) (map (λ (l : SubkeyLeaf). record { at = l.at; subkey_list = cell_offsets l.subkey_list }) leaves)
leaves_read plain cells [] near all = tt
leaves_read plain cells (l ∷ leaves) near all =
    let both : AreOffsets (cell_offsets l.subkey_list ++ cell_offsets (flat_map (λ (l : SubkeyLeaf). l.subkey_list) leaves)) = subst AreOffsets (ap cell_offsets (flat_map-cons (λ (l : SubkeyLeaf). l.subkey_list) l leaves) ∙ map-append (λ (k : Subkey). k.at) l.subkey_list (flat_map (λ (l : SubkeyLeaf). l.subkey_list) leaves)) near in
    (leaf_read plain cells l (all_front (cell_offsets l.subkey_list) (cell_offsets (flat_map (λ (l : SubkeyLeaf). l.subkey_list) leaves)) both) all.0, leaves_read plain cells leaves (all_back (cell_offsets l.subkey_list) (cell_offsets (flat_map (λ (l : SubkeyLeaf). l.subkey_list) leaves)) both) all.1)

leaves_at_are : (leaves : List SubkeyLeaf) → map (λ (l : Leaf). l.at) (map (λ (l : SubkeyLeaf). record { at = l.at; subkey_list = cell_offsets l.subkey_list }) leaves) ≡ leaf_offsets leaves
leaves_at_are [] = refl
leaves_at_are (l ∷ leaves) = ap (λ xs. l.at ∷ xs) (leaves_at_are leaves)

pub subkeys_read : (cells : Cells) (list : ℕ) (plain : Bool) (subkey_list : List Subkey) (own : List ℕ) → AreOffsets (cell_offsets subkey_list) → IsListed list plain subkey_list own cells → Gives (subkeys_at (length subkey_list) list) cells own [] (cell_offsets subkey_list)
subkeys_read cells list plain subkey_list own near (inl h) =
    subst (λ (o : List ℕ). Gives (subkeys_at (length subkey_list) list) cells o [] (cell_offsets subkey_list)) (sym h.its_own) (subst (λ (ks : List Subkey). Gives (subkeys_at (length ks) list) cells [] [] (cell_offsets ks)) (sym h.none) (no_subkeys cells list))
subkeys_read cells list plain subkey_list own near (inr (inl h)) =
    subst (λ (o : List ℕ). Gives (subkeys_at (length subkey_list) list) cells o [] (cell_offsets subkey_list)) (sym h.its_own) (one_read plain cells list subkey_list near h.is)
subkeys_read cells list plain subkey_list own near (inr (inr h)) =
    let leaves : List Leaf = map (λ (l : SubkeyLeaf). record { at = l.at; subkey_list = cell_offsets l.subkey_list }) h.leaves in
    let all : flat_map (λ (l : Leaf). l.subkey_list) leaves ≡ cell_offsets subkey_list = sym (joined h.leaves) ∙ ap cell_offsets h.its in
    let many : 500 < length subkey_list = h.many in
    let long : length (flat_map (λ (l : Leaf). l.subkey_list) leaves) ≡ length subkey_list = ap length all ∙ length-map subkey_list (λ (k : Subkey). k.at) in
    let at : map (λ (l : Leaf). l.at) leaves ≡ leaf_offsets h.leaves = leaves_at_are h.leaves in
    let read : Gives (subkeys_at (length (flat_map (λ (l : Leaf). l.subkey_list) leaves)) list) cells (list ∷ map (λ (l : Leaf). l.at) leaves) [] (flat_map (λ (l : Leaf). l.subkey_list) leaves) =
    indirect_back cells list leaves (omega (arith, long, many)) (let count : length h.leaves < 2 ^ 16 = h.count in omega (arith, count, length-map {B = Leaf} h.leaves (λ (l : SubkeyLeaf). record { at = l.at; subkey_list = cell_offsets l.subkey_list }))) (subst AreOffsets (sym at) h.near)
    (leaves_read plain cells h.leaves (subst AreOffsets (ap cell_offsets (sym h.its)) near) h.each) (subst (λ os. CellHolds cells list (indirect os)) (sym at) h.held) in
    subst (λ (o : List ℕ). Gives (subkeys_at (length subkey_list) list) cells o [] (cell_offsets subkey_list)) (ap (λ os. list ∷ os) at ∙ sym h.its_own)
    (subst (λ (ks : List ℕ). Gives (subkeys_at (length subkey_list) list) cells (list ∷ map (λ (l : Leaf). l.at) leaves) [] ks) all
    (subst (λ (n : ℕ). Gives (subkeys_at n list) cells (list ∷ map (λ (l : Leaf). l.at) leaves) [] (flat_map (λ (l : Leaf). l.subkey_list) leaves)) long read))

-- the subkey at an index
get_drop : {A : Type 0} (ks : List A) (from i : ℕ) → slice_get (drop from ks) i ≡ slice_get ks (from + i)
get_drop ks zero i = ap (slice_get ks) (let e : i ≡ 0 + i = omega arith in e)
get_drop [] (suc f) i = refl
get_drop (k ∷ ks) (suc f) i = get_drop ks f i ∙ ap (slice_get (k ∷ ks)) (let e : suc (f + i) ≡ suc f + i = omega arith in e)

found_at : (ks : List (List ℕ × Entries)) (i : ℕ) (es : Entries) → AllByRecursion (λ (k : List ℕ × Entries). root_name k.1 ≡ k.0) ks → Some es ≡ slice_get (map (λ k. k.1) ks) i → (k : List ℕ × Entries) × (slice_get ks i ≡ Some k) × (root_name es ≡ k.0)
found_at [] i es named e = absurd (let no : ⊥ = cc in no)
found_at (k ∷ ks) zero es named e = (k, refl, (let same : es ≡ k.1 = cc in ap root_name same ∙ named.0))
found_at (k ∷ ks) (suc i) es named e = found_at ks i es named.1 e

pub hash_more : (bytes head : List ℕ) (offsets : List ℕ) (subkeys : List (List ℕ × Entries)) (from i at : ℕ) (es : Entries) (name : List ℕ) → i < length offsets → at ≡ get_or offsets i 0 → AllByRecursion (λ (k : List ℕ × Entries). root_name k.1 ≡ k.0) subkeys → Some es ≡ slice_get (map (λ k. k.1) subkeys) (from + i) → root_name es ≡ name
    → bytes ≡ head ++ flat_map hashed (take i (placed offsets (drop from subkeys))) → bytes ++ hashed (record { at = at; name = name }) ≡ head ++ flat_map hashed (take (i + 1) (placed offsets (drop from subkeys)))
hash_more bytes head offsets subkeys from i at es name inside at_is named e name_is so_far =
    let f = found_at subkeys (from + i) es named e in
    let here : slice_get (placed offsets (drop from subkeys)) i ≡ Some (record { at = at; name = f.0.0 }) = placed_at offsets (drop from subkeys) i at f.0 (slice_get-get_or offsets i 0 inside ∙ ap Some (sym at_is)) (get_drop subkeys from i ∙ f.1) in
    let subkey : Subkey = record { at = at; name = f.0.0 } in
    ap (λ bs. bs ++ hashed (record { at = at; name = name })) so_far ∙ append_assoc head (flat_map hashed (take i (placed offsets (drop from subkeys)))) (hashed (record { at = at; name = name }))
    ∙ ap (λ n. head ++ (flat_map hashed (take i (placed offsets (drop from subkeys))) ++ hashed (record { at = at; name = n }))) (sym name_is ∙ f.2)
    ∙ ap (λ xs. head ++ xs) (sym (flat_map-append hashed (take i (placed offsets (drop from subkeys))) (subkey ∷ []) ∙ ap (λ xs. flat_map hashed (take i (placed offsets (drop from subkeys))) ++ xs) (append-nil (hashed subkey))))
    ∙ ap (λ ks. head ++ flat_map hashed ks) (sym (take_next (placed offsets (drop from subkeys)) i subkey here))

-- a chunk of the subkeys' cells
pub chunk_is : (offsets : List ℕ) (i from to : ℕ) → from ≡ 500 * i → to ≡ min (length offsets) (from + 500) → take (500 * i) offsets ++ take (to - from) (drop from offsets) ≡ take (500 * (i + 1)) offsets
chunk_is offsets i from to from_is to_is =
    let sum : 500 * (i + 1) ≡ 500 * i + 500 = omega arith in
    ap (λ xs. take (500 * i) offsets ++ xs) (same (cases_lt (length offsets) (from + 500))) ∙ ap (λ n. take (500 * i) offsets ++ take 500 (drop n offsets)) from_is ∙ sym (ap (λ n. take n offsets) sum ∙ take-add (500 * i) 500 offsets)
  where
    same : ((length offsets < from + 500) ⊎ (from + 500 ≤ length offsets)) → take (to - from) (drop from offsets) ≡ take 500 (drop from offsets)
    same (inl short) = take_all (to - from) (drop from offsets) (omega (arith, length-drop from offsets)) ∙ sym (take_all 500 (drop from offsets) (omega (arith, length-drop from offsets)))
    same (inr long) = ap (λ n. take n (drop from offsets)) (let e : to - from ≡ 500 = omega arith in e)

pub placed_more : (offsets : List ℕ) (subkeys : List (List ℕ × Entries)) (i from to : ℕ) → length offsets ≤ length subkeys → from < length offsets → from ≡ 500 * i → to ≡ min (length offsets) (from + 500) → placed (take (500 * i) offsets) subkeys ++ placed (take (to - from) (drop from offsets)) (drop from subkeys) ≡ placed (take (500 * (i + 1)) offsets) subkeys
placed_more offsets subkeys i from to within inside from_is to_is =
    let front : length (take (500 * i) offsets) ≡ from = omega (arith, length-take (500 * i) offsets) in
    ap (λ n. placed (take (500 * i) offsets) subkeys ++ placed (take (to - from) (drop from offsets)) (drop n subkeys)) (sym front)
    ∙ sym (placed_split (take (500 * i) offsets) (take (to - from) (drop from offsets)) subkeys (omega (arith, front)))
    ∙ ap (λ os. placed os subkeys) (chunk_is offsets i from to from_is to_is)

pub chunk_long : (offsets : List ℕ) (subkeys : List (List ℕ × Entries)) (from to : ℕ) → length offsets ≤ length subkeys → from < length offsets → to ≡ min (length offsets) (from + 500) → length (placed (take (to - from) (drop from offsets)) (drop from subkeys)) ≡ to - from
chunk_long offsets subkeys from to within inside to_is =
    let long : length (take (to - from) (drop from offsets)) ≡ to - from = omega (arith, length-take (to - from) (drop from offsets), length-drop from offsets) in
    placed_long (take (to - from) (drop from offsets)) (drop from subkeys) (omega (arith, long, length-drop from subkeys)) ∙ long

pub nothing_placed : (offsets : List ℕ) (subkeys : List (List ℕ × Entries)) → length offsets ≡ 0 → placed offsets subkeys ≡ []
nothing_placed [] subkeys e = refl
nothing_placed (o ∷ offsets) subkeys e = absurd (omega (arith, e))

pub is_zero : (n : ℕ) → true ≡ eqb n 0 → n ≡ 0
is_zero n e = eqb-true n 0 (sym e)

pub not_zero : (n : ℕ) → false ≡ eqb n 0 → 0 < n
not_zero zero e = absurd (let no : ⊥ = cc in no)
not_zero (suc n) e = omega arith
