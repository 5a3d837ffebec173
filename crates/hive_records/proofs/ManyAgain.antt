-- Lists of values, and lists of lists, that are written read back.
use Rattle.std.proofs.Common.{◌≡◌, ◌<◌, ◌*◌, ◌^◌, ℕ, suc, Bool, true, List, [], ◌∷◌, ◌++◌, length, map, flat_map, refl, ◌∙◌, ap, sym, subst, arith, eqb, leb, ne_eqb, le-leb, length-append, append-nil}
use Rattle.std.specs.List.{AllByRecursion}
use Rattle.reg_names.specs.Names.{folded}
use Rattle.reg_tree_parts.specs.declared.value.Value.{Value}
use Rattle.hive_records.specs.Readers.{Reader, each}
use Rattle.hive_cells.specs.Bins.{Cells}
use Rattle.hive_records.specs.Numbers.{u16_at, words_from}
use Rattle.hive_records.specs.Names.{all_apart}
use Rattle.hive_records.specs.Values.{value_at, map_of, values_at}
use Rattle.hive_records.specs.Lists.{is_indirect, leaf_at, subkeys_at}
use Rattle.hive_records.specs.Fields.{Gives, CellHolds}
use Rattle.hive_records.specs.ListEncodings.{offsets_bytes, indirect, AreOffsets}
use Rattle.hive_records.specs.KeyEncodings.{ValueCells, Leaf}
use Rattle.hive_records.proofs.StepsAgain.{both, gives_on, gives_last, gives_done, gives_same, gives_rule, gives_yes, gives_no, gives_look}
use Rattle.hive_records.proofs.WordsAgain.{offsets_back, offsets_length}
use Rattle.hive_records.proofs.ListsAgain.{offsets_given, list_given}

pub map_length : {X Y : Type 0} (f : X → Y) (xs : List X) → length (map f xs) ≡ length xs
map_length f [] = refl
map_length f (x ∷ xs) = ap suc (map_length f xs)

pub each_given : {A B X : Type 0} (f : A → Reader B) (at : X → A) (own : X → List ℕ) (its : X → B) (cells : Cells) (xs : List X) → AllByRecursion (λ x. Gives (f (at x)) cells (own x) [] (its x)) xs → Gives (each f (map at xs)) cells (flat_map own xs) [] (map its xs)
unfolding each
each_given f at own its cells [] h = gives_done [] cells
each_given f at own its cells (x ∷ xs) h = gives_on _ h.0 (gives_last (λ ys. its x ∷ ys) (each_given f at own its cells xs h.1))

pub own_only : {A : Type 0} {m : Reader A} {cells : Cells} {own : List ℕ} {x : A} → Gives m cells (own ++ []) [] x → Gives m cells own [] x
own_only {A} {m} {cells} {own} {x} h = subst (λ (o : List ℕ). Gives m cells o [] x) (append-nil own) h

abbrev pub starts : List ValueCells → List ℕ
starts values = map (λ (v : ValueCells). v.at) values

abbrev pub all_of : List ValueCells → List Value
all_of values = map (λ (v : ValueCells). v.value) values

pub values_back : (split : Bool) (cells : Cells) (list : ℕ) (values : List ValueCells) → 0 < length values → AreOffsets (starts values) → all_apart (map (λ (v : Value). folded v.name) (all_of values)) ≡ true →
    AllByRecursion (λ v. Gives (value_at split v.at) cells v.own [] v.value) values → CellHolds cells list (offsets_bytes (starts values)) → Gives (values_at split (length values) list) cells (list ∷ flat_map (λ v. v.own) values) [] (map_of (all_of values))
values_back split cells list values some are apart given h =
    gives_no _ (eqb (length values) 0) (ne_eqb (length values) 0 (λ z. omega (arith, some, z)))
    (gives_on _ (gives_look list cells bytes h.1)
    (gives_on _ (gives_rule (leb (4 * length values) (length bytes)) _ cells (le-leb (4 * length values) (length bytes) (let l = length-append (offsets_bytes (starts values)) h.0 in let n = offsets_length (starts values) in let m = map_length (λ (v : ValueCells). v.at) values in omega (arith, l, n, m))))
    (own_only (gives_on _ (subst (λ (ns : List ℕ). Gives (each (value_at split) ns) cells (flat_map (λ v. v.own) values) [] (all_of values)) (sym words) (each_given (value_at split) (λ v. v.at) (λ v. v.own) (λ v. v.value) cells values given))
    (gives_on _ (gives_rule (all_apart (map (λ (v : Value). folded v.name) (all_of values))) _ cells apart)
    (gives_done (map_of (all_of values)) cells))))))
  where
    bytes : List ℕ
    bytes = offsets_bytes (starts values) ++ h.0

    words : words_from bytes 0 4 (length values) ≡ starts values
    words = ap (words_from bytes 0 4) (sym (map_length (λ (v : ValueCells). v.at) values)) ∙ offsets_back (starts values) h.0 are

abbrev pub leaves_at : List Leaf → List ℕ
leaves_at leaves = map (λ (l : Leaf). l.at) leaves

abbrev pub listed : List Leaf → List ℕ
listed leaves = flat_map (λ (l : Leaf). l.subkey_list) leaves

one_each : (leaves : List Leaf) → flat_map (λ (l : Leaf). l.at ∷ []) leaves ≡ leaves_at leaves
one_each [] = refl
one_each (l ∷ leaves) = ap (λ (z : List ℕ). l.at ∷ z) (one_each leaves)

joined : (leaves : List Leaf) → flat_map (λ (l : List ℕ). l) (map (λ (l : Leaf). l.subkey_list) leaves) ≡ listed leaves
joined [] = refl
joined (l ∷ leaves) = ap (λ (z : List ℕ). l.subkey_list ++ z) (joined leaves)

pub indirect_back : (cells : Cells) (list : ℕ) (leaves : List Leaf) → 0 < length (listed leaves) → length leaves < 2 ^ 16 → AreOffsets (leaves_at leaves) → AllByRecursion (λ l. Gives (leaf_at l.at) cells (l.at ∷ []) [] l.subkey_list) leaves →
    CellHolds cells list (indirect (leaves_at leaves)) → Gives (subkeys_at (length (listed leaves)) list) cells (list ∷ leaves_at leaves) [] (listed leaves)
unfolding u16_at
indirect_back cells list leaves some few are given h = list_given cells list (length (listed leaves)) (indirect (leaves_at leaves) ++ h.0) (leaves_at leaves) (listed leaves) refl some h.1
    (gives_yes _ (is_indirect (indirect (leaves_at leaves) ++ h.0)) (both (leb 4 (length (indirect (leaves_at leaves) ++ h.0))) true (le-leb 4 (length (indirect (leaves_at leaves) ++ h.0)) (omega arith)) refl)
    (gives_on _ (offsets_given 0x6972 (length (leaves_at leaves)) (offsets_bytes (leaves_at leaves)) h.0 4 cells (leaves_at leaves) (let m = map_length (λ (l : Leaf). l.at) leaves in omega (arith, few, m)) (offsets_length (leaves_at leaves)) (offsets_back (leaves_at leaves) h.0 are))
    (gives_same (joined leaves) (gives_last (λ lists. flat_map (λ (l : List ℕ). l) lists)
    (subst (λ (o : List ℕ). Gives (each leaf_at (leaves_at leaves)) cells o [] (map (λ (l : Leaf). l.subkey_list) leaves)) (one_each leaves) (each_given leaf_at (λ (l : Leaf). l.at) (λ (l : Leaf). l.at ∷ []) (λ (l : Leaf). l.subkey_list) cells leaves given))))))
