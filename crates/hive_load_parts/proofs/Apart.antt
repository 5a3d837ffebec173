-- Names that all differ, and the map of values with these names.
use Rattle.std.proofs.Common.{◌≡◌, ◌<◌, inl, inr, ℕ, suc, List, [], ◌∷◌, ◌++◌, length, map, take, drop, get_or, refl, ◌∙◌, ap, sym, Bool, true, false, not, ◌&&◌, ◌||◌, Option, Some, None, is_some}
use Rattle.std.specs.List.{list_any}
use Rattle.std.specs.FinMap as finite
use Rattle.std.specs.FinMap.Entries.{is_some-find}
use Rattle.reg_names.specs.Names.{folded}
use Rattle.reg_tree_parts.specs.declared.value.Value.{Value}
use Rattle.reg_tree_parts.specs.Orders.{name_order}
use Rattle.reg_tree_parts.specs.Rows.{ValueMap}
use Rattle.reg_tree_parts.specs.ValueEdits.{values_with, spelled_name}
use Rattle.reg_tree_parts.proofs.Keys.{names_total, names_apart}
use Rattle.hive_tree_model.specs.Trees.{same}
use Rattle.hive_tree_model.proofs.Basics.{never, clash, decided, same_is, same_of, same_not}
use Rattle.hive_records.specs.Names.{all_apart}
use Rattle.hive_records.specs.Values.{map_of}
use Rattle.hive_records.proofs.StepsAgain.{both, second_not}
use Rattle.hive_load_parts.specs.CellReads.{names_in}
use Rattle.hive_load_parts.proofs.Loops.{split_here}

swapped : (n m : List ℕ) → same n m ≡ same m n
swapped n m = elim (decided (same n m)) [
  | inl t ↦ t ∙ sym (same_of m n (sym (same_is n m t)))
  | inr f ↦ f ∙ sym (same_not m n (λ e. clash (same n m) (same_of n m (sym e)) f))
]

none_of : (a b : Bool) → (a || b) ≡ false → (a ≡ false) × (b ≡ false)
none_of true b e = never (sym e)
none_of false b e = (refl, e)

all_of : (a b : Bool) → (not a && b) ≡ true → (a ≡ false) × (b ≡ true)
all_of true b e = never e
all_of false b e = (refl, e)

none_more : (p : List ℕ → Bool) (ns : List (List ℕ)) (n : List ℕ) → list_any p ns ≡ false → p n ≡ false → list_any p (ns ++ n ∷ []) ≡ false
none_more p [] n e f = ap (λ b. b || false) f
none_more p (m ∷ ns) n e f = let h = none_of (p m) (list_any p ns) e in ap (λ b. b || list_any p (ns ++ n ∷ [])) h.0 ∙ none_more p ns n h.1 f

or_true : (b : Bool) → (b || true) ≡ true
or_true true = refl
or_true false = refl

found_in : (p : List ℕ → Bool) (ns : List (List ℕ)) (n : List ℕ) (rest : List (List ℕ)) → p n ≡ true → list_any p (ns ++ n ∷ rest) ≡ true
found_in p [] n rest e = ap (λ b. b || list_any p rest) e
found_in p (m ∷ ns) n rest e = ap (λ b. p m || b) (found_in p ns n rest e) ∙ or_true (p m)

pub one_more : (ns : List (List ℕ)) (n : List ℕ) → all_apart ns ≡ true → list_any (same n) ns ≡ false → all_apart (ns ++ n ∷ []) ≡ true
one_more [] n a e = refl
one_more (m ∷ ns) n a e =
    let h = all_of (list_any (same m) ns) (all_apart ns) a in
    let g = none_of (same n m) (list_any (same n) ns) e in
    both (not (list_any (same m) (ns ++ n ∷ []))) (all_apart (ns ++ n ∷ [])) (ap not (none_more (same m) ns n h.0 (swapped m n ∙ g.0))) (one_more ns n h.1 g.1)

pub met_twice : (ns : List (List ℕ)) (n : List ℕ) (rest : List (List ℕ)) → list_any (same n) ns ≡ true → all_apart (ns ++ n ∷ rest) ≡ false
met_twice [] n rest e = never e
met_twice (m ∷ ns) n rest e = elim (decided (same n m)) [
  | inl t ↦ ap (λ b. not b && all_apart (ns ++ n ∷ rest)) (found_in (same m) ns n rest (swapped m n ∙ t))
  | inr f ↦ second_not (not (list_any (same m) (ns ++ n ∷ rest))) (all_apart (ns ++ n ∷ rest)) (met_twice ns n rest (ap (λ b. b || list_any (same n) ns) (sym f) ∙ e))
]

entry : Value → List ℕ × Value
entry v = (folded v.name, v)

keys_are : (vs : List Value) → map (λ (e : List ℕ × Value). e.0) (map (λ (v : Value). (folded v.name, v)) vs) ≡ names_in vs
keys_are [] = refl
keys_are (v ∷ vs) = ap (λ z. folded v.name ∷ z) (keys_are vs)

-- a name is in the map exactly if it is among those of the values
pub is_there : (vs : List Value) (n : List ℕ) → is_some (finite.get (map_of vs) n) ≡ list_any (same n) (names_in vs)
is_there vs n = ap is_some (finite.get-from_entries names_total (map (λ (v : Value). (folded v.name, v)) vs) n) ∙ is_some-find name_order n (map (λ (v : Value). (folded v.name, v)) vs) ∙ ap (list_any (same n)) (keys_are vs)

pub none_if : {A : Type 0} (o : Option A) → is_some o ≡ false → o ≡ None
none_if None e = refl
none_if (Some x) e = never (sym e)

map_more : {A B : Type 0} (f : A → B) (xs : List A) (x : A) → map f (xs ++ x ∷ []) ≡ map f xs ++ f x ∷ []
map_more f [] x = refl
map_more f (y ∷ xs) x = ap (λ z. f y ∷ z) (map_more f xs x)

map_split : {A B : Type 0} (f : A → B) (xs : List A) (x : A) (rest : List A) → map f (xs ++ x ∷ rest) ≡ map f xs ++ f x ∷ map f rest
map_split f [] x rest = refl
map_split f (y ∷ xs) x rest = ap (λ z. f y ∷ z) (map_split f xs x rest)

-- a value of a new name comes into the map
pub with_more : (vs : List Value) (v : Value) (values : ValueMap) → values ≡ map_of vs → finite.get values (folded v.name) ≡ None → values_with values v.name v.kind v.«data» ≡ map_of (vs ++ v ∷ [])
with_more vs v values e none =
    ap (λ (o : Option Value). finite.insert values (folded v.name) (record { name = spelled_name o v.name; kind = v.kind; «data» = v.«data» })) none
    ∙ ap (λ (m : ValueMap). finite.insert m (folded v.name) v) e
    ∙ sym (ap finite.from_entries (map_more (λ (w : Value). (folded w.name, w)) vs v)
    ∙ finite.from_entries_push names_total names_apart (map (λ (w : Value). (folded w.name, w)) vs) (folded v.name) v
    (sym (finite.get-from_entries names_total (map (λ (w : Value). (folded w.name, w)) vs) (folded v.name)) ∙ ap (λ (m : ValueMap). finite.get m (folded v.name)) (sym e) ∙ none))

pub apart_more : (vs : List Value) (v : Value) (values : ValueMap) → values ≡ map_of vs → all_apart (names_in vs) ≡ true → finite.get values (folded v.name) ≡ None → all_apart (names_in (vs ++ v ∷ [])) ≡ true
apart_more vs v values e a none = ap all_apart (map_more (λ (w : Value). folded w.name) vs v)
    ∙ one_more (names_in vs) (folded v.name) a (sym (is_there vs (folded v.name)) ∙ ap (λ (m : ValueMap). is_some (finite.get m (folded v.name))) (sym e) ∙ ap is_some none)

pub alike : (vs : List Value) (i : ℕ) (v : Value) (values : ValueMap) → i < length vs → get_or vs i v ≡ v → values ≡ map_of (take i vs) → is_some (finite.get values (folded v.name)) ≡ true → all_apart (names_in vs) ≡ false
alike vs i v values h g e t = ap (λ (ws : List Value). all_apart (names_in ws)) (split_here vs i v h ∙ ap (λ (w : Value). take i vs ++ w ∷ drop (suc i) vs) g)
    ∙ ap all_apart (map_split (λ (w : Value). folded w.name) (take i vs) v (drop (suc i) vs))
    ∙ met_twice (names_in (take i vs)) (folded v.name) (names_in (drop (suc i) vs)) (sym (is_there (take i vs) (folded v.name)) ∙ ap (λ (m : ValueMap). is_some (finite.get m (folded v.name))) (sym e) ∙ t)
