-- The values of a tree's root, as the code finds them.
use Rattle.std.proofs.Common.{◌≡◌, ℕ, zero, suc, ◌+◌, ◌<◌, ◌&&◌, Bool, true, false, List, [], ◌∷◌, ◌++◌, map, take, length, slice_get, arith, Some, None, option_map, if◌then◌else◌, refl, sym, ◌∙◌, ap}
use Rattle.std.specs.FinMap as finite
use Rattle.std.specs.List.{list_all}
use Rattle.std.specs.FinMap.{len-entries}
use Rattle.std.proofs.lemmas.Bool.{eq-eqb, and_from, and_parts, and_right}
use Rattle.std.proofs.lemmas.List.{length-map}
use Rattle.byteorder.specs.Endian.{little_number}
use Rattle.reg_names.specs.Names.{folded}
use Rattle.reg_tree_parts.specs.declared.value.Value.{Value}
use Rattle.reg_tree_parts.specs.Rows.{Row, ValueMap}
use Rattle.reg_tree_parts.specs.Nodes.{Entries, IsNode, row_at}
use Rattle.reg_tree.specs.Maps.{TreeMap, row}
use Rattle.reg_tree.proofs.Rows.{row_is}
use Rattle.commit_outcomes.specs.Units.{unit_name}
use Rattle.commit_outcomes.specs.Commits.{Commit}
use Rattle.commit_outcomes.specs.Trees.{HasCommits, values_if, root_values, commit_of, number_in}
use Rattle.commit_outcomes.specs.CommitLists.{number_of_data}
use Rattle.commit_outcomes.proofs.Numbers.{eight}
use Rattle.commit_outcomes.proofs.Written.{value_found}

pub root_values_are : (tree : TreeMap) (entries : Entries) (key : Row) → IsNode entries → tree ≡ finite.from_sorted entries → row_at entries [] ≡ Some key → root_values tree ≡ key.values
root_values_are tree entries key node same here = ap values_if (ap (λ t. row t []) same ∙ row_is entries node [] ∙ here)

-- the number in a value of a commit
pub number_there : (tree : TreeMap) (commits : List Commit) (id : List ℕ) (values : ValueMap) (value : Value) → HasCommits commits tree → root_values tree ≡ values → finite.get values (folded (unit_name id)) ≡ Some value
    → number_of_data value.«data» ≡ number_in tree id
number_there tree commits id values value has are found =
    let at : finite.get (root_values tree) (folded (unit_name id)) ≡ Some value = ap (λ vs. finite.get vs (folded (unit_name id))) are ∙ found in
    let d = value_found commits (folded (unit_name id)) value (ap (λ vs. finite.get vs (folded (unit_name id))) (sym has.values) ∙ at) in
    let long : length value.«data» ≡ 8 = ap (λ (v : Value). length v.«data») (sym d.3) ∙ eight d.0.0 in
    ap (λ b. if b then Some (little_number 8 value.«data») else None) (eq-eqb (length value.«data») 8 long) ∙ sym (ap (option_map (λ v. (commit_of v).0)) at)

pub none_there : (tree : TreeMap) (id : List ℕ) (values : ValueMap) → root_values tree ≡ values → finite.get values (folded (unit_name id)) ≡ None → None ≡ number_in tree id
none_there tree id values are none = sym (ap (option_map (λ v. (commit_of v).0)) (ap (λ vs. finite.get vs (folded (unit_name id))) are ∙ none))

-- Values one after another

pub take_one : {X : Type 0} (xs : List X) (i : ℕ) (x : X) → slice_get xs i ≡ Some x → take (i + 1) xs ≡ take i xs ++ x ∷ []
take_one [] i x e = absurd (let never : ⊥ = cc in never)
take_one (y ∷ xs) zero x e = let same : y ≡ x = cc in ap (λ z. z ∷ []) same
take_one (y ∷ xs) (suc i) x e = let next : suc i + 1 ≡ suc (i + 1) = omega arith in ap (λ k. take k (y ∷ xs)) next ∙ ap (λ l. y ∷ l) (take_one xs i x e)

pub there_is : {X : Type 0} (xs : List X) (i : ℕ) → i < length xs → slice_get xs i ≡ None → ⊥
there_is [] i lt e = omega (arith, lt)
there_is (x ∷ xs) zero lt e = let never : ⊥ = cc in never
there_is (x ∷ xs) (suc i) lt e = there_is xs i (omega (arith, lt)) e

pub map_more : {X Y : Type 0} (f : X → Y) (xs : List X) (x : X) → map f (xs ++ x ∷ []) ≡ map f xs ++ f x ∷ []
map_more f [] x = refl
map_more f (y ∷ xs) x = ap (λ l. f y ∷ l) (map_more f xs x)

pub all_more : {X : Type 0} (p : X → Bool) (xs : List X) (x : X) → list_all p xs ≡ true → p x ≡ true → list_all p (xs ++ x ∷ []) ≡ true
all_more p [] x all is = and_from (p x) true is refl
all_more p (y ∷ xs) x all is = let parts = and_parts (p y) (list_all p xs) all in and_from (p y) (list_all p (xs ++ x ∷ [])) parts.0 (all_more p xs x parts.1 is)

pub one_fails : {X : Type 0} (p : X → Bool) (xs : List X) (i : ℕ) (x : X) → slice_get xs i ≡ Some x → p x ≡ false → list_all p xs ≡ false
one_fails p [] i x e is = absurd (let never : ⊥ = cc in never)
one_fails p (y ∷ xs) zero x e is = let same : y ≡ x = cc in ap (λ b. b && list_all p xs) (ap p same ∙ is)
one_fails p (y ∷ xs) (suc i) x e is = and_right (p y) (list_all p xs) (one_fails p xs i x e is)

pub values_long : (values : ValueMap) → length (finite.values values) ≡ finite.len values
values_long values = length-map (finite.entries values) (λ e. e.1) ∙ sym (len-entries values)
