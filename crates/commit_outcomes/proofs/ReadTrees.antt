-- A tree that passes the test for one of outcomes has commits: those that its values tell of, in the order of their numbers.
use Rattle.std.proofs.Common.{◌≡◌, inl, inr, ℕ, ◌<◌, ◌≤◌, ◌==◌, ◌||◌, Bool, true, false, List, [], ◌∷◌, map, length, Contains, Option, Some, None, is_some, option_map, nat_lt, nat_le, refl, sym, ◌∙◌, ap, subst, arith}
use Rattle.std.specs.List.{AllByRecursion, list_all, list_any}
use Rattle.std.specs.FinMap as finite
use Rattle.std.specs.FinMap.{len-entries, contains_key-keys}
use Rattle.std.specs.Ordering.{eq_by_cmp}
use Rattle.std.proofs.lemmas.Bool.{and_parts, and_from, leb-true, le-leb, eqb-true, eq-eqb, false≢true}
use Rattle.std.proofs.lemmas.List.{length-map}
use Rattle.reg_names.specs.Names.{folded}
use Rattle.reg_tree_parts.specs.declared.value.Value.{Value}
use Rattle.reg_tree_parts.specs.Orders.{name_order, path_order}
use Rattle.reg_tree_parts.specs.Rows.{Row, ValueMap}
use Rattle.reg_tree_parts.proofs.Keys.{names_total, names_apart}
use Rattle.reg_tree.specs.Maps.{TreeMap, row}
use Rattle.reg_tree.specs.Encodable.{IsEncodable}
use Rattle.reg_tree.proofs.Paths.{eq_is}
use Rattle.conflicts.proofs.Members.{here, later, first_or_later, none_empty}
use Rattle.commit_outcomes.specs.Units.{is_unit_name}
use Rattle.commit_outcomes.specs.Commits.{Commit, latest, AreKept, AreUpTo}
use Rattle.commit_outcomes.specs.Trees.{HasCommits, values_if, root_values, values_of, commit_value, commit_of, is_commit_value, are_distinct, are_outcomes}
use Rattle.commit_outcomes.specs.declared.commit_list.TheConstants.{COMMIT_KIND, MOST_COMMITS}
use Rattle.commit_outcomes.proofs.Numbers.{bytes_back}
use Rattle.commit_outcomes.proofs.Found.{value_passes, found_value, value_found_at}
use Rattle.commit_outcomes.proofs.Values.{look, look_has, has_look, values_are}
use Rattle.commit_outcomes.proofs.Written.{Rise}
use Rattle.commit_outcomes.proofs.ByNumber.{apart_from_rise, in_order, ordered_has, has_ordered, ordered_length, ordered_rise}

pub map_member : {X Y : Type 0} (f : X → Y) (xs : List X) (x : X) → Contains xs x → Contains (map f xs) (f x)
map_member f [] x has = absurd (none_empty x has)
map_member f (z ∷ xs) x has = elim (first_or_later z xs x has) [
  | inl e ↦ subst (λ w. Contains (f w ∷ map f xs) (f x)) (sym e) (here (f x) (map f xs))
  | inr there ↦ later (f z) (map f xs) (f x) (map_member f xs x there)
]

pub member_map : {X Y : Type 0} (f : X → Y) (xs : List X) (y : Y) → Contains (map f xs) y → (x : X) × Contains xs x × (f x ≡ y)
member_map f [] y has = absurd (none_empty y has)
member_map f (z ∷ xs) y has = elim (first_or_later (f z) (map f xs) y has) [
  | inl e ↦ (z, here z xs, e)
  | inr there ↦ let rest = member_map f xs y there in (rest.0, later z xs rest.0 rest.1, rest.2)
]

-- a property of each element, from its elements
pub all_members : {X : Type 0} (P : X → Type 0) (xs : List X) → ((x : X) → Contains xs x → P x) → AllByRecursion P xs
all_members P [] f = tt
all_members P (x ∷ xs) f = (f x (here x xs), all_members P xs (λ z has. f z (later x xs z has)))

-- What a value that passes is

pub record Passes (number : ℕ) (value : Value) : Type 0 where
  pub unit : is_unit_name value.name ≡ true
  pub kind : value.kind ≡ COMMIT_KIND
  pub long : length value.«data» ≡ 8
  pub bytes : list_all (λ b. nat_lt b 256) value.«data» ≡ true
  pub above : 0 < (commit_of value).0
  pub most : (commit_of value).0 ≤ number

pub passes_of : (number : ℕ) (value : Value) → is_commit_value number value ≡ true → Passes number value
passes_of number value is =
    let a = and_parts (is_unit_name value.name) _ is in
    let b = and_parts (value.kind == COMMIT_KIND) _ a.1 in
    let c = and_parts (length value.«data» == 8) _ b.1 in
    let d = and_parts (list_all (λ b. nat_lt b 256) value.«data») _ c.1 in
    let e = and_parts (nat_le 1 (commit_of value).0) (nat_le (commit_of value).0 number) d.1 in
    let low = leb-true 1 (commit_of value).0 e.0 in
    record { unit = a.0; kind = eqb-true value.kind COMMIT_KIND b.0; long = eqb-true (length value.«data») 8 c.0; bytes = d.0; above = omega (arith, low); most = leb-true (commit_of value).0 number e.1 }

-- it is its commit's
pub value_back : (number : ℕ) (value : Value) → Passes number value → commit_value (commit_of value) ≡ value
value_back number value is = λ i. record { name = value.name; kind = sym is.kind i; «data» = bytes_back value.«data» is.long is.bytes i }

-- a list in order of the commits that values tell of
pub record Lists (values : ValueMap) (commits : List Commit) : Type 0 where
  pub rise : Rise commits
  pub from : (c : Commit) → Contains commits c → (q : List ℕ) × (v : Value) × (finite.get values q ≡ Some v) × (commit_of v ≡ c)
  pub to : (q : List ℕ) (v : Value) → finite.get values q ≡ Some v → Contains commits (commit_of v)

module _ (number : ℕ) (values : ValueMap) (commits : List Commit) (lists : Lists values commits)
    (filed : (q : List ℕ) (v : Value) → finite.get values q ≡ Some v → folded v.name ≡ q) (passes : (q : List ℕ) (v : Value) → finite.get values q ≡ Some v → Passes number v) where
  one_value : (d e : Commit) → Contains commits d → Contains commits e → folded d.1 ≡ folded e.1 → d ≡ e
  one_value d e has too same =
      let (q, v, at, is) = lists.from d has in
      let (r, w, at_r, also) = lists.from e too in
      let keys : q ≡ r = sym (filed q v at) ∙ ap (λ (c : Commit). folded c.1) is ∙ same ∙ ap (λ (c : Commit). folded c.1) (sym also) ∙ filed r w at_r in
      let some : Some v ≡ Some w = sym at ∙ ap (finite.get values) keys ∙ at_r in
      let one : v ≡ w = cc in
      sym is ∙ ap commit_of one ∙ also

  pub listed_apart : latest commits ≡ commits
  listed_apart = apart_from_rise commits lists.rise one_value

  pub values_listed : values ≡ values_of commits
  values_listed = values_are values commits (λ q. by_case q (finite.get values q) refl (look q commits) refl)
    where
      by_case : (q : List ℕ) (o : Option Value) → finite.get values q ≡ o → (p : Option Commit) → look q commits ≡ p → o ≡ option_map commit_value p
      by_case q (Some v) at p is =
          let seen : look q commits ≡ Some (commit_of v) = ap (λ r. look r commits) (sym (filed q v at)) ∙ has_look commits (commit_of v) listed_apart (lists.to q v at) in
          ap (λ w. Some w) (sym (value_back number v (passes q v at))) ∙ ap (option_map commit_value) (sym seen ∙ is)
      by_case q None at None is = refl
      by_case q None at (Some d) is =
          let has = look_has q commits d is in
          let (r, v, at_r, same) = lists.from d has.0 in
          let keys : r ≡ q = sym (filed r v at_r) ∙ ap (λ (c : Commit). folded c.1) same ∙ has.1 in
          let bad : None ≡ Some v = sym at ∙ ap (finite.get values) (sym keys) ∙ at_r in
          absurd (let never : ⊥ = cc in never)

  of_member : (P : Commit → Type 0) → ((v : Value) → Passes number v → P (commit_of v)) → AllByRecursion P commits
  of_member P f = all_members P commits (λ c has. let (q, v, at, is) = lists.from c has in subst P is (f v (passes q v at)))

  pub listed_kept : length commits ≤ MOST_COMMITS → AreKept commits
  listed_kept few = record { rise = lists.rise; above = of_member (λ (c : Commit). 0 < c.0) (λ v p. p.above); units = of_member (λ (c : Commit). is_unit_name c.1 ≡ true) (λ v p. p.unit); apart = listed_apart; few = few }

  pub listed_up : AreUpTo number commits
  listed_up = of_member (λ (c : Commit). c.0 ≤ number) (λ v p. p.most)

-- What a tree that passes is

pub record PassesTree (number : ℕ) (tree : TreeMap) : Type 0 where
  pub alone : finite.keys tree ≡ [] ∷ []
  pub few : finite.len (root_values tree) ≤ MOST_COMMITS
  pub each : list_all (is_commit_value number) (finite.values (root_values tree)) ≡ true
  pub distinct : are_distinct (map (λ v. (commit_of v).0) (finite.values (root_values tree))) ≡ true

one_key : (keys : List (List (List ℕ))) → length keys ≡ 1 → list_any (eq_by_cmp path_order []) keys ≡ true → keys ≡ [] ∷ []
one_key [] long has = absurd (omega (arith, long))
one_key (k ∷ []) long has = by_case (eq_by_cmp path_order [] k) refl has
  where
    by_case : (b : Bool) → eq_by_cmp path_order [] k ≡ b → (b || false) ≡ true → k ∷ [] ≡ [] ∷ []
    by_case true is e = ap (λ p. p ∷ []) (sym (eq_is [] k is))
    by_case false is e = absurd (false≢true e)
one_key (k ∷ j ∷ keys) long has = absurd (omega (arith, long))

pub tree_passes : (number : ℕ) (tree : TreeMap) → are_outcomes number tree ≡ true → PassesTree number tree
tree_passes number tree is =
    let a = and_parts (finite.len tree == 1) _ is in
    let b = and_parts (is_some (row tree [])) _ a.1 in
    let c = and_parts (nat_le (finite.len (root_values tree)) MOST_COMMITS) _ b.1 in
    let d = and_parts (list_all (is_commit_value number) (finite.values (root_values tree))) _ c.1 in
    let long : length (finite.keys tree) ≡ 1 = length-map (finite.entries tree) (λ e. e.0) ∙ sym (len-entries tree) ∙ eqb-true (finite.len tree) 1 a.0 in
    record {
      alone = one_key (finite.keys tree) long (sym (contains_key-keys tree []) ∙ b.0);
      few = leb-true (finite.len (root_values tree)) MOST_COMMITS c.0;
      each = d.0;
      distinct = d.1;
    }

-- values of the root are under the folds of their names
pub root_filed : (tree : TreeMap) → IsEncodable tree → (q : List ℕ) (v : Value) → finite.get (root_values tree) q ≡ Some v → folded v.name ≡ q
root_filed tree can q v at = by_case (row tree []) refl at
  where
    by_case : (o : Option Row) → row tree [] ≡ o → finite.get (values_if o) q ≡ Some v → folded v.name ≡ q
    by_case None is at = let bad : None ≡ Some v = sym (finite.get-empty name_order q) ∙ at in absurd (let never : ⊥ = cc in never)
    by_case (Some key) is at = ((can.rows [] key is).spelled.values q v at).filed

pub maps : {X Y : Type 0} (f : X → Y) (g : Y → ℕ) (xs : List X) → map g (map f xs) ≡ map (λ x. g (f x)) xs
maps f g [] = refl
maps f g (x ∷ xs) = ap (λ ys. g (f x) ∷ ys) (maps f g xs)

pub found : (number : ℕ) (tree : TreeMap) → IsEncodable tree → are_outcomes number tree ≡ true → (commits : List Commit) × HasCommits commits tree × AreUpTo number commits
found number tree can is =
    let pass = tree_passes number tree is in
    let values = root_values tree in
    let told = map commit_of (finite.values values) in
    let commits = in_order told in
    let distinct : are_distinct (map (λ (c : Commit). c.0) told) ≡ true = ap are_distinct (maps commit_of (λ (c : Commit). c.0) (finite.values values)) ∙ pass.distinct in
    let lists : Lists values commits = record {
      rise = ordered_rise told distinct;
      from = λ c has.
          let v = member_map commit_of (finite.values values) c (has_ordered told c has) in
          let at = value_found_at name_order names_total names_apart values v.0 v.1 in
          (at.0, v.0, at.1, v.2);
      to = λ q v at. ordered_has told (commit_of v) (map_member commit_of (finite.values values) v (found_value name_order names_total names_apart values q v at));
    } in
    let each : (q : List ℕ) (v : Value) → finite.get values q ≡ Some v → Passes number v = λ q v at. passes_of number v (value_passes name_order names_total names_apart values (is_commit_value number) pass.each q v at) in
    let long : length commits ≡ finite.len values = ordered_length told ∙ length-map (finite.values values) commit_of ∙ length-map (finite.entries values) (λ e. e.1) ∙ sym (len-entries values) in
    let few : length commits ≤ MOST_COMMITS = subst (λ n. n ≤ MOST_COMMITS) (sym long) pass.few in
    let filed = root_filed tree can in
    (commits, record { alone = pass.alone; values = values_listed number values commits lists filed each; are = listed_kept number values commits lists filed each few }, listed_up number values commits lists filed each)

-- what is such a value passes
pub passes_from : (number : ℕ) (value : Value) → Passes number value → is_commit_value number value ≡ true
passes_from number value is =
    let low = is.above in
    and_from (is_unit_name value.name) _ is.unit (and_from (value.kind == COMMIT_KIND) _ (eq-eqb value.kind COMMIT_KIND is.kind) (and_from (length value.«data» == 8) _ (eq-eqb (length value.«data») 8 is.long) (and_from (list_all (λ b. nat_lt b 256) value.«data») _ is.bytes
    (and_from (nat_le 1 (commit_of value).0) (nat_le (commit_of value).0 number) (le-leb 1 (commit_of value).0 (omega (arith, low))) (le-leb (commit_of value).0 number is.most)))))
