-- What the values of commits are, by the commit that is found for a name.
use Rattle.std.proofs.Common.{◌≡◌, inl, inr, ℕ, ◌+◌, Bool, true, false, not, ◌||◌, cond, List, [], ◌∷◌, ◌++◌, map, length, Contains, Option, Some, None, option_map, is_some, refl, sym, ◌∙◌, ap, subst, arith}
use Rattle.std.specs.List.{AllByRecursion, list_any}
use Rattle.std.specs.FinMap as finite
use Rattle.std.specs.FinMap.{get-from_entries, get-insert, get-remove, len-insert, len-empty, same_map}
use Rattle.std.specs.FinMap.Entries.{find}
use Rattle.std.specs.Ordering.{eq_by_cmp, is_eq}
use Rattle.std.specs.Cmp.{eq_by_cmp_equiv, tied_itself}
use Rattle.std.proofs.lemmas.Bool.{cases_Bool, or_parts, false≢true}
use Rattle.reg_names.specs.Names.{folded}
use Rattle.reg_tree_parts.specs.declared.value.Value.{Value}
use Rattle.reg_tree_parts.specs.Orders.{name_order}
use Rattle.reg_tree_parts.specs.Rows.{ValueMap}
use Rattle.reg_tree_parts.specs.ValueEdits.{spelled_name, values_without}
use Rattle.reg_tree_parts.proofs.Keys.{names_total, names_apart}
use Rattle.reg_tree_parts.proofs.Finds.{equal_of}
use Rattle.byteorder.specs.Endian.{little_bytes}
use Rattle.conflicts.proofs.Members.{here, later, first_or_later, none_empty}
use Rattle.commit_outcomes.specs.Units.{is_unit_name}
use Rattle.commit_outcomes.specs.Commits.{Commit, is_of, without, latest}
use Rattle.commit_outcomes.specs.Trees.{commit_value, values_of}
use Rattle.commit_outcomes.specs.Operations.{values_recorded}
use Rattle.commit_outcomes.specs.declared.commit_list.TheConstants.{COMMIT_KIND}
use Rattle.commit_outcomes.proofs.UnitNames.{folds_apart}
use Rattle.commit_outcomes.proofs.Latest.{of_each_other, rest_apart}

-- the first commit whose unit's name folds to this
abbrev pub look : List ℕ → List Commit → Option Commit
look q [] = None
look q (c ∷ commits) = cond (eq_by_cmp name_order q (folded c.1)) (Some c) (look q commits)

pub same_name : (q r : List ℕ) → eq_by_cmp name_order q r ≡ true → q ≡ r
same_name q r e = names_apart q r (equal_of (name_order q r) e)

pub self : (q : List ℕ) → eq_by_cmp name_order q q ≡ true
self q = ap is_eq (tied_itself names_total q)

find_look : (q : List ℕ) (commits : List Commit) → find name_order q (map (λ c. (folded c.1, commit_value c)) commits) ≡ option_map commit_value (look q commits)
find_look q [] = refl
find_look q (c ∷ commits) = by_case (find_look q commits) (eq_by_cmp name_order q (folded c.1))
  where
    by_case : find name_order q (map (λ c. (folded c.1, commit_value c)) commits) ≡ option_map commit_value (look q commits) → (b : Bool)
        → cond b (Some (commit_value c)) (find name_order q (map (λ c. (folded c.1, commit_value c)) commits)) ≡ option_map commit_value (cond b (Some c) (look q commits))
    by_case rest true = refl
    by_case rest false = rest

-- so that is what the values have under the name
pub get_look : (commits : List Commit) (q : List ℕ) → finite.get (values_of commits) q ≡ option_map commit_value (look q commits)
get_look commits q = get-from_entries names_total (map (λ c. (folded c.1, commit_value c)) commits) q ∙ find_look q commits

-- and values that have the same are the same
pub values_are : (values : ValueMap) (commits : List Commit) → ((q : List ℕ) → finite.get values q ≡ option_map commit_value (look q commits)) → values ≡ values_of commits
values_are values commits h = same_map names_total names_apart values (values_of commits) (λ q. h q ∙ sym (get_look commits q))

-- What is found is a commit of the name, and each commit is found if units differ

pub look_has : (q : List ℕ) (commits : List Commit) (c : Commit) → look q commits ≡ Some c → Contains commits c × (folded c.1 ≡ q)
look_has q [] c e = absurd (let never : ⊥ = cc in never)
look_has q (x ∷ commits) c e = by_case (λ found. look_has q commits c found) (eq_by_cmp name_order q (folded x.1)) refl e
  where
    by_case : (look q commits ≡ Some c → Contains commits c × (folded c.1 ≡ q)) → (b : Bool) → eq_by_cmp name_order q (folded x.1) ≡ b → cond b (Some x) (look q commits) ≡ Some c → Contains (x ∷ commits) c × (folded c.1 ≡ q)
    by_case rest true is found = let same : x ≡ c = cc in (subst (λ y. Contains (x ∷ commits) y) same (here x commits), ap (λ (y : Commit). folded y.1) (sym same) ∙ sym (same_name q (folded x.1) is))
    by_case rest false is found = let r = rest found in (later x commits c r.0, r.1)

pub look_any : (name : List ℕ) (commits : List Commit) → is_some (look (folded name) commits) ≡ list_any (is_of name) commits
look_any name [] = refl
look_any name (x ∷ commits) = by_case (look_any name commits) (eq_by_cmp name_order (folded name) (folded x.1))
  where
    by_case : is_some (look (folded name) commits) ≡ list_any (is_of name) commits → (b : Bool) → is_some (cond b (Some x) (look (folded name) commits)) ≡ (b || list_any (is_of name) commits)
    by_case rest true = refl
    by_case rest false = rest

pub look_none : (q : List ℕ) (name : List ℕ) (commits : List Commit) → q ≡ folded name → list_any (is_of name) commits ≡ false → look q commits ≡ None
look_none q name commits same none = ap (λ r. look r commits) same ∙ nothing (look (folded name) commits) (look_any name commits ∙ none)
  where
    nothing : (o : Option Commit) → is_some o ≡ false → o ≡ None
    nothing None e = refl
    nothing (Some c) e = absurd (false≢true (sym e))

any_has : (name : List ℕ) (commits : List Commit) (c : Commit) → Contains commits c → is_of name c ≡ true → list_any (is_of name) commits ≡ true
any_has name [] c has is = absurd (none_empty c has)
any_has name (x ∷ commits) c has is = elim (first_or_later x commits c has) [
  | inl e ↦ ap (λ b. b || list_any (is_of name) commits) (ap (is_of name) e ∙ is)
  | inr there ↦ or_true (is_of name x) (any_has name commits c there is)
]
  where
    or_true : (b : Bool) {d : Bool} → d ≡ true → (b || d) ≡ true
    or_true true e = refl
    or_true false e = e

pub has_look : (commits : List Commit) (c : Commit) → latest commits ≡ commits → Contains commits c → look (folded c.1) commits ≡ Some c
has_look [] c apart has = absurd (none_empty c has)
has_look (x ∷ commits) c apart has =
    let parts = rest_apart x commits apart in
    elim (first_or_later x commits c has) [
      | inl e ↦ ap (λ b. cond b (Some x) (look (folded c.1) commits)) (ap (λ (y : Commit). eq_by_cmp name_order (folded c.1) (folded y.1)) e ∙ self (folded c.1)) ∙ ap (λ y. Some y) e
      | inr there ↦ elim (cases_Bool (is_of c.1 x)) [
        | inl is ↦ absurd (false≢true (sym parts.0 ∙ any_has x.1 commits c there (sym (of_each_other c x) ∙ is)))
        | inr other ↦ ap (λ b. cond b (Some x) (look (folded c.1) commits)) other ∙ has_look commits c parts.1 there
      ]
    ]

-- There are as many values as commits if units differ
pub len_values : (commits : List Commit) → latest commits ≡ commits → finite.len (values_of commits) ≡ length commits
len_values [] apart = len-empty name_order Value
len_values (c ∷ commits) apart =
    let parts = rest_apart c commits apart in
    let rest = len_values commits parts.1 in
    let none : is_some (finite.get (values_of commits) (folded c.1)) ≡ false = ap is_some (get_look commits (folded c.1) ∙ ap (option_map commit_value) (look_none (folded c.1) c.1 commits refl parts.0)) in
    len-insert names_total (values_of commits) (folded c.1) (commit_value c)
    ∙ ap (λ b. cond b (finite.len (values_of commits)) (finite.len (values_of commits) + 1)) none
    ∙ (omega (arith, rest))

-- The commits of other units, and one more

look_without : (q name : List ℕ) (commits : List Commit) → look q (without name commits) ≡ cond (eq_by_cmp name_order q (folded name)) None (look q commits)
look_without q name [] = either (eq_by_cmp name_order q (folded name))
  where
    either : (b : Bool) → look q [] ≡ cond b None (look q [])
    either true = refl
    either false = refl
look_without q name (x ∷ commits) = by_case (look_without q name commits) (is_of name x) refl (eq_by_cmp name_order q (folded name)) refl (eq_by_cmp name_order q (folded x.1)) refl
  where
    by_case : look q (without name commits) ≡ cond (eq_by_cmp name_order q (folded name)) None (look q commits)
        → (a : Bool) → is_of name x ≡ a → (b : Bool) → eq_by_cmp name_order q (folded name) ≡ b → (d : Bool) → eq_by_cmp name_order q (folded x.1) ≡ d
        → look q (cond (not a) (x ∷ without name commits) (without name commits)) ≡ cond b None (cond d (Some x) (look q commits))
    by_case rest true is true e d f = rest ∙ ap (λ t. cond t None (look q commits)) e
    by_case rest true is false e true f = let same : q ≡ folded x.1 = same_name q (folded x.1) f in absurd (false≢true (sym e ∙ (eq_by_cmp_equiv names_total).symm q (folded name) ∙ ap (eq_by_cmp name_order (folded name)) same ∙ is))
    by_case rest true is false e false f = rest ∙ ap (λ t. cond t None (look q commits)) e
    by_case rest false is true e true f = let same : q ≡ folded name = same_name q (folded name) e in absurd (false≢true (sym is ∙ ap (λ r. eq_by_cmp name_order r (folded x.1)) (sym same) ∙ f))
    by_case rest false is true e false f = ap (λ t. cond t (Some x) (look q (without name commits))) f ∙ rest ∙ ap (λ t. cond t None (look q commits)) e
    by_case rest false is false e true f = ap (λ t. cond t (Some x) (look q (without name commits))) f
    by_case rest false is false e false f = ap (λ t. cond t (Some x) (look q (without name commits))) f ∙ rest ∙ ap (λ t. cond t None (look q commits)) e

pub without_none_left : (name : List ℕ) (commits : List Commit) → list_any (is_of name) (without name commits) ≡ false
without_none_left name [] = refl
without_none_left name (x ∷ commits) = by_case (without_none_left name commits) (is_of name x) refl
  where
    by_case : list_any (is_of name) (without name commits) ≡ false → (a : Bool) → is_of name x ≡ a → list_any (is_of name) (cond (not a) (x ∷ without name commits) (without name commits)) ≡ false
    by_case rest true is = rest
    by_case rest false is = ap (λ b. b || list_any (is_of name) (without name commits)) is ∙ rest

look_push : (q : List ℕ) (commits : List Commit) (c : Commit) → list_any (is_of c.1) commits ≡ false → look q (commits ++ c ∷ []) ≡ cond (eq_by_cmp name_order q (folded c.1)) (Some c) (look q commits)
look_push q [] c none = refl
look_push q (x ∷ commits) c none =
    let parts = or_parts (is_of c.1 x) (list_any (is_of c.1) commits) none in
    by_case parts.0 (look_push q commits c parts.1) (eq_by_cmp name_order q (folded x.1)) refl (eq_by_cmp name_order q (folded c.1)) refl
  where
    by_case : is_of c.1 x ≡ false → look q (commits ++ c ∷ []) ≡ cond (eq_by_cmp name_order q (folded c.1)) (Some c) (look q commits)
        → (a : Bool) → eq_by_cmp name_order q (folded x.1) ≡ a → (b : Bool) → eq_by_cmp name_order q (folded c.1) ≡ b
        → cond a (Some x) (look q (commits ++ c ∷ [])) ≡ cond b (Some c) (cond a (Some x) (look q commits))
    by_case other rest true e true f = let same : q ≡ folded c.1 = same_name q (folded c.1) f in absurd (false≢true (sym other ∙ ap (λ r. eq_by_cmp name_order r (folded x.1)) (sym same) ∙ e))
    by_case other rest true e false f = refl
    by_case other rest false e b f = rest ∙ ap (λ t. cond t (Some c) (look q commits)) f

-- A commit that is written takes the place of its unit's
pub recorded_is : (commits : List Commit) (c : Commit) → AllByRecursion (λ d. is_unit_name d.1 ≡ true) commits → is_unit_name c.1 ≡ true
    → values_recorded (values_of commits) c ≡ values_of (without c.1 commits ++ c ∷ [])
recorded_is commits c units unit =
    values_are (values_recorded (values_of commits) c) (without c.1 commits ++ c ∷ []) (λ q.
    get-insert names_total (values_of commits) (folded c.1) (record { name = spelled_name (finite.get (values_of commits) (folded c.1)) c.1; kind = COMMIT_KIND; «data» = little_bytes 8 c.0 }) q
    ∙ ap (λ n. cond (eq_by_cmp name_order q (folded c.1)) (Some (record { name = n; kind = COMMIT_KIND; «data» = little_bytes 8 c.0 })) (finite.get (values_of commits) q)) spelled
    ∙ ap (cond (eq_by_cmp name_order q (folded c.1)) (Some (commit_value c))) (get_look commits q)
    ∙ sorted_out (eq_by_cmp name_order q (folded c.1)) (look q commits)
    ∙ ap (option_map commit_value) (sym (look_push q (without c.1 commits) c (without_none_left c.1 commits) ∙ ap (cond (eq_by_cmp name_order q (folded c.1)) (Some c)) (look_without q c.1 commits))))
  where
    sorted_out : (b : Bool) (o : Option Commit) → cond b (Some (commit_value c)) (option_map commit_value o) ≡ option_map commit_value (cond b (Some c) (cond b None o))
    sorted_out true o = refl
    sorted_out false o = refl

    all_has : (xs : List Commit) (d : Commit) → AllByRecursion (λ d. is_unit_name d.1 ≡ true) xs → Contains xs d → is_unit_name d.1 ≡ true
    all_has [] d all has = absurd (none_empty d has)
    all_has (x ∷ xs) d all has = elim (first_or_later x xs d has) [
      | inl e ↦ ap (λ (y : Commit). is_unit_name y.1) (sym e) ∙ all.0
      | inr there ↦ all_has xs d all.1 there
    ]

    named : (o : Option Commit) → look (folded c.1) commits ≡ o → spelled_name (option_map commit_value o) c.1 ≡ c.1
    named None e = refl
    named (Some d) e = let has = look_has (folded c.1) commits d e in folds_apart d.1 c.1 (all_has commits d units has.0) unit has.1

    spelled : spelled_name (finite.get (values_of commits) (folded c.1)) c.1 ≡ c.1
    spelled = ap (λ o. spelled_name o c.1) (get_look commits (folded c.1)) ∙ named (look (folded c.1) commits) refl

-- the values without that of the first
pub forgotten_is : (x : Commit) (commits : List Commit) → latest (x ∷ commits) ≡ x ∷ commits → values_without (values_of (x ∷ commits)) x.1 ≡ values_of commits
forgotten_is x commits apart =
    values_are (values_without (values_of (x ∷ commits)) x.1) commits (λ q.
    get-remove names_total (values_of (x ∷ commits)) (folded x.1) q
    ∙ ap (cond (eq_by_cmp name_order q (folded x.1)) None) (get_look (x ∷ commits) q)
    ∙ by_case q (eq_by_cmp name_order q (folded x.1)) refl)
  where
    by_case : (q : List ℕ) (b : Bool) → eq_by_cmp name_order q (folded x.1) ≡ b → cond b None (option_map commit_value (cond b (Some x) (look q commits))) ≡ option_map commit_value (look q commits)
    by_case q true e = sym (ap (option_map commit_value) (look_none q x.1 commits (same_name q (folded x.1) e) (rest_apart x commits apart).0))
    by_case q false e = refl
