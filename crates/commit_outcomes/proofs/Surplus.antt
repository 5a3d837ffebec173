-- Which commit is one too many, by the commits that are listed.
use Rattle.std.proofs.Common.{◌≡◌, ◌⊎◌, inl, inr, ℕ, suc, ◌+◌, ◌<◌, ◌≤◌, ◌^◌, Bool, true, false, if◌then◌else◌, List, [], ◌∷◌, ◌++◌, length, Contains, Option, Some, None, slice_get, refl, sym, ◌∙◌, ap, subst, arith, length-append}
use Rattle.std.specs.List.{AllByRecursion, list_any}
use Rattle.std.proofs.lemmas.Bool.{cases_Bool, eq-eqb, ne_eqb, false≢true}
use Rattle.conflicts.proofs.Members.{first_or_later, none_empty}
use Rattle.reg_names.specs.Names.{folded}
use Rattle.reg_tree.specs.Maps.{TreeMap}
use Rattle.reg_tree.specs.declared.op.Op.{Op}
use Rattle.commit_outcomes.specs.Units.{is_unit_name}
use Rattle.commit_outcomes.specs.Commits.{Commit, is_of, without, latest}
use Rattle.commit_outcomes.specs.Trees.{HasCommits}
use Rattle.commit_outcomes.specs.Operations.{record_op, forget_op, outcome_ops}
use Rattle.commit_outcomes.specs.CommitLists.{first_out}
use Rattle.commit_outcomes.specs.declared.commit_list.TheConstants.{MOST_COMMITS}
use Rattle.commit_outcomes.proofs.UnitNames.{folds_apart}
use Rattle.commit_outcomes.proofs.Latest.{rest_apart, without_none, without_first, without_later}
use Rattle.commit_outcomes.proofs.Values.{same_name, self}
use Rattle.commit_outcomes.proofs.ByNumber.{any_member}
use Rattle.commit_outcomes.proofs.Written.{all_member, with_one, few_or_many, AreFew, AreMany}
use Rattle.commit_outcomes.proofs.Outcome.{ops_few, ops_many}

-- whether a unit's commit is among commits, and with which number
abbrev pub IsEarlier : List Commit → List ℕ → Option ℕ → Type 0
IsEarlier commits name earlier = (n : ℕ) → (earlier ≡ Some n → Contains commits (n, name)) × (Contains commits (n, name) → earlier ≡ Some n)

-- without a unit that is not there nothing changes
pub absent : (commits : List Commit) (name : List ℕ) → AllByRecursion (λ (c : Commit). is_unit_name c.1 ≡ true) commits → is_unit_name name ≡ true → IsEarlier commits name None → without name commits ≡ commits
absent commits name units unit is = without_none name commits (by_case (list_any (is_of name) commits) refl)
  where
    by_case : (b : Bool) → list_any (is_of name) commits ≡ b → b ≡ false
    by_case false e = refl
    by_case true e =
        let d = any_member (is_of name) commits e in
        let same : d.0.1 ≡ name = folds_apart d.0.1 name (all_member (λ (c : Commit). is_unit_name c.1 ≡ true) commits d.0 units d.1) unit (sym (same_name _ _ d.2)) in
        let bad : None ≡ Some d.0.0 = (is d.0.0).1 (subst (Contains commits) (λ i. (d.0.0, same i)) d.1) in
        absurd (let never : ⊥ = cc in never)

-- without one that is there, one goes
present : (commits : List Commit) (name : List ℕ) (n : ℕ) → latest commits ≡ commits → Contains commits (n, name) → length (without name commits) + 1 ≡ length commits
present [] name n apart has = absurd (none_empty (n, name) has)
present (x ∷ commits) name n apart has = elim (cases_Bool (is_of name x)) [
  | inl is ↦ let l = ap length (without_first name x commits apart is) in omega (arith, l)
  | inr other ↦
      let l = ap length (without_later name x commits other) in
      let there : Contains commits (n, name) = elim (first_or_later x commits (n, name) has) [
        | inl e ↦ absurd (false≢true (sym other ∙ ap (is_of name) e ∙ self (folded name)))
        | inr later ↦ later
      ] in
      let rest = present commits name n (rest_apart x commits apart).1 there in
      omega (arith, l, rest)
]

-- the operation that lets go of a commit, if one is too many
abbrev pub forgets : ℕ → Option Commit → List Op
forgets hive None = []
forgets hive (Some d) = forget_op hive d.1 ∷ []

module _ (hive : ℕ) (tree : TreeMap) (commits : List Commit) (c : Commit) (has : HasCommits commits tree) (unit : is_unit_name c.1 ≡ true)
    (below : AllByRecursion (λ (d : Commit). d.0 < c.0) commits) (fits : c.0 < 2 ^ 64) where
  one_more : length (with_one commits c) ≡ length (without c.1 commits) + 1
  one_more = length-append (without c.1 commits) (c ∷ [])

  written : (earlier : Option ℕ) → first_out commits earlier ≡ None → AreFew commits c → outcome_ops hive tree c ≡ record_op hive c ∷ forgets hive (first_out commits earlier)
  written earlier out few = ops_few hive tree commits c has unit below fits few ∙ ap (λ o. record_op hive c ∷ forgets hive o) (sym out)

  head_of : (many : AreMany commits c) → without c.1 commits ≡ commits → slice_get commits 0 ≡ Some many.first
  head_of many stay = by_case commits (sym (ap (λ l. l ++ c ∷ []) stay) ∙ many.whole) (let more = ap length many.whole in let long = ap length stay in omega (arith, more, long, one_more, many.full))
    where
      by_case : (xs : List Commit) → xs ++ c ∷ [] ≡ many.first ∷ many.rest → 0 < length xs → slice_get xs 0 ≡ Some many.first
      by_case [] e lt = absurd (omega (arith, lt))
      by_case (x ∷ xs) e lt = let same : x ≡ many.first = cc in ap (λ y. Some y) same

  from_case : (earlier : Option ℕ) → IsEarlier commits c.1 earlier → AreFew commits c ⊎ AreMany commits c → outcome_ops hive tree c ≡ record_op hive c ∷ forgets hive (first_out commits earlier)
  from_case (Some n) is (inl few) = written (Some n) refl few
  from_case None is (inl few) =
      let stay = ap length (absent commits c.1 has.are.units unit is) in
      let most = few.few in
      written None (ap (λ b. if b then slice_get commits 0 else None) (ne_eqb (length commits) MOST_COMMITS (λ e. omega (arith, e, stay, most, one_more)))) few
  from_case (Some n) is (inr many) =
      let less = present commits c.1 n has.are.apart ((is n).0 refl) in
      let more : length (with_one commits c) ≡ suc (length many.rest) = ap length many.whole in
      let most : length commits ≤ MOST_COMMITS = has.are.few in
      absurd (omega (arith, less, more, most, one_more, many.full))
  from_case None is (inr many) =
      let same = absent commits c.1 has.are.units unit is in
      let stay = ap length same in
      let more : length (with_one commits c) ≡ suc (length many.rest) = ap length many.whole in
      let full : length commits ≡ MOST_COMMITS = omega (arith, stay, more, one_more, many.full) in
      ops_many hive tree commits c has unit below fits many
      ∙ ap (λ o. record_op hive c ∷ forgets hive o) (sym (ap (λ b. if b then slice_get commits 0 else None) (eq-eqb (length commits) MOST_COMMITS full) ∙ head_of many same))

  -- the operations are those of the list alone
  pub ops_listed : (earlier : Option ℕ) → IsEarlier commits c.1 earlier → outcome_ops hive tree c ≡ record_op hive c ∷ forgets hive (first_out commits earlier)
  ops_listed earlier is = from_case earlier is (few_or_many commits c has.are unit below fits)
