-- Commits in memory by their places: where numbers rise, and where a number is.
use Rattle.std.proofs.Common.{◌≡◌, inl, inr, ℕ, zero, suc, ◌+◌, ◌-◌, ◌<◌, ◌≤◌, ◌==◌, Bool, true, false, not, cond, List, [], ◌∷◌, ◌++◌, length, take, drop, get_or, Contains, Option, Some, None, Ok, Err, refl, sym, ◌∙◌, ap, subst, arith}
use Rattle.std.specs.List.{AllByRecursion, filter, list_any}
use Rattle.std.specs.List.Sorted.{IsStrictlySortedBy, IsBinarySearchResult}
use Rattle.std.specs.Ordering.{nat_cmp, is_lt}
use Rattle.std.specs.Cmp.{nat_cmp_is}
use Rattle.std.specs.declared.cmp.Ordering.TheVariants.{Less, Equal, Greater}
use Rattle.std.proofs.lemmas.Bool.{cases_Bool, cases_lt, cases_order, eq-eqb, ne_eqb, false≢true}
use Rattle.std.proofs.lemmas.Cmp.{nat_cmp_total}
use Rattle.std.proofs.lemmas.List.Sorted.{searchable_from_sorted}
use Rattle.conflicts.proofs.Members.{here, later}
use Rattle.commit_outcomes.specs.Units.{unit_name, is_unit_name}
use Rattle.commit_outcomes.specs.Commits.{Commit, AreKept, is_of, without, last_of, kept}
use Rattle.commit_outcomes.specs.CommitLists.{named_commit, named_commits, NumbersRise, others_of, last_commits}
use Rattle.commit_outcomes.specs.declared.kept_commit.KeptCommit.{KeptCommit}
use Rattle.commit_outcomes.proofs.Latest.{without_none}
use Rattle.std.proofs.lemmas.List.{length-map}
use Rattle.commit_outcomes.specs.declared.commit_list.TheConstants.{MOST_COMMITS}
use Rattle.commit_outcomes.proofs.UnitNames.{named, folds_apart}
use Rattle.commit_outcomes.proofs.Values.{same_name, self as name_self}
use Rattle.reg_names.specs.Names.{folded}
use Rattle.commit_outcomes.proofs.Written.{Rise, rise_first, rise_cons, rise_none, all_member, less_is, latest_with}
use Rattle.commit_outcomes.proofs.ByNumber.{rise_same, any_member}
use Rattle.commit_outcomes.proofs.ReadTrees.{maps, map_member}

-- numbers rise in memory as they do by names
pub rise_named : (commits : List KeptCommit) → NumbersRise commits → Rise (named_commits commits)
rise_named commits rise = subst (IsStrictlySortedBy nat_cmp) (sym (maps named_commit (λ (c : Commit). c.0) commits)) rise

pub named_rise : (commits : List KeptCommit) → Rise (named_commits commits) → NumbersRise commits
named_rise commits rise = subst (IsStrictlySortedBy nat_cmp) (maps named_commit (λ (c : Commit). c.0) commits) rise

abbrev pub number_at : List KeptCommit → ℕ → KeptCommit → ℕ
number_at commits k d = let c = get_or commits k d in c.number

pub any_default : (commits : List KeptCommit) (k : ℕ) (d e : KeptCommit) → k < length commits → get_or commits k d ≡ get_or commits k e
any_default [] k d e lt = absurd (omega (arith, lt))
any_default (c ∷ commits) zero d e lt = refl
any_default (c ∷ commits) (suc k) d e lt = any_default commits k d e (omega (arith, lt))

-- Neighbours

above_first : (n : ℕ) (commits : List KeptCommit) → AllByRecursion (λ (c : Commit). n < c.0) (named_commits commits) → (k : ℕ) (d : KeptCommit) → k < length commits → n < number_at commits k d
above_first n [] a k d lt = absurd (omega (arith, lt))
above_first n (c ∷ commits) a zero d lt = a.0
above_first n (c ∷ commits) a (suc k) d lt = above_first n commits a.1 k d (omega (arith, lt))

pub places_rise : (commits : List KeptCommit) → Rise (named_commits commits) → (i j : ℕ) (d : KeptCommit) → i < j → j < length commits → number_at commits i d < number_at commits j d
places_rise [] rise i j d less lt = absurd (omega (arith, lt))
places_rise (c ∷ commits) rise i zero d less lt = absurd (omega (arith, less))
places_rise (c ∷ commits) rise zero (suc j) d less lt = above_first c.number commits (rise_first (named_commit c) (named_commits commits) rise).0 j d (omega (arith, lt))
places_rise (c ∷ commits) rise (suc i) (suc j) d less lt = places_rise commits (rise_first (named_commit c) (named_commits commits) rise).1 i j d (omega (arith, less)) (omega (arith, lt))

higher : (n m : ℕ) (commits : List Commit) → n < m → AllByRecursion (λ (c : Commit). m < c.0) commits → AllByRecursion (λ (c : Commit). n < c.0) commits
higher n m [] lt a = tt
higher n m (c ∷ commits) lt a = (let more = a.0 in omega (arith, lt, more), higher n m commits lt a.1)

pub rise_places : (commits : List KeptCommit) → ((k : ℕ) (d : KeptCommit) → k + 1 < length commits → number_at commits k d < number_at commits (suc k) d) → Rise (named_commits commits)
rise_places [] h = rise_none
rise_places (c ∷ []) h = rise_cons (named_commit c) [] tt rise_none
rise_places (c ∷ e ∷ commits) h =
    let rest = rise_places (e ∷ commits) (λ k d lt. h (suc k) d (omega (arith, lt))) in
    let first : c.number < e.number = h 0 c (omega arith) in
    let parts = rise_first (named_commit e) (named_commits commits) rest in
    rise_cons (named_commit c) (named_commits (e ∷ commits)) (first, higher c.number e.number (named_commits commits) first parts.0) rest

-- What a search finds

is_equal : (m n : ℕ) → nat_cmp m n ≡ Equal → m ≡ n
is_equal m n e = elim (cases_order m n) [
  | inl same ↦ same
  | inr apart ↦ elim apart [
    | inl lt ↦ let c : Less ≡ Equal = nat_cmp_is m n Less lt ∙ e in absurd (let never : ⊥ = cc in never)
    | inr gt ↦ let c : Greater ≡ Equal = nat_cmp_is m n Greater gt ∙ e in absurd (let never : ⊥ = cc in never)
  ]
]

is_greater : (m n : ℕ) → nat_cmp m n ≡ Greater → n < m
is_greater m n e = elim (cases_order m n) [
  | inl same ↦ let c : Equal ≡ Greater = nat_cmp_is m n Equal same ∙ e in absurd (let never : ⊥ = cc in never)
  | inr apart ↦ elim apart [
    | inl lt ↦ let c : Less ≡ Greater = nat_cmp_is m n Less lt ∙ e in absurd (let never : ⊥ = cc in never)
    | inr gt ↦ gt
  ]
]

not_less : (m n : ℕ) → n ≤ m → is_lt (nat_cmp m n) ≡ false
not_less m n le = elim (cases_order m n) [
  | inl same ↦ ap is_lt (sym (nat_cmp_is m n Equal same))
  | inr apart ↦ elim apart [
    | inl lt ↦ absurd (omega (arith, lt, le))
    | inr gt ↦ ap is_lt (sym (nat_cmp_is m n Greater gt))
  ]
]

-- the commits without the number at a place
above_stay : (n : ℕ) (commits : List KeptCommit) → AllByRecursion (λ (c : Commit). n < c.0) (named_commits commits) → filter (λ (c : KeptCommit). not (c.number == n)) commits ≡ commits
above_stay n [] a = refl
above_stay n (c ∷ commits) a =
    ap (λ b. cond (not b) (c ∷ filter (λ (e : KeptCommit). not (e.number == n)) commits) (filter (λ (e : KeptCommit). not (e.number == n)) commits)) (ne_eqb c.number n (λ e. let lt = a.0 in omega (arith, lt, e)))
    ∙ ap (λ l. c ∷ l) (above_stay n commits a.1)

pub removed_at : (commits : List KeptCommit) (i n : ℕ) → Rise (named_commits commits) → i < length commits → ((d : KeptCommit) → number_at commits i d ≡ n) → take i commits ++ drop (i + 1) commits ≡ filter (λ (c : KeptCommit). not (c.number == n)) commits
removed_at [] i n rise lt at = absurd (omega (arith, lt))
removed_at (c ∷ commits) zero n rise lt at =
    let is : c.number ≡ n = at c in
    let above = (rise_first (named_commit c) (named_commits commits) rise).0 in
    sym (ap (λ b. cond (not b) (c ∷ filter (λ (e : KeptCommit). not (e.number == n)) commits) (filter (λ (e : KeptCommit). not (e.number == n)) commits)) (eq-eqb c.number n is)
    ∙ above_stay n commits (subst (λ m. AllByRecursion (λ (e : Commit). m < e.0) (named_commits commits)) is above))
removed_at (c ∷ commits) (suc i) n rise lt at =
    let parts = rise_first (named_commit c) (named_commits commits) rise in
    let less : c.number < number_at commits i c = above_first c.number commits parts.0 i c (omega (arith, lt)) in
    let is : number_at commits i c ≡ n = at c in
    let next : suc i + 1 ≡ suc (i + 1) = omega arith in
    ap (λ k. c ∷ take i commits ++ drop k (c ∷ commits)) next
    ∙ ap (λ l. c ∷ l) (removed_at commits i n parts.1 (omega (arith, lt)) at)
    ∙ sym (ap (λ b. cond (not b) (c ∷ filter (λ (e : KeptCommit). not (e.number == n)) commits) (filter (λ (e : KeptCommit). not (e.number == n)) commits)) (ne_eqb c.number n (λ e. omega (arith, e, less, is))))

pub none_at : (commits : List KeptCommit) (n : ℕ) → ((k : ℕ) (d : KeptCommit) → k < length commits → number_at commits k d ≡ n → ⊥) → commits ≡ filter (λ (c : KeptCommit). not (c.number == n)) commits
none_at [] n h = refl
none_at (c ∷ commits) n h =
    sym (ap (λ b. cond (not b) (c ∷ filter (λ (e : KeptCommit). not (e.number == n)) commits) (filter (λ (e : KeptCommit). not (e.number == n)) commits)) (ne_eqb c.number n (h 0 c (omega arith)))
    ∙ ap (λ l. c ∷ l) (sym (none_at commits n (λ k d lt. h (suc k) d (omega (arith, lt))))))

pub found_at : (commits : List KeptCommit) (n i : ℕ) → IsBinarySearchResult (λ (c : KeptCommit). nat_cmp c.number n) commits (Ok i) → (d : KeptCommit) → number_at commits i d ≡ n
found_at commits n i found d = is_equal (number_at commits i d) n (found d)

pub not_found : (commits : List KeptCommit) (n i : ℕ) → Rise (named_commits commits) → IsBinarySearchResult (λ (c : KeptCommit). nat_cmp c.number n) commits (Err i) → (k : ℕ) (d : KeptCommit) → k < length commits → number_at commits k d ≡ n → ⊥
not_found commits n i rise missed k d lt is =
    let split = missed (searchable_from_sorted nat_cmp_total (λ (c : KeptCommit). c.number) commits n (λ j e z next. not_less (number_at commits (j + 1) e) (number_at commits j e) (let up = places_rise commits rise j (j + 1) e (omega arith) next in omega (arith, up)))) in
    elim (cases_lt k i) [
      | inl low ↦ let less = less_is (number_at commits k d) n (split.0 k d (omega arith) low) in omega (arith, less, is)
      | inr high ↦ let more = is_greater (number_at commits k d) n (split.1 k d high lt) in omega (arith, more, is)
    ]

-- The commits of other units are those without the number of this unit's commit

filters_agree : (p : KeptCommit → Bool) (q : Commit → Bool) (commits : List KeptCommit) → ((c : KeptCommit) → Contains commits c → p c ≡ q (named_commit c)) → named_commits (filter p commits) ≡ filter q (named_commits commits)
filters_agree p q [] h = refl
filters_agree p q (c ∷ commits) h = by_case (filters_agree p q commits (λ e has. h e (later c commits e has))) (p c) refl
  where
    by_case : named_commits (filter p commits) ≡ filter q (named_commits commits) → (b : Bool) → p c ≡ b → named_commits (cond b (c ∷ filter p commits) (filter p commits)) ≡ filter q (named_commits (c ∷ commits))
    by_case rest true is = ap (λ l. named_commit c ∷ l) rest ∙ sym (ap (λ b. cond b (named_commit c ∷ filter q (named_commits commits)) (filter q (named_commits commits))) (sym (h c (here c commits)) ∙ is))
    by_case rest false is = rest ∙ sym (ap (λ b. cond b (named_commit c ∷ filter q (named_commits commits)) (filter q (named_commits commits))) (sym (h c (here c commits)) ∙ is))

pub others_are : (commits : List KeptCommit) (name : List ℕ) (earlier : Option ℕ) → AreKept (named_commits commits) → is_unit_name name ≡ true
    → ((n : ℕ) → (earlier ≡ Some n → Contains (named_commits commits) (n, name)) × (Contains (named_commits commits) (n, name) → earlier ≡ Some n))
    → named_commits (others_of earlier commits) ≡ without name (named_commits commits)
others_are commits name None are unit is = sym (without_none name (named_commits commits) (by_case (list_any (is_of name) (named_commits commits)) refl))
  where
    by_case : (b : Bool) → list_any (is_of name) (named_commits commits) ≡ b → b ≡ false
    by_case false e = refl
    by_case true e =
        let d = any_member (is_of name) (named_commits commits) e in
        let same : d.0.1 ≡ name = folds_apart d.0.1 name (all_member (λ (c : Commit). is_unit_name c.1 ≡ true) (named_commits commits) d.0 are.units d.1) unit (sym (same_name _ _ d.2)) in
        let bad : None ≡ Some d.0.0 = (is d.0.0).1 (subst (Contains (named_commits commits)) (λ i. (d.0.0, same i)) d.1) in
        absurd (let never : ⊥ = cc in never)
others_are commits name (Some n) are unit is = filters_agree (λ (c : KeptCommit). not (c.number == n)) (λ c. not (is_of name c)) commits (λ c has. ap not (agree c (map_member named_commit commits c has)))
  where
    there : Contains (named_commits commits) (n, name)
    there = (is n).0 refl

    agree : (c : KeptCommit) → Contains (named_commits commits) (named_commit c) → (c.number == n) ≡ is_of name (named_commit c)
    agree c has = elim (cases_Bool (is_of name (named_commit c))) [
      | inl of_it ↦
          let same : unit_name c.unit ≡ name = folds_apart (unit_name c.unit) name (all_member (λ (e : Commit). is_unit_name e.1 ≡ true) (named_commits commits) (named_commit c) are.units has) unit (sym (same_name _ _ of_it)) in
          let some : Some n ≡ Some c.number = (is c.number).1 (subst (Contains (named_commits commits)) (λ i. (c.number, same i)) has) in
          let one : c.number ≡ n = cc in
          eq-eqb c.number n one ∙ sym of_it
      | inr other ↦ ne_eqb c.number n (λ e.
          let one : named_commit c ≡ (n, name) = rise_same (named_commits commits) are.rise (named_commit c) (n, name) has there e in
          false≢true (sym other ∙ ap (is_of name) one ∙ self name)) ∙ sym other
    ]
      where
        self : (name : List ℕ) → is_of name (n, name) ≡ true
        self name = name_self (folded name)

-- What is recorded

others_few : (commits : List KeptCommit) (earlier : Option ℕ) → length (others_of earlier commits) ≤ length commits
others_few commits None = omega arith
others_few commits (Some n) = fewer commits
  where
    fewer : (commits : List KeptCommit) → length (filter (λ (c : KeptCommit). not (c.number == n)) commits) ≤ length commits
    fewer [] = omega arith
    fewer (c ∷ commits) = by_case (fewer commits) (c.number == n)
      where
        by_case : length (filter (λ (c : KeptCommit). not (c.number == n)) commits) ≤ length commits → (b : Bool) → length (cond (not b) (c ∷ filter (λ (c : KeptCommit). not (c.number == n)) commits) (filter (λ (c : KeptCommit). not (c.number == n)) commits)) ≤ length (c ∷ commits)
        by_case rest true = omega (arith, rest)
        by_case rest false = omega (arith, rest)

pub others_most : (commits : List KeptCommit) (earlier : Option ℕ) → AreKept (named_commits commits) → length (others_of earlier commits) ≤ MOST_COMMITS
others_most commits earlier are =
    let few : length (named_commits commits) ≤ MOST_COMMITS = are.few in
    let long : length (named_commits commits) ≡ length commits = length-map commits named_commit in
    let fewer = others_few commits earlier in
    omega (arith, few, long, fewer)

named_drop : (n : ℕ) (commits : List KeptCommit) → named_commits (drop n commits) ≡ drop n (named_commits commits)
named_drop zero commits = refl
named_drop (suc n) [] = refl
named_drop (suc n) (c ∷ commits) = named_drop n commits

named_append : (xs ys : List KeptCommit) → named_commits (xs ++ ys) ≡ named_commits xs ++ named_commits ys
named_append [] ys = refl
named_append (x ∷ xs) ys = ap (λ l. named_commit x ∷ l) (named_append xs ys)

named_last : (commits : List KeptCommit) → named_commits (last_commits MOST_COMMITS commits) ≡ last_of MOST_COMMITS (named_commits commits)
named_last commits = named_drop (length commits - MOST_COMMITS) commits ∙ ap (λ n. drop (n - MOST_COMMITS) (named_commits commits)) (sym (length-map commits named_commit))

-- the commits that are kept of those before and one more
pub recorded : (old new : List KeptCommit) (c : KeptCommit) (earlier : Option ℕ) → AreKept (named_commits old)
    → ((n : ℕ) → (earlier ≡ Some n → Contains (named_commits old) (n, unit_name c.unit)) × (Contains (named_commits old) (n, unit_name c.unit) → earlier ≡ Some n))
    → new ≡ last_commits MOST_COMMITS (others_of earlier old ++ c ∷ []) → named_commits new ≡ kept (named_commits old ++ named_commit c ∷ [])
recorded old new c earlier are is e =
    ap named_commits e ∙ named_last (others_of earlier old ++ c ∷ []) ∙ ap (last_of MOST_COMMITS) (named_append (others_of earlier old) (c ∷ []) ∙ ap (λ l. l ++ named_commit c ∷ []) (others_are old (unit_name c.unit) earlier are (named c.unit) is))
    ∙ ap (last_of MOST_COMMITS) (sym (latest_with (named_commits old) (named_commit c) are.apart))
