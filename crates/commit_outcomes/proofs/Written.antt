-- The commits after one that is written: those of other units, and this one. They are too many by one at most.
use Rattle.std.proofs.Common.{◌≡◌, ◌⊎◌, inl, inr, ℕ, suc, ◌+◌, ◌-◌, ◌<◌, ◌≤◌, ◌^◌, Bool, true, false, not, cond, List, [], ◌∷◌, ◌++◌, map, length, drop, Contains, Option, Some, None, option_map, nat_le, refl, sym, ◌∙◌, ap, subst, arith, length-append, le_of_eq}
use Rattle.std.specs.List.{AllByRecursion, filter, list_all}
use Rattle.std.specs.List.Sorted.{IsStrictlySortedBy}
use Rattle.std.specs.FinMap as finite
use Rattle.std.specs.Ordering.{nat_cmp}
use Rattle.std.specs.Cmp.{nat_cmp_is}
use Rattle.std.specs.declared.cmp.Ordering.TheVariants.{Less, Equal, Greater}
use Rattle.std.proofs.lemmas.Bool.{cases_lt, cases_order, le-leb, leb-true, lt-ltb, le-ltb}
use Rattle.reg_names.specs.Names.{folded}
use Rattle.reg_tree_parts.specs.declared.value.Value.{Value}
use Rattle.reg_tree_parts.specs.Rows.{ValueMap}
use Rattle.reg_tree_parts.proofs.Keys.{names_total, names_apart}
use Rattle.reg_tree_parts.specs.Orders.{name_order}
use Rattle.conflicts.proofs.Members.{here, later, first_or_later, none_empty}
use Rattle.commit_outcomes.specs.Units.{is_unit_name}
use Rattle.commit_outcomes.specs.Commits.{Commit, is_of, without, latest, last_of, kept, AreKept, AreUpTo}
use Rattle.commit_outcomes.specs.Trees.{commit_value, commit_of, values_of}
use Rattle.commit_outcomes.specs.Operations.{oldest, surplus}
use Rattle.commit_outcomes.specs.declared.commit_list.TheConstants.{MOST_COMMITS}
use Rattle.commit_outcomes.proofs.Latest.{latest_push, latest_again, rest_apart}
use Rattle.commit_outcomes.proofs.Numbers.{number_back}
use Rattle.commit_outcomes.proofs.Found.{all_values, value_passes, one_value}
use Rattle.commit_outcomes.proofs.Values.{look, get_look, look_has, has_look, len_values}

-- Lists

pub all_member : {X : Type 0} (P : X → Type 0) (xs : List X) (x : X) → AllByRecursion P xs → Contains xs x → P x
all_member P [] x all has = absurd (none_empty x has)
all_member P (y ∷ xs) x all has = elim (first_or_later y xs x has) [
  | inl e ↦ subst P e all.0
  | inr there ↦ all_member P xs x all.1 there
]

pub all_weaker : {X : Type 0} (P Q : X → Type 0) (xs : List X) → ((x : X) → P x → Q x) → AllByRecursion P xs → AllByRecursion Q xs
all_weaker P Q [] f all = tt
all_weaker P Q (x ∷ xs) f all = (f x all.0, all_weaker P Q xs f all.1)

pub all_push : {X : Type 0} (P : X → Type 0) (xs : List X) (x : X) → AllByRecursion P xs → P x → AllByRecursion P (xs ++ x ∷ [])
all_push P [] x all p = (p, tt)
all_push P (y ∷ xs) x all p = (all.0, all_push P xs x all.1 p)

pub all_filter : {X : Type 0} (P : X → Type 0) (p : X → Bool) (xs : List X) → AllByRecursion P xs → AllByRecursion P (filter p xs)
all_filter P p [] all = tt
all_filter P p (x ∷ xs) all = by_case (all_filter P p xs all.1) (p x)
  where
    by_case : AllByRecursion P (filter p xs) → (b : Bool) → AllByRecursion P (cond b (x ∷ filter p xs) (filter p xs))
    by_case rest true = (all.0, rest)
    by_case rest false = rest

-- Numbers that rise

pub less_is : (m n : ℕ) → nat_cmp m n ≡ Less → m < n
less_is m n e = elim (cases_order m n) [
  | inl same ↦ let c : Equal ≡ Less = nat_cmp_is m n Equal same ∙ e in absurd (let never : ⊥ = cc in never)
  | inr apart ↦ elim apart [
    | inl lt ↦ lt
    | inr gt ↦ let c : Greater ≡ Less = nat_cmp_is m n Greater gt ∙ e in absurd (let never : ⊥ = cc in never)
  ]
]

pub is_less : (m n : ℕ) → m < n → nat_cmp m n ≡ Less
is_less m n lt = sym (nat_cmp_is m n Less lt)

abbrev pub Rise : List Commit → Type 0
Rise commits = IsStrictlySortedBy nat_cmp (map (λ (c : Commit). c.0) commits)

above_of : (n : ℕ) (commits : List Commit) → AllByRecursion (λ m. nat_cmp n m ≡ Less) (map (λ (c : Commit). c.0) commits) → AllByRecursion (λ (c : Commit). n < c.0) commits
above_of n [] a = tt
above_of n (c ∷ commits) a = (less_is n c.0 a.0, above_of n commits a.1)

of_above : (n : ℕ) (commits : List Commit) → AllByRecursion (λ (c : Commit). n < c.0) commits → AllByRecursion (λ m. nat_cmp n m ≡ Less) (map (λ (c : Commit). c.0) commits)
of_above n [] a = tt
of_above n (c ∷ commits) a = (is_less n c.0 a.0, of_above n commits a.1)

pub rise_first : (c : Commit) (commits : List Commit) → Rise (c ∷ commits) → AllByRecursion (λ (d : Commit). c.0 < d.0) commits × Rise commits
unfolding IsStrictlySortedBy
rise_first c commits rise = (above_of c.0 commits rise.0, rise.1)

pub rise_cons : (c : Commit) (commits : List Commit) → AllByRecursion (λ (d : Commit). c.0 < d.0) commits → Rise commits → Rise (c ∷ commits)
unfolding IsStrictlySortedBy
rise_cons c commits above rise = (of_above c.0 commits above, rise)

pub rise_none : Rise []
unfolding IsStrictlySortedBy
rise_none = tt

pub rise_filter : (p : Commit → Bool) (commits : List Commit) → Rise commits → Rise (filter p commits)
rise_filter p [] rise = rise_none
rise_filter p (c ∷ commits) rise =
    let parts = rise_first c commits rise in
    by_case (all_filter (λ (d : Commit). c.0 < d.0) p commits parts.0) (rise_filter p commits parts.1) (p c)
  where
    by_case : AllByRecursion (λ (d : Commit). c.0 < d.0) (filter p commits) → Rise (filter p commits) → (b : Bool) → Rise (cond b (c ∷ filter p commits) (filter p commits))
    by_case above rest true = rise_cons c (filter p commits) above rest
    by_case above rest false = rest

pub rise_push : (commits : List Commit) (c : Commit) → Rise commits → AllByRecursion (λ (d : Commit). d.0 < c.0) commits → Rise (commits ++ c ∷ [])
rise_push [] c rise below = rise_cons c [] tt rise_none
rise_push (d ∷ commits) c rise below =
    let parts = rise_first d commits rise in
    rise_cons d (commits ++ c ∷ []) (all_push (λ (e : Commit). d.0 < e.0) commits c parts.0 below.0) (rise_push commits c parts.1 below.1)

-- The commits after one that is written

-- their numbers rise, and each is of a unit of its own
pub record Stand (commits : List Commit) : Type 0 where
  pub rise : Rise commits
  pub units : AllByRecursion (λ (c : Commit). is_unit_name c.1 ≡ true) commits
  pub apart : latest commits ≡ commits

abbrev pub with_one : List Commit → Commit → List Commit
with_one commits c = without c.1 commits ++ c ∷ []

pub latest_with : (commits : List Commit) (c : Commit) → latest commits ≡ commits → latest (commits ++ c ∷ []) ≡ with_one commits c
latest_with commits c apart = latest_push commits c ∙ ap (λ l. without c.1 l ++ c ∷ []) apart

pub apart_with : (commits : List Commit) (c : Commit) → latest commits ≡ commits → latest (with_one commits c) ≡ with_one commits c
apart_with commits c apart = ap latest (sym (latest_with commits c apart)) ∙ latest_again (commits ++ c ∷ []) ∙ latest_with commits c apart

pub stand_with : (commits : List Commit) (c : Commit) → AreKept commits → is_unit_name c.1 ≡ true → AllByRecursion (λ (d : Commit). d.0 < c.0) commits → Stand (with_one commits c)
stand_with commits c are unit below = record {
  rise = rise_push (without c.1 commits) c (rise_filter _ commits are.rise) (all_filter (λ (d : Commit). d.0 < c.0) _ commits below);
  units = all_push (λ (d : Commit). is_unit_name d.1 ≡ true) (without c.1 commits) c (all_filter (λ (d : Commit). is_unit_name d.1 ≡ true) _ commits are.units) unit;
  apart = apart_with commits c are.apart;
}

pub stand_rest : (x : Commit) (commits : List Commit) → Stand (x ∷ commits) → Stand commits
stand_rest x commits stand = record { rise = (rise_first x commits stand.rise).1; units = stand.units.1; apart = (rest_apart x commits stand.apart).1 }

pub are_kept : (commits : List Commit) → Stand commits → AllByRecursion (λ (c : Commit). 0 < c.0) commits → length commits ≤ MOST_COMMITS → AreKept commits
are_kept commits stand above few = record { rise = stand.rise; above = above; units = stand.units; apart = stand.apart; few = few }

pub up_to_with : (commits : List Commit) (c : Commit) → AllByRecursion (λ (d : Commit). d.0 < c.0) commits → AreUpTo c.0 (with_one commits c)
up_to_with commits c below = all_push (λ (d : Commit). d.0 ≤ c.0) (without c.1 commits) c (all_filter (λ (d : Commit). d.0 ≤ c.0) _ commits (all_weaker (λ (d : Commit). d.0 < c.0) (λ (d : Commit). d.0 ≤ c.0) commits (λ d lt. omega (arith, lt)) below)) (omega arith)

without_length : (name : List ℕ) (commits : List Commit) → length (without name commits) ≤ length commits
without_length name [] = omega arith
without_length name (x ∷ commits) = by_case (without_length name commits) (is_of name x)
  where
    by_case : length (without name commits) ≤ length commits → (b : Bool) → length (cond (not b) (x ∷ without name commits) (without name commits)) ≤ length (x ∷ commits)
    by_case rest true = omega (arith, rest)
    by_case rest false = omega (arith, rest)

pub length_with : (commits : List Commit) (c : Commit) → length commits ≤ MOST_COMMITS → length (with_one commits c) ≤ MOST_COMMITS + 1
length_with commits c few =
    let long : length (with_one commits c) ≡ length (without c.1 commits) + 1 = length-append (without c.1 commits) (c ∷ []) in
    omega (arith, few, long, without_length c.1 commits)

-- The oldest of them

-- the commit of a value that is found
pub value_found : (commits : List Commit) (q : List ℕ) (v : Value) → finite.get (values_of commits) q ≡ Some v → (d : Commit) × Contains commits d × (folded d.1 ≡ q) × (commit_value d ≡ v)
value_found commits q v found = by_case (look q commits) refl
  where
    by_case : (o : Option Commit) → look q commits ≡ o → (d : Commit) × Contains commits d × (folded d.1 ≡ q) × (commit_value d ≡ v)
    by_case None e = let none : None ≡ Some v = sym (get_look commits q ∙ ap (option_map commit_value) e) ∙ found in absurd (let never : ⊥ = cc in never)
    by_case (Some d) e =
        let has = look_has q commits d e in
        let some : Some (commit_value d) ≡ Some v = sym (get_look commits q ∙ ap (option_map commit_value) e) ∙ found in
        let same : commit_value d ≡ v = cc in
        (d, has.0, has.1, same)

pub value_of_member : (commits : List Commit) (c : Commit) → latest commits ≡ commits → Contains commits c → finite.get (values_of commits) (folded c.1) ≡ Some (commit_value c)
value_of_member commits c apart has = get_look commits (folded c.1) ∙ ap (option_map commit_value) (has_look commits c apart has)

pub number_of : (c : Commit) → c.0 < 2 ^ 64 → (commit_of (commit_value c)).0 ≡ c.0
number_of c fits = number_back c.0 fits

pub oldest_is : (x : Commit) (commits : List Commit) → Stand (x ∷ commits) → AllByRecursion (λ (d : Commit). d.0 < 2 ^ 64) (x ∷ commits) → oldest (finite.values (values_of (x ∷ commits))) ≡ commit_value x ∷ []
oldest_is x commits stand fits =
    one_value name_order names_total names_apart values p (folded x.1) (commit_value x)
    (value_of_member all x stand.apart (here x commits))
    (all_values name_order names_total names_apart values (λ w. nat_le (commit_of (commit_value x)).0 (commit_of w).0) (λ k w found. least k w (value_found all k w found)))
    (λ j y found passes. unique j y found (value_passes name_order names_total names_apart values (λ w. nat_le (commit_of y).0 (commit_of w).0) passes (folded x.1) (commit_value x) (value_of_member all x stand.apart (here x commits))) (value_found all j y found))
  where
    all : List Commit
    all = x ∷ commits

    values : ValueMap
    values = values_of (x ∷ commits)

    p : Value → Bool
    p v = list_all (λ w. nat_le (commit_of v).0 (commit_of w).0) (finite.values (values_of (x ∷ commits)))

    above : AllByRecursion (λ (d : Commit). x.0 < d.0) commits
    above = (rise_first x commits stand.rise).0

    least : (k : List ℕ) (w : Value) → (d : Commit) × Contains (x ∷ commits) d × (folded d.1 ≡ k) × (commit_value d ≡ w) → nat_le (commit_of (commit_value x)).0 (commit_of w).0 ≡ true
    least k w (d, has, name, is) =
        let here_is : (commit_of (commit_value x)).0 ≡ x.0 = number_of x fits.0 in
        let there_is : (commit_of w).0 ≡ d.0 = ap (λ v. (commit_of v).0) (sym is) ∙ number_of d (all_member (λ (e : Commit). e.0 < 2 ^ 64) (x ∷ commits) d fits has) in
        let le : x.0 ≤ d.0 = elim (first_or_later x commits d has) [
          | inl e ↦ let n = ap (λ (c : Commit). c.0) e in omega (arith, n)
          | inr later ↦ let lt = all_member (λ (e : Commit). x.0 < e.0) commits d above later in omega (arith, lt)
        ] in
        le-leb (commit_of (commit_value x)).0 (commit_of w).0 (omega (arith, here_is, there_is, le))

    unique : (j : List ℕ) (y : Value) → finite.get (values_of (x ∷ commits)) j ≡ Some y → nat_le (commit_of y).0 (commit_of (commit_value x)).0 ≡ true → (d : Commit) × Contains (x ∷ commits) d × (folded d.1 ≡ j) × (commit_value d ≡ y) → j ≡ folded x.1
    unique j y found passes (d, has, name, is) =
        let le : (commit_of y).0 ≤ (commit_of (commit_value x)).0 = leb-true (commit_of y).0 (commit_of (commit_value x)).0 passes in
        let here_is : (commit_of (commit_value x)).0 ≡ x.0 = number_of x fits.0 in
        let there_is : (commit_of y).0 ≡ d.0 = ap (λ v. (commit_of v).0) (sym is) ∙ number_of d (all_member (λ (e : Commit). e.0 < 2 ^ 64) (x ∷ commits) d fits has) in
        elim (first_or_later x commits d has) [
          | inl e ↦ sym name ∙ ap (λ (c : Commit). folded c.1) (sym e)
          | inr later ↦ let lt = all_member (λ (e : Commit). x.0 < e.0) commits d above later in absurd (omega (arith, le, here_is, there_is, lt))
        ]

-- What is written: as many as may be, or one more, of which the first goes

pub record AreFew (commits : List Commit) (c : Commit) : Type 0 where
  pub none : surplus (values_of (with_one commits c)) ≡ []
  pub kept_are : kept (commits ++ c ∷ []) ≡ with_one commits c
  pub few : length (with_one commits c) ≤ MOST_COMMITS

pub record AreMany (commits : List Commit) (c : Commit) : Type 0 where
  pub first : Commit
  pub rest : List Commit
  pub whole : with_one commits c ≡ first ∷ rest
  pub one : surplus (values_of (with_one commits c)) ≡ commit_value first ∷ []
  pub kept_are : kept (commits ++ c ∷ []) ≡ rest
  pub full : length rest ≡ MOST_COMMITS

pub fits_with : (commits : List Commit) (c : Commit) → AllByRecursion (λ (d : Commit). d.0 < c.0) commits → c.0 < 2 ^ 64 → AllByRecursion (λ (d : Commit). d.0 < 2 ^ 64) (with_one commits c)
fits_with commits c below fits = all_push (λ (d : Commit). d.0 < 2 ^ 64) (without c.1 commits) c (all_filter (λ (d : Commit). d.0 < 2 ^ 64) _ commits (all_weaker (λ (d : Commit). d.0 < c.0) (λ (d : Commit). d.0 < 2 ^ 64) commits (λ d lt. omega (arith, lt, fits)) below)) fits

above_with : (commits : List Commit) (c : Commit) → AreKept commits → 0 < c.0 → AllByRecursion (λ (d : Commit). 0 < d.0) (with_one commits c)
above_with commits c are above = all_push (λ (d : Commit). 0 < d.0) (without c.1 commits) c (all_filter (λ (d : Commit). 0 < d.0) _ commits are.above) above

pub few_or_many : (commits : List Commit) (c : Commit) → AreKept commits → is_unit_name c.1 ≡ true → AllByRecursion (λ (d : Commit). d.0 < c.0) commits → c.0 < 2 ^ 64 → AreFew commits c ⊎ AreMany commits c
few_or_many commits c are unit below fits = elim (cases_lt MOST_COMMITS (length (with_one commits c))) [
  | inr few ↦ inl (record {
    none = ap (λ b. cond b (oldest (finite.values (values_of (with_one commits c)))) []) (le-ltb MOST_COMMITS (finite.len (values_of (with_one commits c))) (omega (arith, few, count)));
    kept_are = kept_is ∙ (let e : length (with_one commits c) - MOST_COMMITS ≡ 0 = omega (arith, few) in ap (λ k. drop k (with_one commits c)) e);
    few = few;
  })
  | inl many ↦ inr (split (with_one commits c) refl many)
]
  where
    count : finite.len (values_of (with_one commits c)) ≡ length (with_one commits c)
    count = len_values (with_one commits c) (apart_with commits c are.apart)

    kept_is : kept (commits ++ c ∷ []) ≡ last_of MOST_COMMITS (with_one commits c)
    kept_is = ap (last_of MOST_COMMITS) (latest_with commits c are.apart)

    split : (all : List Commit) → with_one commits c ≡ all → MOST_COMMITS < length all → AreMany commits c
    split [] e many = absurd (omega (arith, many))
    split (x ∷ rest) e many =
        let most : length (with_one commits c) ≤ MOST_COMMITS + 1 = length_with commits c are.few in
        let long : length (with_one commits c) ≡ suc (length rest) = ap length e in
        let one_out : suc (length rest) - MOST_COMMITS ≡ 1 = omega (arith, most, long, many) in
        record {
          first = x;
          rest = rest;
          whole = e;
          one = ap (λ b. cond b (oldest (finite.values (values_of (with_one commits c)))) []) (lt-ltb MOST_COMMITS (finite.len (values_of (with_one commits c))) (omega (arith, count, long, many)))
              ∙ ap (λ l. oldest (finite.values (values_of l))) e ∙ oldest_is x rest (subst Stand e (stand_with commits c are unit below)) (subst (λ l. AllByRecursion (λ (d : Commit). d.0 < 2 ^ 64) l) e (fits_with commits c below fits));
          kept_are = kept_is ∙ ap (last_of MOST_COMMITS) e ∙ ap (λ k. drop k (x ∷ rest)) one_out;
          full = omega (arith, most, long, many);
        }

-- They may be kept, and none has a number above this one's
pub kept_stand : (commits : List Commit) (c : Commit) → AreKept commits → is_unit_name c.1 ≡ true → AllByRecursion (λ (d : Commit). d.0 < c.0) commits → 0 < c.0 → c.0 < 2 ^ 64
    → AreKept (kept (commits ++ c ∷ [])) × AreUpTo c.0 (kept (commits ++ c ∷ []))
kept_stand commits c are unit below above fits =
    let stand = stand_with commits c are unit below in
    let high = above_with commits c are above in
    let most = up_to_with commits c below in
    elim (few_or_many commits c are unit below fits) [
      | inl few ↦ subst (λ l. AreKept l × AreUpTo c.0 l) (sym few.kept_are) (are_kept (with_one commits c) stand high few.few, most)
      | inr many ↦
          let low = subst (λ l. AllByRecursion (λ (d : Commit). 0 < d.0) l) many.whole high in
          let up = subst (λ l. AreUpTo c.0 l) many.whole most in
          subst (λ l. AreKept l × AreUpTo c.0 l) (sym many.kept_are) (are_kept many.rest (stand_rest many.first many.rest (subst Stand many.whole stand)) low.1 (le_of_eq many.full), up.1)
    ]
