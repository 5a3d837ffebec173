-- Commits in the order of their numbers.
use Rattle.std.proofs.Common.{◌≡◌, ◌≢◌, ◌⊎◌, inl, inr, ℕ, suc, ◌<◌, ◌≤◌, ◌==◌, Bool, true, false, not, ◌||◌, cond, List, [], ◌∷◌, map, length, Contains, nat_lt, refl, sym, ◌∙◌, ap, subst, arith}
use Rattle.std.specs.List.{AllByRecursion, list_all, list_any}
use Rattle.std.proofs.lemmas.Bool.{cases_Bool, ltb-true, ltb-false, and_parts, not-true, eqb-false}
use Rattle.conflicts.proofs.Members.{here, later, first_or_later, none_empty}
use Rattle.reg_names.specs.Names.{folded}
use Rattle.commit_outcomes.specs.Commits.{Commit, is_of, latest}
use Rattle.commit_outcomes.specs.Trees.{are_distinct}
use Rattle.commit_outcomes.proofs.Latest.{first_apart}
use Rattle.commit_outcomes.proofs.Values.{same_name}
use Rattle.commit_outcomes.proofs.Written.{Rise, rise_first, rise_cons, rise_none, all_member, all_weaker}

-- two commits with one number are one
pub rise_same : (commits : List Commit) → Rise commits → (d e : Commit) → Contains commits d → Contains commits e → d.0 ≡ e.0 → d ≡ e
rise_same [] rise d e has too same = absurd (none_empty d has)
rise_same (x ∷ commits) rise d e has too same =
    let parts = rise_first x commits rise in
    elim (first_or_later x commits d has) [
      | inl is ↦ elim (first_or_later x commits e too) [
        | inl also ↦ sym is ∙ also
        | inr there ↦ let lt = all_member (λ (c : Commit). x.0 < c.0) commits e parts.0 there in let n = ap (λ (c : Commit). c.0) is in absurd (omega (arith, lt, n, same))
      ]
      | inr there ↦ elim (first_or_later x commits e too) [
        | inl also ↦ let lt = all_member (λ (c : Commit). x.0 < c.0) commits d parts.0 there in let n = ap (λ (c : Commit). c.0) also in absurd (omega (arith, lt, n, same))
        | inr beside ↦ rise_same commits parts.1 d e there beside same
      ]
    ]

-- lists in order with the same commits are the same
pub rise_equal : (xs ys : List Commit) → Rise xs → Rise ys → ((c : Commit) → Contains xs c → Contains ys c) → ((c : Commit) → Contains ys c → Contains xs c) → xs ≡ ys
rise_equal [] [] rise sorted to from = refl
rise_equal [] (y ∷ ys) rise sorted to from = absurd (none_empty y (from y (here y ys)))
rise_equal (x ∷ xs) [] rise sorted to from = absurd (none_empty x (to x (here x xs)))
rise_equal (x ∷ xs) (y ∷ ys) rise sorted to from =
    let left = rise_first x xs rise in
    let right = rise_first y ys sorted in
    let same : x ≡ y = elim (first_or_later y ys x (to x (here x xs))) [
      | inl e ↦ sym e
      | inr there ↦ elim (first_or_later x xs y (from y (here y ys))) [
        | inl e ↦ e
        | inr beside ↦
            let up = all_member (λ (c : Commit). y.0 < c.0) ys x right.0 there in
            let down = all_member (λ (c : Commit). x.0 < c.0) xs y left.0 beside in
            absurd (omega (arith, up, down))
      ]
    ] in
    let rest = rise_equal xs ys left.1 right.1
    (λ c has. elim (first_or_later y ys c (to c (later x xs c has))) [
      | inl e ↦ let lt = all_member (λ (d : Commit). x.0 < d.0) xs c left.0 has in let n : x.0 ≡ c.0 = ap (λ (d : Commit). d.0) (same ∙ e) in absurd (omega (arith, lt, n))
      | inr there ↦ there
    ])
    (λ c has. elim (first_or_later x xs c (from c (later y ys c has))) [
      | inl e ↦ let lt = all_member (λ (d : Commit). y.0 < d.0) ys c right.0 has in let n : y.0 ≡ c.0 = ap (λ (d : Commit). d.0) (sym same ∙ e) in absurd (omega (arith, lt, n))
      | inr there ↦ there
    ]) in
    λ i. same i ∷ rest i

-- a test that some element passes
pub any_member : {X : Type 0} (p : X → Bool) (xs : List X) → list_any p xs ≡ true → (x : X) × Contains xs x × (p x ≡ true)
any_member p [] e = absurd (let never : ⊥ = cc in never)
any_member p (x ∷ xs) e = elim (cases_Bool (p x)) [
  | inl is ↦ (x, here x xs, is)
  | inr fails ↦ let rest = any_member p xs (sym (ap (λ b. b || list_any p xs) fails) ∙ e) in (rest.0, later x xs rest.0 rest.1, rest.2)
]

-- commits in order of which two of one unit are one are of units that differ
pub apart_from_rise : (commits : List Commit) → Rise commits → ((d e : Commit) → Contains commits d → Contains commits e → folded d.1 ≡ folded e.1 → d ≡ e) → latest commits ≡ commits
apart_from_rise [] rise one = refl
apart_from_rise (x ∷ commits) rise one =
    let parts = rise_first x commits rise in
    let rest = apart_from_rise commits parts.1 (λ d e has too same. one d e (later x commits d has) (later x commits e too) same) in
    elim (cases_Bool (list_any (is_of x.1) commits)) [
      | inr none ↦ first_apart x commits none rest
      | inl some ↦
          let d = any_member (is_of x.1) commits some in
          let is : x ≡ d.0 = one x d.0 (here x commits) (later x commits d.0 d.1) (same_name (folded x.1) (folded d.0.1) d.2) in
          let n : x.0 ≡ d.0.0 = ap (λ (c : Commit). c.0) is in
          let lt = all_member (λ (c : Commit). x.0 < c.0) commits d.0 parts.0 d.1 in
          absurd (omega (arith, lt, n))
    ]

-- Commits put in order

abbrev pub placed : Commit → List Commit → List Commit
placed c [] = c ∷ []
placed c (d ∷ commits) = cond (nat_lt c.0 d.0) (c ∷ d ∷ commits) (d ∷ placed c commits)

abbrev pub in_order : List Commit → List Commit
in_order [] = []
in_order (c ∷ commits) = placed c (in_order commits)

placed_all : (P : Commit → Type 0) (c : Commit) (commits : List Commit) → P c → AllByRecursion P commits → AllByRecursion P (placed c commits)
placed_all P c [] p all = (p, tt)
placed_all P c (d ∷ commits) p all = by_case (placed_all P c commits p all.1) (nat_lt c.0 d.0)
  where
    by_case : AllByRecursion P (placed c commits) → (b : Bool) → AllByRecursion P (cond b (c ∷ d ∷ commits) (d ∷ placed c commits))
    by_case rest true = (p, (all.0, all.1))
    by_case rest false = (all.0, rest)

pub ordered_all : (P : Commit → Type 0) (commits : List Commit) → AllByRecursion P commits → AllByRecursion P (in_order commits)
ordered_all P [] all = tt
ordered_all P (c ∷ commits) all = placed_all P c (in_order commits) all.0 (ordered_all P commits all.1)

placed_here : (c : Commit) (commits : List Commit) → Contains (placed c commits) c
placed_here c [] = here c []
placed_here c (d ∷ commits) = by_case (placed_here c commits) (nat_lt c.0 d.0)
  where
    by_case : Contains (placed c commits) c → (b : Bool) → Contains (cond b (c ∷ d ∷ commits) (d ∷ placed c commits)) c
    by_case rest true = here c (d ∷ commits)
    by_case rest false = later d (placed c commits) c rest

placed_later : (c : Commit) (commits : List Commit) (e : Commit) → Contains commits e → Contains (placed c commits) e
placed_later c [] e has = absurd (none_empty e has)
placed_later c (d ∷ commits) e has = by_case (λ there. placed_later c commits e there) (first_or_later d commits e has) (nat_lt c.0 d.0)
  where
    by_case : (Contains commits e → Contains (placed c commits) e) → (d ≡ e) ⊎ Contains commits e → (b : Bool) → Contains (cond b (c ∷ d ∷ commits) (d ∷ placed c commits)) e
    by_case rest o true = later c (d ∷ commits) e has
    by_case rest (inl is) false = subst (λ x. Contains (d ∷ placed c commits) x) is (here d (placed c commits))
    by_case rest (inr there) false = later d (placed c commits) e (rest there)

pub ordered_has : (commits : List Commit) (e : Commit) → Contains commits e → Contains (in_order commits) e
ordered_has [] e has = absurd (none_empty e has)
ordered_has (c ∷ commits) e has = elim (first_or_later c commits e has) [
  | inl is ↦ subst (λ x. Contains (placed c (in_order commits)) x) is (placed_here c (in_order commits))
  | inr there ↦ placed_later c (in_order commits) e (ordered_has commits e there)
]

members : {X : Type 0} (xs ys : List X) → ((x : X) → Contains xs x → Contains ys x) → AllByRecursion (Contains ys) xs
members [] ys f = tt
members (x ∷ xs) ys f = (f x (here x xs), members xs ys (λ z has. f z (later x xs z has)))

pub has_ordered : (commits : List Commit) (e : Commit) → Contains (in_order commits) e → Contains commits e
has_ordered commits e has = all_member (Contains commits) (in_order commits) e (ordered_all (Contains commits) commits (members commits commits (λ c there. there))) has

placed_length : (c : Commit) (commits : List Commit) → length (placed c commits) ≡ suc (length commits)
placed_length c [] = refl
placed_length c (d ∷ commits) = by_case (placed_length c commits) (nat_lt c.0 d.0)
  where
    by_case : length (placed c commits) ≡ suc (length commits) → (b : Bool) → length (cond b (c ∷ d ∷ commits) (d ∷ placed c commits)) ≡ suc (suc (length commits))
    by_case rest true = refl
    by_case rest false = ap suc rest

pub ordered_length : (commits : List Commit) → length (in_order commits) ≡ length commits
ordered_length [] = refl
ordered_length (c ∷ commits) = placed_length c (in_order commits) ∙ ap suc (ordered_length commits)

placed_rise : (c : Commit) (commits : List Commit) → Rise commits → AllByRecursion (λ (d : Commit). c.0 ≢ d.0) commits → Rise (placed c commits)
placed_rise c [] rise other = rise_cons c [] tt rise_none
placed_rise c (d ∷ commits) rise other =
    let parts = rise_first d commits rise in
    by_case parts.0 parts.1 (placed_rise c commits parts.1 other.1) (nat_lt c.0 d.0) refl
  where
    by_case : AllByRecursion (λ (e : Commit). d.0 < e.0) commits → Rise commits → Rise (placed c commits) → (b : Bool) → nat_lt c.0 d.0 ≡ b → Rise (cond b (c ∷ d ∷ commits) (d ∷ placed c commits))
    by_case above low rest true is =
        let lt : c.0 < d.0 = ltb-true c.0 d.0 is in
        rise_cons c (d ∷ commits) (lt, all_weaker (λ (e : Commit). d.0 < e.0) (λ (e : Commit). c.0 < e.0) commits (λ e more. omega (arith, lt, more)) above) rise
    by_case above low rest false is =
        let le : d.0 ≤ c.0 = ltb-false c.0 d.0 is in
        let apart : c.0 ≢ d.0 = other.0 in
        rise_cons d (placed c commits) (placed_all (λ (e : Commit). d.0 < e.0) c commits (omega (arith, le, apart)) above) rest

others : (n : ℕ) (commits : List Commit) → list_all (λ m. not (n == m)) (map (λ (c : Commit). c.0) commits) ≡ true → AllByRecursion (λ (d : Commit). n ≢ d.0) commits
others n [] e = tt
others n (d ∷ commits) e =
    let parts = and_parts (not (n == d.0)) (list_all (λ m. not (n == m)) (map (λ (c : Commit). c.0) commits)) e in
    (eqb-false n d.0 (not-true (n == d.0) parts.0), others n commits parts.1)

-- commits of which no two have one number rise then
pub ordered_rise : (commits : List Commit) → are_distinct (map (λ (c : Commit). c.0) commits) ≡ true → Rise (in_order commits)
ordered_rise [] e = rise_none
ordered_rise (c ∷ commits) e =
    let parts = and_parts (list_all (λ m. not (c.0 == m)) (map (λ (d : Commit). d.0) commits)) (are_distinct (map (λ (d : Commit). d.0) commits)) e in
    placed_rise c (in_order commits) (ordered_rise commits parts.1) (ordered_all (λ (d : Commit). c.0 ≢ d.0) commits (others c.0 commits parts.0))
