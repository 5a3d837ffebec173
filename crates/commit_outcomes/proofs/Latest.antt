-- Which commits are kept: the last one of each unit, and of these the last ones.
use Rattle.std.proofs.Common.{◌≡◌, inl, inr, ℕ, zero, suc, ◌+◌, ◌-◌, ◌≤◌, Bool, true, false, not, ◌||◌, cond, List, [], ◌∷◌, ◌++◌, length, take, drop, refl, sym, ◌∙◌, ap, arith, length-append, length-drop, take-append-drop, append_assoc}
use Rattle.std.specs.List.{list_any}
use Rattle.std.specs.Cmp.{eq_by_cmp_equiv}
use Rattle.std.proofs.lemmas.Bool.{cases_lt, cases_Bool, or_parts}
use Rattle.std.proofs.lemmas.List.Folds.{list_any-append}
use Rattle.std.proofs.lemmas.List.Elements.{filter-append}
use Rattle.std.proofs.Math.Seq.{drop-append-add}
use Rattle.reg_names.specs.Names.{folded}
use Rattle.reg_tree_parts.proofs.Keys.{names_total}
use Rattle.commit_outcomes.specs.Commits.{Commit, is_of, without, latest, last_of, kept}
use Rattle.commit_outcomes.specs.declared.commit_list.TheConstants.{MOST_COMMITS}

-- two commits are of one unit whichever is asked first
pub of_each_other : (a b : Commit) → is_of a.1 b ≡ is_of b.1 a
of_each_other a b = (eq_by_cmp_equiv names_total).symm (folded a.1) (folded b.1)

-- commits of one unit are of the same units
pub of_same : (name : List ℕ) (a b : Commit) → is_of name a ≡ true → is_of name b ≡ is_of a.1 b
of_same name a b e = (eq_by_cmp_equiv names_total).congr (folded name) (folded a.1) (folded b.1) e

-- one more commit takes the place of its unit's
pub latest_push : (commits : List Commit) (c : Commit) → latest (commits ++ c ∷ []) ≡ without c.1 (latest commits) ++ c ∷ []
latest_push [] c = refl
latest_push (x ∷ commits) c =
    ap (λ b. cond b (latest (commits ++ c ∷ [])) (x ∷ latest (commits ++ c ∷ []))) (list_any-append (is_of x.1) commits (c ∷ []))
    ∙ ap (λ l. cond (list_any (is_of x.1) commits || (is_of x.1 c || false)) l (x ∷ l)) (latest_push commits c)
    ∙ by_case (list_any (is_of x.1) commits) (is_of x.1 c) (of_each_other c x)
  where
    by_case : (a b : Bool) → is_of c.1 x ≡ b
        → cond (a || (b || false)) (without c.1 (latest commits) ++ c ∷ []) (x ∷ without c.1 (latest commits) ++ c ∷ []) ≡ without c.1 (cond a (latest commits) (x ∷ latest commits)) ++ c ∷ []
    by_case true b is = refl
    by_case false true is = sym (ap (λ d. cond (not d) (x ∷ without c.1 (latest commits)) (without c.1 (latest commits)) ++ c ∷ []) is)
    by_case false false is = sym (ap (λ d. cond (not d) (x ∷ without c.1 (latest commits)) (without c.1 (latest commits)) ++ c ∷ []) is)

pub latest_most : (commits : List Commit) → length (latest commits) ≤ length commits
latest_most [] = omega arith
latest_most (x ∷ commits) = by_case (latest_most commits) (list_any (is_of x.1) commits)
  where
    by_case : length (latest commits) ≤ length commits → (b : Bool) → length (cond b (latest commits) (x ∷ latest commits)) ≤ length (x ∷ commits)
    by_case rest true = omega (arith, rest)
    by_case rest false = omega (arith, rest)

-- of commits of units that differ none after the first is of its unit, and the rest are so too
pub rest_apart : (x : Commit) (commits : List Commit) → latest (x ∷ commits) ≡ x ∷ commits → (list_any (is_of x.1) commits ≡ false) × (latest commits ≡ commits)
rest_apart x commits e = by_case (list_any (is_of x.1) commits) refl e
  where
    by_case : (b : Bool) → list_any (is_of x.1) commits ≡ b → cond b (latest commits) (x ∷ latest commits) ≡ x ∷ commits → (list_any (is_of x.1) commits ≡ false) × (latest commits ≡ commits)
    by_case true is same = absurd (omega (arith, latest_most commits, ap length same))
    by_case false is same = let tail : latest commits ≡ commits = cc in (is, tail)

pub first_apart : (x : Commit) (commits : List Commit) → list_any (is_of x.1) commits ≡ false → latest commits ≡ commits → latest (x ∷ commits) ≡ x ∷ commits
first_apart x commits none e = ap (λ b. cond b (latest commits) (x ∷ latest commits)) none ∙ ap (λ l. x ∷ l) e

pub drop_apart : (n : ℕ) (commits : List Commit) → latest commits ≡ commits → latest (drop n commits) ≡ drop n commits
drop_apart zero commits e = e
drop_apart (suc n) [] e = e
drop_apart (suc n) (x ∷ commits) e = drop_apart n commits (rest_apart x commits e).1

any_latest : (p : Commit → Bool) (commits : List Commit) → list_any p commits ≡ false → list_any p (latest commits) ≡ false
any_latest p [] e = refl
any_latest p (x ∷ commits) e =
    let parts = or_parts (p x) (list_any p commits) e in
    by_case parts.0 (any_latest p commits parts.1) (list_any (is_of x.1) commits)
  where
    by_case : p x ≡ false → list_any p (latest commits) ≡ false → (b : Bool) → list_any p (cond b (latest commits) (x ∷ latest commits)) ≡ false
    by_case first rest true = rest
    by_case first rest false = ap (λ b. b || list_any p (latest commits)) first ∙ rest

pub latest_again : (commits : List Commit) → latest (latest commits) ≡ latest commits
latest_again [] = refl
latest_again (x ∷ commits) = by_case (latest_again commits) (list_any (is_of x.1) commits) refl
  where
    by_case : latest (latest commits) ≡ latest commits → (b : Bool) → list_any (is_of x.1) commits ≡ b → latest (cond b (latest commits) (x ∷ latest commits)) ≡ cond b (latest commits) (x ∷ latest commits)
    by_case rest true is = rest
    by_case rest false is = first_apart x (latest commits) (any_latest (is_of x.1) commits is) rest

-- commits that are not of a unit stay without it
pub without_none : (name : List ℕ) (commits : List Commit) → list_any (is_of name) commits ≡ false → without name commits ≡ commits
without_none name [] e = refl
without_none name (x ∷ commits) e =
    let parts = or_parts (is_of name x) (list_any (is_of name) commits) e in
    ap (λ b. cond (not b) (x ∷ without name commits) (without name commits)) parts.0 ∙ ap (λ l. x ∷ l) (without_none name commits parts.1)

any_same : (name : List ℕ) (x : Commit) (commits : List Commit) → is_of name x ≡ true → list_any (is_of name) commits ≡ list_any (is_of x.1) commits
any_same name x [] e = refl
any_same name x (y ∷ commits) e = λ i. of_same name x y e i || any_same name x commits e i

-- of commits of units that differ one at most is of a unit: it is the first, or stands after it
pub without_first : (name : List ℕ) (x : Commit) (commits : List Commit) → latest (x ∷ commits) ≡ x ∷ commits → is_of name x ≡ true → without name (x ∷ commits) ≡ commits
without_first name x commits e is =
    ap (λ b. cond (not b) (x ∷ without name commits) (without name commits)) is
    ∙ without_none name commits (any_same name x commits is ∙ (rest_apart x commits e).0)

pub without_later : (name : List ℕ) (x : Commit) (commits : List Commit) → is_of name x ≡ false → without name (x ∷ commits) ≡ x ∷ without name commits
without_later name x commits is = ap (λ b. cond (not b) (x ∷ without name commits) (without name commits)) is

pub without_most : (name : List ℕ) (commits : List Commit) → latest commits ≡ commits → length commits ≤ length (without name commits) + 1
without_most name [] e = omega arith
without_most name (x ∷ commits) e = elim (cases_Bool (is_of name x)) [
  | inl is ↦ let l = ap length (without_first name x commits e is) in omega (arith, l)
  | inr is ↦
      let l = ap length (without_later name x commits is) in
      let rest = without_most name commits (rest_apart x commits e).1 in
      omega (arith, l, rest)
]

-- if the later part is long enough, the last ones are among it
pub last_of-append : (n : ℕ) (xs ys : List Commit) → n ≤ length ys → last_of n (xs ++ ys) ≡ last_of n ys
last_of-append n xs ys most =
    let long : length (xs ++ ys) ≡ length xs + length ys = length-append xs ys in
    let e : length (xs ++ ys) - n ≡ length xs + (length ys - n) = omega (arith, long, most) in
    ap (λ k. drop k (xs ++ ys)) e ∙ drop-append-add xs ys (length ys - n)

pub last_of-all : (n : ℕ) (xs : List Commit) → length xs ≤ n → last_of n xs ≡ xs
last_of-all n xs most = let e : length xs - n ≡ 0 = omega (arith, most) in ap (λ k. drop k xs) e

-- What is kept of the last ones and one more is kept of all and this one
kept_more : (n : ℕ) (all : List Commit) (c : Commit) → latest all ≡ all
    → last_of n (without c.1 (last_of n all) ++ c ∷ []) ≡ last_of n (without c.1 all ++ c ∷ [])
kept_more n all c apart = elim (cases_lt n (length all)) [
  | inr few ↦ ap (λ l. last_of n (without c.1 l ++ c ∷ [])) (last_of-all n all few)
  | inl many ↦
      let k = length all - n in
      let last = drop k all in
      let long : length last ≡ length all - k = length-drop k all in
      let most : length last ≤ length (without c.1 last) + 1 = without_most c.1 last (drop_apart k all apart) in
      let more : length (without c.1 last ++ c ∷ []) ≡ length (without c.1 last) + 1 = length-append (without c.1 last) (c ∷ []) in
      sym (ap (λ l. last_of n (without c.1 l ++ c ∷ [])) (sym (take-append-drop k all))
      ∙ ap (λ l. last_of n (l ++ c ∷ [])) (filter-append _ (take k all) last)
      ∙ ap (last_of n) (append_assoc (without c.1 (take k all)) (without c.1 last) (c ∷ []))
      ∙ last_of-append n (without c.1 (take k all)) (without c.1 last ++ c ∷ []) (omega (arith, many, long, most, more)))
]

pub kept_in_turn : (commits : List Commit) (c : Commit) → kept (kept commits ++ c ∷ []) ≡ kept (commits ++ c ∷ [])
kept_in_turn commits c =
    ap (last_of MOST_COMMITS) (latest_push (kept commits) c ∙ ap (λ l. without c.1 l ++ c ∷ []) (drop_apart (length (latest commits) - MOST_COMMITS) (latest commits) (latest_again commits)))
    ∙ kept_more MOST_COMMITS (latest commits) c (latest_again commits)
    ∙ ap (last_of MOST_COMMITS) (sym (latest_push commits c))
