-- The last change that names a hive, as changes are counted in.
use Rattle.std.proofs.Common.{◌≡◌, ◌≢◌, inl, inr, ℕ, zero, suc, ◌+◌, ◌-◌, ◌<◌, ◌≤◌, ◌||◌, Bool, true, false, cond, List, [], ◌∷◌, ◌++◌, length, map, take, drop, refl, sym, ◌∙◌, ap, subst, append_assoc, arith, Option, Some, None, get_or, slice_get, option_map}
use Rattle.std.specs.Prelude.{eqb, replicate, slice_set}
use Rattle.std.specs.List.{list_any}
use Rattle.std.proofs.lemmas.Bool.Decides.{nat_tests}
use Rattle.std.proofs.lemmas.Bool.{eqb-true, true≢false}
use Rattle.std.proofs.lemmas.List.Folds.{list_any-append}
use Rattle.std.proofs.lemmas.List.{append-nil, length-append, length-set, take-append-le, take_all}
use Rattle.std.proofs.lemmas.Option.{none-some, same_Some, slice_get_read, slice_get-get_or}
use Rattle.std.proofs.Math.ListN.{drop_of_length-le}
use Rattle.reg_tree.specs.Operations.{hive_of}
use Rattle.reg_tree.specs.declared.op.Op.{Op}
use Rattle.reg_tree.specs.declared.element.Element.{Element}
use Rattle.crash_model.specs.Changes as law
use Rattle.crash_model.specs.Changes.{on_hive, ops_on}
use Rattle.crash_model.proofs.Replays.{ops_on-append}
use Rattle.crash_model.proofs.Lists.{drop_nil, first_nil}
use Rattle.change_codec.specs.ModelChanges.{TimedOp, timed, timed_element}
use Rattle.commit_journal.specs.LastChangePerHive.{names, IsLastIn, AreLastIn}

-- An entry of a list

pub at_place : {H : Type 0} (hs : List H) (k : ℕ) (h : H) → k < length hs → h ≡ get_or hs k h → slice_get hs k ≡ Some h
at_place hs k h lt e = slice_get_read hs (length hs) k h refl lt e

get_same : {A : Type 0} (hs : List A) (i : ℕ) (v : A) → i < length hs → slice_get (slice_set hs i v) i ≡ Some v
get_same [] i v lt = absurd (omega (arith, lt))
get_same (h ∷ hs) zero v lt = refl
get_same (h ∷ hs) (suc i) v lt = get_same hs i v (omega (arith, lt))

get_other : {A : Type 0} (hs : List A) (i j : ℕ) (v : A) → j ≢ i → slice_get (slice_set hs i v) j ≡ slice_get hs j
get_other [] i j v ne = refl
get_other (h ∷ hs) zero zero v ne = absurd (ne refl)
get_other (h ∷ hs) zero (suc j) v ne = refl
get_other (h ∷ hs) (suc i) zero v ne = refl
get_other (h ∷ hs) (suc i) (suc j) v ne = get_other hs i j v (λ e. ne (ap suc e))

-- Whether an operation is on a hive

pub unnamed : (i moment : ℕ) (ops : List Op) → names i ops ≡ false → on_hive i (map (timed moment) ops) ≡ []
unnamed i moment [] e = refl
unnamed i moment (op ∷ ops) e = by_case (eqb (hive_of op) i) (λ f. unnamed i moment ops f) e
  where
    by_case : (b : Bool) → (names i ops ≡ false → on_hive i (map (timed moment) ops) ≡ []) → (b || names i ops) ≡ false → cond b ((moment, op) ∷ on_hive i (map (timed moment) ops)) (on_hive i (map (timed moment) ops)) ≡ []
    by_case true rest f = absurd cc
    by_case false rest f = rest f

pub named : (i moment : ℕ) (ops : List Op) → names i ops ≡ true → on_hive i (map (timed moment) ops) ≡ [] → ⊥
named i moment [] e none = absurd cc
named i moment (op ∷ ops) e none = by_case (eqb (hive_of op) i) (λ f n. named i moment ops f n) e none
  where
    by_case : (b : Bool) → (names i ops ≡ true → on_hive i (map (timed moment) ops) ≡ [] → ⊥) → (b || names i ops) ≡ true → cond b ((moment, op) ∷ on_hive i (map (timed moment) ops)) (on_hive i (map (timed moment) ops)) ≡ [] → ⊥
    by_case true rest f none = omega (arith, ap length none)
    by_case false rest f none = rest f none

-- One more change

module _ (base : ℕ) (known : List (law.Element TimedOp)) (e : law.Element TimedOp) (i : ℕ) where
  one_of : on_hive i e ≡ [] → ops_on i (e ∷ []) ≡ []
  one_of none = ap (λ (os : List TimedOp). os ++ []) none

  -- after some of the changes and one more
  pub drop_more : (k : ℕ) (xs : List (law.Element TimedOp)) → on_hive i e ≡ [] → ops_on i (drop k xs) ≡ [] → ops_on i (drop k (xs ++ e ∷ [])) ≡ []
  drop_more zero xs none before = ops_on-append i xs (e ∷ []) ∙ ap (λ (os : List TimedOp). os ++ ops_on i (e ∷ [])) before ∙ one_of none
  drop_more (suc k) [] none before = ap (ops_on i) (drop_nil {A = law.Element TimedOp} k)
  drop_more (suc k) (x ∷ xs) none before = drop_more k xs none before

  -- an operation that is there stays there
  drop_some : (k : ℕ) (xs : List (law.Element TimedOp)) → (ops_on i (drop k xs) ≡ [] → ⊥) → ops_on i (drop k (xs ++ e ∷ [])) ≡ [] → ⊥
  drop_some zero xs some none = some (first_nil (ops_on i xs) (ops_on i (e ∷ [])) (sym (ops_on-append i xs (e ∷ [])) ∙ none))
  drop_some (suc k) [] some none = some refl
  drop_some (suc k) (x ∷ xs) some none = drop_some k xs some none

  drop_front : (xs : List (law.Element TimedOp)) → drop (length xs) (xs ++ e ∷ []) ≡ e ∷ []
  drop_front [] = refl
  drop_front (x ∷ xs) = drop_front xs

  stays_last : (m : ℕ) → on_hive i e ≡ [] → IsLastIn base known i m → IsLastIn base (known ++ e ∷ []) i m
  stays_last m none last = record { none_after = drop_more (m - base) known none last.none_after; named = elim (last.named) [ inl z ↦ inl z | inr s ↦ inr (s.0, drop_some (m - 1 - base) known s.1) ] }

  is_last : (on_hive i e ≡ [] → ⊥) → (m : ℕ) → m ≡ base + length known + 1 → IsLastIn base (known ++ e ∷ []) i m
  is_last some m is = record {
    none_after = ap (ops_on i) (drop_of_length-le (known ++ e ∷ []) (omega (arith, is, length-append known (e ∷ []))));
    named = inr (omega (arith, is), λ none. some (first_nil (on_hive i e) [] (sym (ap (ops_on i) (ap (λ n. drop n (known ++ e ∷ [])) at ∙ drop_front known)) ∙ none)));
  }
    where
      at : m - 1 - base ≡ length known
      at = omega (arith, is)

-- all hives
pub one_counted : (base : ℕ) (known : List (law.Element TimedOp)) (change : Element) (number : ℕ) (old new : List ℕ) → number ≡ base + length known + 1
    → ((i : ℕ) → slice_get new i ≡ option_map (λ m. cond (names i change.ops) number m) (slice_get old i)) → AreLastIn base known old → AreLastIn base (known ++ timed_element change ∷ []) new
one_counted base known change number old new numbered each last i m is = by_slot (slice_get old i) refl (sym (each i) ∙ is)
  where
    by_name : (k : ℕ) (b : Bool) → names i change.ops ≡ b → slice_get old i ≡ Some k → cond b number k ≡ m → IsLastIn base (known ++ timed_element change ∷ []) i m
    by_name k true named_is there e = is_last base known (timed_element change) i (named i change.moment change.ops named_is) m (sym e ∙ numbered)
    by_name k false named_is there e = subst (IsLastIn base (known ++ timed_element change ∷ []) i) e (stays_last base known (timed_element change) i k (unnamed i change.moment change.ops named_is) (last i k there))

    by_slot : (o : Option ℕ) → slice_get old i ≡ o → option_map (λ k. cond (names i change.ops) number k) o ≡ Some m → IsLastIn base (known ++ timed_element change ∷ []) i m
    by_slot None there e = absurd (none-some m e)
    by_slot (Some k) there e = by_name k (names i change.ops) refl there (same_Some _ _ e)

-- Hives that no change names yet

pub none_named : (base hives : ℕ) → AreLastIn base [] (replicate hives 0)
none_named base hives i m is = record { none_after = ap (ops_on i) (drop_nil {A = law.Element TimedOp} (m - base)); named = inl (zero_at hives i is) }
  where
    zero_at : (n j : ℕ) → slice_get (replicate n 0) j ≡ Some m → m ≡ 0
    zero_at zero j e = absurd (none-some m e)
    zero_at (suc n) zero e = sym (same_Some 0 m e)
    zero_at (suc n) (suc j) e = zero_at n j e

-- One more operation of a change

same_test : (n : ℕ) → eqb n n ≡ true
same_test n = grind (arith, nat_tests)

or_no : (c : Bool) → (c || false) ≡ c
or_no true = refl
or_no false = refl

or_yes : (c : Bool) → (c || true) ≡ true
or_yes true = refl
or_yes false = refl

-- whether a hive is among some
abbrev pub among : ℕ → List ℕ → Bool
among i hives = list_any (λ h. eqb h i) hives

-- operations name the hives that they are on
names_among : (i : ℕ) (ops : List Op) → names i ops ≡ among i (map hive_of ops)
names_among i [] = refl
names_among i (op ∷ ops) = ap (λ b. eqb (hive_of op) i || b) (names_among i ops)

among_more : (i : ℕ) (prefix : List ℕ) (h : ℕ) → among i (prefix ++ h ∷ []) ≡ (among i prefix || eqb h i)
among_more i prefix h = list_any-append (λ k. eqb k i) prefix (h ∷ []) ∙ ap (λ b. among i prefix || b) (or_no (eqb h i))

pub one_named : (xs ys : List ℕ) (i h number : ℕ) (b : Bool) → h < length ys → slice_get ys i ≡ option_map (λ m. cond b number m) (slice_get xs i)
    → slice_get (slice_set ys h number) i ≡ option_map (λ m. cond (b || eqb h i) number m) (slice_get xs i)
one_named xs ys i h number b lt is = by_test (eqb h i) refl
  where
    filled : (o p : Option ℕ) → p ≡ option_map (λ m. cond b number m) o → (k : ℕ) → p ≡ Some k → Some number ≡ option_map (λ m. number) o
    filled None p e k there = absurd (none-some k (sym e ∙ there))
    filled (Some m) p e k there = refl

    by_test : (t : Bool) → eqb h i ≡ t → slice_get (slice_set ys h number) i ≡ option_map (λ m. cond (b || t) number m) (slice_get xs i)
    by_test true e =
        let same : h ≡ i = eqb-true h i e in
        let there = slice_get-get_or ys h 0 lt in
        ap (slice_get (slice_set ys h number)) (sym same) ∙ get_same ys h number lt
        ∙ filled (slice_get xs i) (slice_get ys i) is (get_or ys h 0) (ap (slice_get ys) (sym same) ∙ there)
        ∙ ap (λ c. option_map (λ m. cond c number m) (slice_get xs i)) (sym (or_yes b))
    by_test false e =
        get_other ys h i number (λ s. true≢false (sym (same_test h) ∙ ap (eqb h) (sym s) ∙ e)) ∙ is
        ∙ ap (λ c. option_map (λ m. cond c number m) (slice_get xs i)) (sym (or_no b))

-- the first k changes, and the next
pub take_more : {A : Type 0} (k : ℕ) (xs : List A) (x : A) → slice_get xs k ≡ Some x → take (suc k) xs ≡ take k xs ++ x ∷ []
take_more k [] x e = absurd (none-some x e)
take_more zero (y ∷ ys) x e = ap (λ z. z ∷ []) (same_Some y x e)
take_more (suc k) (y ∷ ys) x e = ap (λ (l : List _). y ∷ l) (take_more k ys x e)

-- what was written back
pub written_back : {A : Type 0} (long : ℕ) (ys xs : List A) → length ys ≡ long → take long (ys ++ drop (length ys) xs) ≡ ys
written_back long ys xs is = take-append-le long ys (drop (length ys) xs) (omega (arith, is)) ∙ take_all long ys (omega (arith, is))

slice_get_past : (ys : List ℕ) (i : ℕ) → length ys ≤ i → slice_get ys i ≡ None
slice_get_past [] i past = refl
slice_get_past (y ∷ ys) zero past = absurd (omega (arith, past))
slice_get_past (y ∷ ys) (suc i) past = slice_get_past ys i (omega (arith, past))

-- if the operation is on a hive that isn't in the list
pub named_past : (xs ys : List ℕ) (i h number : ℕ) (b : Bool) → length ys ≤ h → slice_get ys i ≡ option_map (λ m. cond b number m) (slice_get xs i) → slice_get ys i ≡ option_map (λ m. cond (b || eqb h i) number m) (slice_get xs i)
named_past xs ys i h number b past is = by_test (eqb h i) refl
  where
    none : (o p : Option ℕ) → p ≡ None → p ≡ option_map (λ m. cond b number m) o → p ≡ option_map (λ m. number) o
    none None p e f = f
    none (Some m) p e f = absurd (none-some _ (sym e ∙ f))

    by_test : (t : Bool) → eqb h i ≡ t → slice_get ys i ≡ option_map (λ m. cond (b || t) number m) (slice_get xs i)
    by_test true e =
        let same : h ≡ i = eqb-true h i e in
        none (slice_get xs i) (slice_get ys i) (slice_get_past ys i (omega (arith, past, same))) is ∙ ap (λ c. option_map (λ m. cond c number m) (slice_get xs i)) (sym (or_yes b))
    by_test false e = is ∙ ap (λ c. option_map (λ m. cond c number m) (slice_get xs i)) (sym (or_no b))

-- Of a change's hives these are left, and the others have the number.
abbrev pub HasNamed : List ℕ → ℕ → List ℕ → List ℕ → List ℕ → Type 0
HasNamed was number hives is left = (prefix : List ℕ) × (hives ≡ prefix ++ left) × ((i : ℕ) → slice_get is i ≡ option_map (λ m. cond (among i prefix) number m) (slice_get was i)) × (length is ≡ length was)

module _ (was : List ℕ) (number : ℕ) (hives : List ℕ) where
  pub next_named : (is : List ℕ) (h : ℕ) (left : List ℕ) → HasNamed was number hives is (h ∷ left) → h < length is → HasNamed was number hives (slice_set is h number) left
  next_named is h left (prefix, are, named, many) lt = (
    prefix ++ h ∷ [],
    are ∙ sym (append_assoc prefix (h ∷ []) left),
    λ i. one_named was is i h number (among i prefix) lt (named i) ∙ ap (λ b. option_map (λ m. cond b number m) (slice_get was i)) (sym (among_more i prefix h)),
    length-set is h number ∙ many,
  )

  pub next_past : (is : List ℕ) (h : ℕ) (left : List ℕ) → HasNamed was number hives is (h ∷ left) → length is ≤ h → HasNamed was number hives is left
  next_past is h left (prefix, are, named, many) past = (
    prefix ++ h ∷ [],
    are ∙ sym (append_assoc prefix (h ∷ []) left),
    λ i. named_past was is i h number (among i prefix) past (named i) ∙ ap (λ b. option_map (λ m. cond b number m) (slice_get was i)) (sym (among_more i prefix h)),
    many,
  )

pub all_named : (was : List ℕ) (number : ℕ) (ops : List Op) (is : List ℕ) → HasNamed was number (map hive_of ops) is [] → (i : ℕ) → slice_get is i ≡ option_map (λ m. cond (names i ops) number m) (slice_get was i)
all_named was number ops is (prefix, are, named, many) i =
    named i ∙ ap (λ b. option_map (λ m. cond b number m) (slice_get was i)) (sym (names_among i ops ∙ ap (among i) (are ∙ append-nil prefix)))
