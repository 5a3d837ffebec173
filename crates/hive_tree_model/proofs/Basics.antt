-- Lists in which nothing is twice, tests of names, and what is found in joined lists.
use Rattle.std.proofs.Common.{◌≡◌, ◌⊎◌, inl, inr, ℕ, List, [], ◌∷◌, ◌++◌, refl, ◌∙◌, ap, sym, subst, Bool, true, false, if◌then◌else◌, Ok, Err, Result, Some, None, Option}
use Rattle.std.specs.FinMap.Entries.{find}
use Rattle.std.specs.FinMap.{slice_cmp-IsAntisymmetric, nat_cmp-IsAntisymmetric}
use Rattle.std.specs.declared.cmp.Ordering.{Ordering}
use Rattle.std.specs.declared.cmp.Ordering.TheVariants.{Less, Equal, Greater}
use Rattle.std.specs.Ordering.{is_eq, eq_by_cmp, ordering_then, nat_cmp}
use Rattle.std.specs.Cmp.{IsTotalOrder, tied_itself}
use Rattle.std.specs.Cmp.Lexicographic.{slice_cmp}
use Rattle.std.proofs.lemmas.Cmp.{nat_list_cmp_total, lists_total}
use Rattle.hive_tree_model.specs.Lists.{IsIn, Once}
use Rattle.hive_tree_model.specs.Trees.{name_order, path_order, same, under}

pub never : {A : Type 0} → false ≡ true → A
never e = absurd (subst (λ b. elim b as (λ z. Type 0) [ true ↦ ⊥ | false ↦ Unit {0} ]) e tt)

pub clash : {A : Type 0} (b : Bool) → b ≡ true → b ≡ false → A
clash b h g = never (sym g ∙ h)

pub decided : (b : Bool) → (b ≡ true) ⊎ (b ≡ false)
decided true = inl refl
decided false = inr refl

pub yes_if : {A : Type 0} (b : Bool) (x y : A) → b ≡ true → (if b then x else y) ≡ x
yes_if true x y e = refl
yes_if false x y e = never e

pub no_if : {A : Type 0} (b : Bool) (x y : A) → b ≡ false → (if b then x else y) ≡ y
no_if true x y e = never (sym e)
no_if false x y e = refl

abbrev value_or : {A C : Type 0} → A → Result A C → A
value_or x (Ok y) = y
value_or x (Err c) = x

pub ok_same : {A C : Type 0} (x y : A) → ◌≡◌ {A = Result A C} (Ok x) (Ok y) → x ≡ y
ok_same x y e = ap (value_or x) e

abbrev ok_type : {A C : Type 0} → Result A C → Type 0
ok_type (Ok x) = Unit {0}
ok_type (Err c) = ⊥

pub ok_err : {A C B : Type 0} (x : A) (c : C) → ◌≡◌ {A = Result A C} (Ok x) (Err c) → B
ok_err x c e = absurd (subst ok_type e tt)

abbrev some_or : {A : Type 0} → A → Option A → A
some_or x (Some y) = y
some_or x None = x

pub some_same : {A : Type 0} (x y : A) → Some x ≡ Some y → x ≡ y
some_same x y e = ap (some_or x) e

abbrev some_type : {A : Type 0} → Option A → Type 0
some_type (Some x) = Unit {0}
some_type None = ⊥

pub some_none : {A B : Type 0} (x : A) → None ≡ Some x → B
some_none x e = absurd (subst some_type (sym e) tt)

-- lists
abbrev head_or : {A : Type 0} → A → List A → A
head_or x [] = x
head_or x (y ∷ ys) = y

abbrev tail_of : {A : Type 0} → List A → List A
tail_of [] = []
tail_of (y ∷ ys) = ys

abbrev cons_type : {A : Type 0} → List A → Type 0
cons_type [] = ⊥
cons_type (y ∷ ys) = Unit {0}

pub same_head : {A : Type 0} (x y : A) (xs ys : List A) → x ∷ xs ≡ y ∷ ys → x ≡ y
same_head x y xs ys e = ap (head_or x) e

pub same_tail : {A : Type 0} (x y : A) (xs ys : List A) → x ∷ xs ≡ y ∷ ys → xs ≡ ys
same_tail x y xs ys e = ap tail_of e

pub cons_nil : {A B : Type 0} (x : A) (xs : List A) → x ∷ xs ≡ [] → B
cons_nil x xs e = absurd (subst cons_type e tt)

pub in_front : {A : Type 0} (x : A) (xs ys : List A) → IsIn x xs → IsIn x (xs ++ ys)
in_front x [] ys h = absurd h
in_front x (z ∷ xs) ys (inl e) = inl e
in_front x (z ∷ xs) ys (inr h) = inr (in_front x xs ys h)

pub in_back : {A : Type 0} (x : A) (xs ys : List A) → IsIn x ys → IsIn x (xs ++ ys)
in_back x [] ys h = h
in_back x (z ∷ xs) ys h = inr (in_back x xs ys h)

pub in_either : {A : Type 0} (x : A) (xs ys : List A) → IsIn x (xs ++ ys) → IsIn x xs ⊎ IsIn x ys
in_either x [] ys h = inr h
in_either x (z ∷ xs) ys (inl e) = inl (inl e)
in_either x (z ∷ xs) ys (inr h) = elim (in_either x xs ys h) [ inl g ↦ inl (inr g) | inr g ↦ inr g ]

pub once_front : {A : Type 0} (xs ys : List A) → Once (xs ++ ys) → Once xs
once_front [] ys o = tt
once_front (x ∷ xs) ys o = (λ h. o.0 (in_front x xs ys h), once_front xs ys o.1)

pub once_back : {A : Type 0} (xs ys : List A) → Once (xs ++ ys) → Once ys
once_back [] ys o = o
once_back (x ∷ xs) ys o = once_back xs ys o.1

pub once_apart : {A : Type 0} (x : A) (xs ys : List A) → Once (xs ++ ys) → IsIn x xs → IsIn x ys → ⊥
once_apart x [] ys o h g = absurd h
once_apart x (z ∷ xs) ys o (inl e) g = o.0 (subst (λ w. IsIn w (xs ++ ys)) e (in_back x xs ys g))
once_apart x (z ∷ xs) ys o (inr h) g = once_apart x xs ys o.1 h g

pub once_joined : {A : Type 0} (xs ys : List A) → Once xs → Once ys → ((x : A) → IsIn x xs → IsIn x ys → ⊥) → Once (xs ++ ys)
once_joined [] ys o p apart = p
once_joined (x ∷ xs) ys o p apart =
    (λ h. elim (in_either x xs ys h) [ inl g ↦ o.0 g | inr g ↦ apart x (inl refl) g ], once_joined xs ys o.1 p (λ z h g. apart z (inr h) g))

-- names
pub names_total : IsTotalOrder name_order
names_total = nat_list_cmp_total

pub paths_total : IsTotalOrder path_order
paths_total = lists_total nat_list_cmp_total

equal_of : (o : Ordering) → is_eq o ≡ true → o ≡ Equal
equal_of Less e = never e
equal_of Equal e = refl
equal_of Greater e = never e

pub same_is : (n m : List ℕ) → same n m ≡ true → n ≡ m
same_is n m e = slice_cmp-IsAntisymmetric nat_cmp-IsAntisymmetric n m (equal_of (name_order n m) e)

pub same_itself : (n : List ℕ) → same n n ≡ true
same_itself n = ap is_eq (tied_itself names_total n)

pub same_of : (n m : List ℕ) → n ≡ m → same n m ≡ true
same_of n m e = subst (λ z. same n z ≡ true) e (same_itself n)

pub same_not : (n m : List ℕ) → (n ≡ m → ⊥) → same n m ≡ false
same_not n m not_it = elim (decided (same n m)) [ inl t ↦ absurd (not_it (same_is n m t)) | inr f ↦ f ]

-- finding
abbrev pub or_else : {A : Type 0} → Option A → Option A → Option A
or_else None b = b
or_else (Some a) b = Some a

pub or_else_none : {A : Type 0} (o : Option A) → or_else o None ≡ o
or_else_none None = refl
or_else_none (Some a) = refl

pub none_or_else : {A : Type 0} (o : Option A) → or_else None o ≡ o
none_or_else o = refl

pub find_joined : {K X : Type 0} (R : K → K → Ordering) (q : K) (xs ys : List (K × X)) → find R q (xs ++ ys) ≡ or_else (find R q xs) (find R q ys)
find_joined R q [] ys = refl
find_joined R q (x ∷ xs) ys =
    elim (eq_by_cmp R q x.0) as (λ b. (if b then Some x.1 else find R q (xs ++ ys)) ≡ or_else (if b then Some x.1 else find R q xs) (find R q ys)) [ true ↦ refl | false ↦ find_joined R q xs ys ]

then_eq : (o p : Ordering) → is_eq (ordering_then o p) ≡ (if is_eq o then is_eq p else false)
then_eq Less p = refl
then_eq Equal p = refl
then_eq Greater p = refl

-- two paths are the same if their first names are, and the rest
pub path_step : (n m : List ℕ) (p q : List (List ℕ)) → eq_by_cmp path_order (n ∷ p) (m ∷ q) ≡ (if same n m then eq_by_cmp path_order p q else false)
path_step n m p q = then_eq (name_order n m) (slice_cmp (slice_cmp nat_cmp) p q)

nested : {A : Type 0} (a b : Bool) (x y : A) → (if (if a then b else false) then x else y) ≡ (if a then (if b then x else y) else y)
nested true b x y = refl
nested false b x y = refl

joined : {A : Type 0} (a b : Bool) (x : A) (y : Option A) → (if a then (if b then Some x else y) else (if a then y else None)) ≡ (if a then (if b then Some x else y) else None)
joined true b x y = refl
joined false b x y = refl

-- seen from one level higher, only paths that begin with that name are found
pub find_under : {R : Type 0} (n m : List ℕ) (q : List (List ℕ)) (es : List (List (List ℕ) × R)) → find path_order (n ∷ q) (under m es) ≡ (if same n m then find path_order q es else None)
find_under {R} n m q [] = elim (same n m) as (λ b. ◌≡◌ {A = Option R} None (if b then None else None)) [ true ↦ refl | false ↦ refl ]
find_under {R} n m q (e ∷ es) =
    ap (λ b. if b then Some e.1 else find path_order (n ∷ q) (under m es)) (path_step n m q e.0)
    ∙ ap (λ r. if (if same n m then eq_by_cmp path_order q e.0 else false) then Some e.1 else r) (find_under n m q es)
    ∙ nested (same n m) (eq_by_cmp path_order q e.0) (Some e.1) (if same n m then find path_order q es else None)
    ∙ elim (same n m) as (λ a. (if a then (if eq_by_cmp path_order q e.0 then Some e.1 else (if a then find path_order q es else None)) else (if a then find path_order q es else None)) ≡ (if a then (if eq_by_cmp path_order q e.0 then Some e.1 else find path_order q es) else None)) [ true ↦ refl | false ↦ refl ]

pub root_under : {R : Type 0} (m : List ℕ) (es : List (List (List ℕ) × R)) → find path_order [] (under m es) ≡ None
root_under m [] = refl
root_under m (e ∷ es) = root_under m es
