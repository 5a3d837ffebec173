-- The path of a key behind a prefix: neither a minus first nor a backslash last.
use Rattle.std.proofs.Common.{◌≡◌, ◌≢◌, ℕ, List, [], ◌∷◌, ◌++◌, refl, sym, ap, subst, arith, append_assoc}
use Rattle.std.specs.List.{AllByRecursion, flat_map}
use Rattle.reg_export.specs.RegTexts.{reg_path}
use Rattle.reg_round_trip.specs.Exports.{HasNoBackslash, IsPrefixText, IsBelowName}
use Rattle.reg_round_trip.proofs.TextFacts.{AreTexts}

-- a path goes on behind a longer prefix
pub path_more : (prefix name : List ℕ) (names : List (List ℕ)) → reg_path prefix (name ∷ names) ≡ reg_path (prefix ++ 92 ∷ name) names
path_more prefix name names = sym (append_assoc prefix (92 ∷ name) (flat_map (λ n. 92 ∷ n) names))

-- no list ends with a backslash whose last unit is another
abbrev LastIsOther : List ℕ → Type 0
LastIsOther [] = Unit {0}
LastIsOther (u ∷ []) = u ≢ 92
LastIsOther (u ∷ next ∷ units) = LastIsOther (next ∷ units)

last_behind : (front : List ℕ) (u : ℕ) (units : List ℕ) → LastIsOther (u ∷ units) → LastIsOther (front ++ u ∷ units)
last_behind [] u units h = h
last_behind (x ∷ []) u units h = h
last_behind (x ∷ y ∷ front) u units h = last_behind (y ∷ front) u units h

last_of_name : (u : ℕ) (units : List ℕ) → HasNoBackslash (u ∷ units) → LastIsOther (u ∷ units)
last_of_name u [] h = h.0
last_of_name u (next ∷ units) h = last_of_name next units h.1

last_is_no : (units front : List ℕ) → LastIsOther units → units ≢ front ++ 92 ∷ []
last_is_no [] [] h e = cc
last_is_no [] (x ∷ front) h e = cc
last_is_no (u ∷ []) [] h e = let same : u ≡ 92 = cc in h same
last_is_no (u ∷ []) (x ∷ front) h e = let rest : [] ≡ front ++ 92 ∷ [] = cc in last_is_no [] front tt rest
last_is_no (u ∷ next ∷ units) [] h e = cc
last_is_no (u ∷ next ∷ units) (x ∷ front) h e = let rest : next ∷ units ≡ front ++ 92 ∷ [] = cc in last_is_no (next ∷ units) front h rest

last_from : (units : List ℕ) → ((front : List ℕ) → units ≢ front ++ 92 ∷ []) → LastIsOther units
last_from [] h = tt
last_from (u ∷ []) h = λ e. h [] (ap (λ x. x ∷ []) e)
last_from (u ∷ next ∷ units) h = last_from (next ∷ units) (λ front e. h (u ∷ front) (ap (λ xs. u ∷ xs) e))

path_last : (prefix : List ℕ) (names : List (List ℕ)) → LastIsOther prefix → AllByRecursion IsBelowName names → LastIsOther (reg_path prefix names)
path_last prefix [] p all = subst LastIsOther (sym (append_nil prefix)) p
  where
    append_nil : (xs : List ℕ) → xs ++ [] ≡ xs
    append_nil [] = refl
    append_nil (x ∷ xs) = ap (λ ys. x ∷ ys) (append_nil xs)
path_last prefix (name ∷ names) p all = subst LastIsOther (sym (path_more prefix name names)) (path_last (prefix ++ 92 ∷ name) names (longer name all.0) all.1)
  where
    longer : (n : List ℕ) → IsBelowName n → LastIsOther (prefix ++ 92 ∷ n)
    longer [] b = absurd (b.some refl)
    longer (u ∷ units) b = last_behind prefix 92 (u ∷ units) (last_of_name u units b.no_backslash)

pub path_no_separator : (prefix : List ℕ) (names : List (List ℕ)) → IsPrefixText prefix → AllByRecursion IsBelowName names → (front : List ℕ) → reg_path prefix names ≢ front ++ 92 ∷ []
path_no_separator prefix names p all front = last_is_no (reg_path prefix names) front (path_last prefix names (last_from prefix p.no_separator) all)

pub path_no_minus : (prefix : List ℕ) (names : List (List ℕ)) → IsPrefixText prefix → (rest : List ℕ) → reg_path prefix names ≢ 45 ∷ rest
path_no_minus prefix names p = first prefix names p.no_minus
  where
    first : (pre : List ℕ) (ns : List (List ℕ)) → ((rest : List ℕ) → pre ≢ 45 ∷ rest) → (rest : List ℕ) → reg_path pre ns ≢ 45 ∷ rest
    first [] [] h rest e = cc
    first [] (n ∷ ns) h rest e = other cc
      where
        other : ◌≡◌ {A = ℕ} 92 45 → ⊥
        other e = absurd (omega (arith, e))
    first (u ∷ pre) ns h rest e = let same : u ≡ 45 = cc in h pre (ap (λ x. x ∷ pre) same)

-- it is a text if the prefix and the names are
pub path_text : (G : List ℕ → Type 0) → AreTexts G → (prefix : List ℕ) (names : List (List ℕ)) → G prefix → AllByRecursion G names → G (reg_path prefix names)
path_text G t prefix names p all = t.both prefix (flat_map (λ n. 92 ∷ n) names) p (parts names all)
  where
    parts : (ns : List (List ℕ)) → AllByRecursion G ns → G (flat_map (λ n. 92 ∷ n) ns)
    parts [] a = t.prints [] tt
    parts (n ∷ ns) a = t.both (92 ∷ []) (n ++ flat_map (λ m. 92 ∷ m) ns) (t.prints (92 ∷ []) (refl, tt)) (t.both n (flat_map (λ m. 92 ∷ m) ns) a.0 (parts ns a.1))
