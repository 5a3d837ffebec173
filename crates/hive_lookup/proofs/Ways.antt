-- A path, name by name.
use Rattle.std.proofs.Common.{◌≡◌, ◌<◌, ◌+◌, ℕ, zero, suc, List, [], ◌∷◌, ◌++◌, length, take, get_or, slice_get, Some, refl, ◌∙◌, ap, sym, subst, arith}
use Rattle.std.proofs.lemmas.List.{take_more}
use Rattle.reg_names.specs.Names.{folded, folded_path}
use Rattle.hive_cells.specs.Bins.{Cells}
use Rattle.hive_lookup.specs.declared.list_kind.ListKind.TheVariants.{Subkeys}
use Rattle.hive_lookup.specs.Lookups.{ListsOne, PathLeads}

pub path_more : (cells : Cells) (names : List (List ℕ)) (name : List ℕ) (root key at : ℕ) → PathLeads cells root names key → ListsOne Subkeys cells key name at → PathLeads cells root (names ++ name ∷ []) at
path_more cells [] name root key at here one = (at, subst (λ k. ListsOne Subkeys cells k name at) (sym here) one, refl)
path_more cells (n ∷ names) name root key at way one = (way.0, way.1, path_more cells names name way.0 key at way.2 one)

name_at : (names : List (List ℕ)) (i : ℕ) (name : List ℕ) → i < length names → name ≡ get_or names i name → get_or (folded_path names) i [] ≡ folded name
name_at [] i name h e = absurd (omega (arith, h))
name_at (n ∷ names) zero name h e = ap folded (sym e)
name_at (n ∷ names) (suc i) name h e = name_at names i name (omega (arith, h)) e

pub path_length : (names : List (List ℕ)) → length (folded_path names) ≡ length names
path_length [] = refl
path_length (n ∷ names) = ap suc (path_length names)

pub next_name : (names : List (List ℕ)) (i : ℕ) (name : List ℕ) → i < length names → name ≡ get_or names i name → slice_get (folded_path names) i ≡ Some (folded name)
next_name [] i name h e = absurd (omega (arith, h))
next_name (n ∷ names) zero name h e = ap (λ z. Some (folded z)) (sym e)
next_name (n ∷ names) (suc i) name h e = next_name names i name (omega (arith, h)) e

pub one_name_more : (names : List (List ℕ)) (i : ℕ) (name : List ℕ) → i < length names → name ≡ get_or names i name → take (i + 1) (folded_path names) ≡ take i (folded_path names) ++ folded name ∷ []
one_name_more names i name h e = take_more (folded_path names) i [] (subst (λ n. i < n) (sym (path_length names)) h) ∙ ap (λ z. take i (folded_path names) ++ z ∷ []) (name_at names i name h e)
