-- Whether names are past ASCII, as spelled and folded, one subkey after another.
use Rattle.std.proofs.Common.{◌≡◌, ℕ, zero, suc, ◌+◌, Bool, true, false, ◌||◌, List, [], ◌∷◌, ◌++◌, map, take, slice_get, refl, sym, ◌∙◌, ap, arith, Some}
use Rattle.std.specs.Prelude.{nat_lt}
use Rattle.std.proofs.lemmas.Bool.Decides.{nat_tests}
use Rattle.std.specs.List.{AllByRecursion}
use Rattle.reg_names.specs.Names.{fold_unit, folded}
use Rattle.reg_tree_parts.specs.Nodes.{Entries, root_name}
use Rattle.hive_emit.proofs.ValueMaps.{take_next}
use Rattle.hive_emit.specs.Forms.{is_past_ascii}
use Rattle.hive_emit.specs.EmittedKeys.{any_past_ascii}
use Rattle.hive_emit.proofs.KeyProofs.{found_subkey}

fold_past : (u : ℕ) → nat_lt 0x7f (fold_unit u) ≡ nat_lt 0x7f u
fold_past u = grind (arith, nat_tests)

pub past_folded : (name : List ℕ) → is_past_ascii (folded name) ≡ is_past_ascii name
past_folded [] = refl
past_folded (u ∷ name) = ap (λ (b : Bool). b || is_past_ascii (folded name)) (fold_past u) ∙ ap (λ (b : Bool). nat_lt 0x7f u || b) (past_folded name)

first_false : (a b : Bool) → (a || b) ≡ false → a ≡ false
first_false true b e = cc
first_false false b e = refl

second_false : (a b : Bool) → (a || b) ≡ false → b ≡ false
second_false true b e = cc
second_false false b e = e

or_true : (a b : Bool) → b ≡ true → (a || b) ≡ true
or_true true b e = refl
or_true false b e = e

none_push : (ks : List (List ℕ × Entries)) (k : List ℕ × Entries) → any_past_ascii ks ≡ false → is_past_ascii k.0 ≡ false → any_past_ascii (ks ++ k ∷ []) ≡ false
none_push [] k h e = ap (λ (b : Bool). b || false) e
none_push (j ∷ ks) k h e = ap (λ (b : Bool). b || any_past_ascii (ks ++ k ∷ [])) (first_false (is_past_ascii j.0) (any_past_ascii ks) h) ∙ none_push ks k (second_false (is_past_ascii j.0) (any_past_ascii ks) h) e

some_at : (ks : List (List ℕ × Entries)) (i : ℕ) (k : List ℕ × Entries) → slice_get ks i ≡ Some k → is_past_ascii k.0 ≡ true → any_past_ascii ks ≡ true
some_at [] i k e past = absurd (let no : ⊥ = cc in no)
some_at (j ∷ ks) zero k e past = let same : j ≡ k = cc in ap (λ (x : List ℕ × Entries). is_past_ascii x.0 || any_past_ascii ks) same ∙ ap (λ (b : Bool). b || any_past_ascii ks) past
some_at (j ∷ ks) (suc i) k e past = or_true (is_past_ascii j.0) (any_past_ascii ks) (some_at ks i k e past)

-- one subkey more, whose own name is spelled so
pub past_next : (ks : List (List ℕ × Entries)) (i : ℕ) (es : Entries) (name : List ℕ) → AllByRecursion (λ (k : List ℕ × Entries). root_name k.1 ≡ k.0) ks → Some es ≡ slice_get (map (λ k. k.1) ks) i → root_name es ≡ folded name → is_past_ascii name ≡ false → any_past_ascii (take i ks) ≡ false → any_past_ascii (take (i + 1) ks) ≡ false
past_next ks i es name named e root plain before =
    let k = found_subkey ks i es named e in
    ap any_past_ascii (take_next ks i (k.0, es) k.1) ∙ none_push (take i ks) (k.0, es) before (ap is_past_ascii (sym k.2 ∙ root) ∙ past_folded name ∙ plain)

pub past_here : (ks : List (List ℕ × Entries)) (i : ℕ) (es : Entries) (name : List ℕ) → AllByRecursion (λ (k : List ℕ × Entries). root_name k.1 ≡ k.0) ks → Some es ≡ slice_get (map (λ k. k.1) ks) i → root_name es ≡ folded name → is_past_ascii name ≡ true → any_past_ascii ks ≡ true
past_here ks i es name named e root past = let k = found_subkey ks i es named e in some_at ks i (k.0, es) k.1 (ap is_past_ascii (sym k.2 ∙ root) ∙ past_folded name ∙ past)
