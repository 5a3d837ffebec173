-- Lists of which one has an element more than the other.
use Rattle.std.proofs.Common.{◌≡◌, ℕ, zero, suc, ◌+◌, List, [], ◌∷◌, ◌++◌, length, flat_map, slice_get, refl, ◌∙◌, ap, sym, Some, arith, append-nil, append_assoc}
use Rattle.std.proofs.lemmas.List.{length-append}
use Rattle.hive_records.specs.Numbers.{words_from}
use Rattle.hive_edit_laws.specs.Shifts.{with_at, without_at}
use Rattle.hive_edit_laws.specs.SubkeyLists.{OneMore}
use Rattle.hive_edit_laws.proofs.ValueAdditions.{gap}
use Rattle.hive_edit_laws.proofs.ValueRemovals.{without}

pub more_with : (ws : List ℕ) (i x : ℕ) → OneMore x ws (with_at i x ws)
more_with ws i x = let g = gap ws i x in record { first = g.first; rest = g.rest; fewer_is = g.were; more_is = g.are }

pub more_without : (ws : List ℕ) (i x : ℕ) → slice_get ws i ≡ Some x → OneMore x (without_at i ws) ws
more_without ws i x e = let t = without ws i x e in record { first = t.first; rest = t.rest; fewer_is = t.are; more_is = t.were }

more_within : (x : ℕ) (a b c d : List ℕ) → OneMore x b c → OneMore x (a ++ (b ++ d)) (a ++ (c ++ d))
more_within x a b c d m = record {
  first = a ++ m.first;
  rest = m.rest ++ d;
  fewer_is = ap (λ (z : List ℕ). a ++ (z ++ d)) m.fewer_is ∙ ap (λ (z : List ℕ). a ++ z) (append_assoc m.first m.rest d) ∙ sym (append_assoc a m.first (m.rest ++ d));
  more_is = ap (λ (z : List ℕ). a ++ (z ++ d)) m.more_is ∙ ap (λ (z : List ℕ). a ++ z) (append_assoc m.first (x ∷ m.rest) d) ∙ sym (append_assoc a m.first (x ∷ (m.rest ++ d)));
}

abbrev flat : List (List ℕ) → List ℕ
flat lists = flat_map (λ (l : List ℕ). l) lists

flat_append : (us ws : List (List ℕ)) → flat (us ++ ws) ≡ flat us ++ flat ws
flat_append [] ws = refl
flat_append (u ∷ us) ws = ap (λ (z : List ℕ). u ++ z) (flat_append us ws) ∙ sym (append_assoc u (flat us) (flat ws))

so : (x : ℕ) (a b c d : List ℕ) → a ≡ b → c ≡ d → OneMore x b d → OneMore x a c
so x a b c d e f m = record { first = m.first; rest = m.rest; fewer_is = e ∙ m.fewer_is; more_is = f ∙ m.more_is }

pub more_in_leaf : (x : ℕ) (us ws : List (List ℕ)) (b c : List ℕ) → OneMore x b c → OneMore x (flat (us ++ b ∷ ws)) (flat (us ++ c ∷ ws))
more_in_leaf x us ws b c m = so x (flat (us ++ b ∷ ws)) (flat us ++ (b ++ flat ws)) (flat (us ++ c ∷ ws)) (flat us ++ (c ++ flat ws)) (flat_append us (b ∷ ws)) (flat_append us (c ∷ ws)) (more_within x (flat us) b c (flat ws) m)

pub more_in_two : (x : ℕ) (us ws : List (List ℕ)) (b c d : List ℕ) → OneMore x b (c ++ d) → OneMore x (flat (us ++ b ∷ ws)) (flat (us ++ c ∷ d ∷ ws))
more_in_two x us ws b c d m = so x (flat (us ++ b ∷ ws)) (flat us ++ (b ++ flat ws)) (flat (us ++ c ∷ d ∷ ws)) (flat us ++ ((c ++ d) ++ flat ws)) (flat_append us (b ∷ ws)) (flat_append us (c ∷ d ∷ ws) ∙ ap (λ (z : List ℕ). flat us ++ z) (sym (append_assoc c d (flat ws)))) (more_within x (flat us) b (c ++ d) (flat ws) m)

pub more_in_new : (x : ℕ) (us ws : List (List ℕ)) → OneMore x (flat (us ++ ws)) (flat (us ++ (x ∷ []) ∷ ws))
more_in_new x us ws = so x (flat (us ++ ws)) (flat us ++ ([] ++ flat ws)) (flat (us ++ (x ∷ []) ∷ ws)) (flat us ++ ((x ∷ []) ++ flat ws)) (flat_append us ws) (flat_append us ((x ∷ []) ∷ ws)) (more_within x (flat us) [] (x ∷ []) (flat ws) (record { first = []; rest = []; fewer_is = refl; more_is = refl }))

pub two_joined : (b c : List ℕ) → flat (b ∷ c ∷ []) ≡ b ++ c
two_joined b c = ap (λ (z : List ℕ). b ++ z) (append-nil c)

pub one_joined : (b : List ℕ) → flat (b ∷ []) ≡ b
one_joined b = append-nil b

pub more_long : (x : ℕ) (fewer more : List ℕ) → OneMore x fewer more → length more ≡ suc (length fewer)
more_long x fewer more m = ap length m.more_is ∙ length-append m.first (x ∷ m.rest) ∙ next (length m.first) (length m.rest) ∙ ap suc (sym (length-append m.first m.rest) ∙ ap length (sym m.fewer_is))
  where
    next : (a b : ℕ) → a + suc b ≡ suc (a + b)
    next a b = omega arith

pub words_long : (bytes : List ℕ) (from stride n : ℕ) → length (words_from bytes from stride n) ≡ n
words_long bytes from stride zero = refl
words_long bytes from stride (suc n) = ap suc (words_long bytes (from + stride) stride n)
