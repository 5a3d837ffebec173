-- The text of trees, one after another.
use Rattle.std.proofs.Common.{◌≡◌, ℕ, ◌+◌, ◌<◌, List, ◌∷◌, length, drop, take, Option, Some, sym, ◌∙◌, ap, subst, arith}
use Rattle.std.specs.Prelude.{slice_get, ◌≤◌}
use Rattle.std.specs.Io.KnownBytes.{Appends}
use Rattle.std.proofs.lemmas.List.{drop_more, drop_all, get_or-take, length-take}
use Rattle.std.proofs.lemmas.Option.{slice_get_within, slice_get-get_or, get_or_from_slice_get}
use Rattle.reply_lines.proofs.Written.{appends_more, appends_nothing}
use Rattle.reg_tree.specs.Maps.{TreeMap}
use Rattle.tree_printer.specs.TreeTexts.{tree_text}
use Rattle.crash_lab.specs.Experiments.{trees_text}

-- the text from the tree of a hive on begins with that tree's
rest_at : (trees : List TreeMap) (i : ℕ) (tree : TreeMap) → slice_get trees i ≡ Some tree → drop i trees ≡ tree ∷ drop (i + 1) trees
rest_at trees i tree there = drop_more trees i tree (slice_get_within trees i tree there) ∙ ap (λ first. first ∷ drop (i + 1) trees) (get_or_from_slice_get trees i tree tree there)

-- a tree's text was written, and those of the later ones are
pub one_tree_more : (trees : List TreeMap) (i : ℕ) (tree : TreeMap) (before mid after : Option (List ℕ)) → slice_get trees i ≡ Some tree → Appends before mid (tree_text i tree)
    → Appends mid after (trees_text (i + 1) (drop (i + 1) trees)) → Appends before after (trees_text i (drop i trees))
one_tree_more trees i tree before mid after there now later =
    subst (λ ts. Appends before after (trees_text i ts)) (sym (rest_at trees i tree there)) (appends_more before mid after (tree_text i tree) (trees_text (i + 1) (drop (i + 1) trees)) now later)

-- no tree is left
pub no_tree_more : (trees : List TreeMap) (i : ℕ) (known : Option (List ℕ)) → length trees ≤ i → Appends known known (trees_text i (drop i trees))
no_tree_more trees i known past = subst (λ ts. Appends known known (trees_text i ts)) (sym (drop_all i trees past)) (appends_nothing known)

-- a tree of the first `hives` ones is the tree of its hive
pub named_tree : (trees : List TreeMap) (hives i : ℕ) (tree : TreeMap) → i < hives → slice_get trees i ≡ Some tree → slice_get (take hives trees) i ≡ Some tree
named_tree trees hives i tree named there =
    let inside = slice_get_within trees i tree there in
    let short : i < length (take hives trees) = subst (λ n. i < n) (sym (length-take hives trees)) (omega (arith, named, inside)) in
    slice_get-get_or (take hives trees) i tree short ∙ ap Some (get_or-take hives trees i tree named ∙ get_or_from_slice_get trees i tree tree there)
