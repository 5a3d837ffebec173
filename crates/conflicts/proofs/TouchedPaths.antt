-- The key that an operation writes beside those that it makes.
use Rattle.std.proofs.Common.{◌≡◌, ℕ, ◌-◌, true, List, [], ◌∷◌, ◌++◌, length, take, Some, refl, sym, ◌∙◌, ap, arith}
use Rattle.std.specs.Prelude.{slice_get}
use Rattle.std.specs.Option.{option_map}
use Rattle.std.proofs.lemmas.List.{take-map, length-map, length-append}
use Rattle.std.proofs.Math.Seq.{take-length, take-append_seam}
use Rattle.reg_names.specs.Names.{folded, folded_path}
use Rattle.reg_tree.specs.Maps.{TreeMap, missing}
use Rattle.reg_tree.specs.Operations.{hive_of}
use Rattle.reg_tree.specs.TreeLists.{levels_of, levels_made}
use Rattle.reg_tree.specs.Stamps.{touched_path_of}
use Rattle.reg_tree.specs.declared.op.Op.{Op}
use Rattle.reg_tree.specs.declared.op.Op.TheVariants.{CreateKey, DeleteKey, SetValue, DeleteValue}
use Rattle.reg_tree.proofs.Paths.{eq_is, split_below}
use Rattle.conflicts.proofs.Effects.{its, writes}

-- what is read of all hives is read of the operation's own
pub levels_here : (trees : List TreeMap) (op : Op) (tree : TreeMap) → slice_get trees (hive_of op) ≡ Some tree → levels_made trees op ≡ levels_of tree op
levels_here trees (CreateKey hive path) tree at = ap (option_map (λ t. length (missing t (folded_path path)))) at
levels_here trees (DeleteKey hive path) tree at = refl
levels_here trees (SetValue hive path name kind bytes) tree at = refl
levels_here trees (DeleteValue hive path name) tree at = refl

folded_take : (n : ℕ) (path : List (List ℕ)) → take n (folded_path path) ≡ folded_path (take n path)
folded_take n path = take-map folded n path

folded_whole : (path : List (List ℕ)) → folded_path path ≡ folded_path (take (length path - 0) path)
folded_whole path = let all : length path - 0 ≡ length path = omega arith in sym (ap folded_path (ap (λ n. take n path) all ∙ take-length path))

-- a parent's path is that of its child without the last name
parent_path : (q : List (List ℕ)) (name : List ℕ) (path : List (List ℕ)) → folded_path path ≡ q ++ name ∷ [] → q ≡ folded_path (take (length path - 1) path)
parent_path q name path is =
    let long : length path - 1 ≡ length q = omega (arith, length-map path folded, ap length is, length-append q (name ∷ [])) in
    sym (sym (folded_take (length path - 1) path) ∙ ap (take (length path - 1)) is ∙ ap (λ n. take n (q ++ name ∷ [])) long ∙ take-append_seam q (name ∷ []))

pub written_home : (tree : TreeMap) (op : Op) (q : List (List ℕ)) → writes (its tree op q) ≡ true → q ≡ touched_path_of op (levels_of tree op)
written_home tree (CreateKey hive spelled) q w =
    eq_is q _ w ∙ ap (λ n. take (n - length (missing tree (folded_path spelled))) (folded_path spelled)) (length-map spelled folded) ∙ folded_take (length spelled - length (missing tree (folded_path spelled))) spelled
written_home tree (DeleteKey hive path) q w =
    let parts = split_below q (folded_path path) w in
    parent_path q parts.0 path parts.1 ∙ folded_whole (take (length path - 1) path)
written_home tree (SetValue hive path name kind bytes) q w = eq_is q (folded_path path) w ∙ folded_whole path
written_home tree (DeleteValue hive path name) q w = eq_is q (folded_path path) w ∙ folded_whole path
