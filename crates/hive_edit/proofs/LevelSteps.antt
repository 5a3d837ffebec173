-- While a path's missing levels are created, a tree has those that were created so far.
use Rattle.std.proofs.Common.{◌≡◌, ◌⊎◌, inl, inr, ℕ, suc, ◌+◌, ◌-◌, ◌<◌, ◌≤◌, List, [], ◌∷◌, ◌++◌, length, take, None, sym, ◌∙◌, ap, subst, arith}
use Rattle.std.specs.Prelude.{slice_index_or}
use Rattle.std.proofs.lemmas.List.{map-append, take_all, take_more}
use Rattle.std.proofs.Math.Seq.{take-append_seam, take-append-add, get_or-append_seam}
use Rattle.reg_names.specs.Names.{folded, folded_path}
use Rattle.reg_tree.specs.Maps.{TreeMap, row, IsTree}
use Rattle.reg_tree.specs.Operations.{depth_there, tree_after}
use Rattle.reg_tree.specs.declared.op.Op.TheVariants.{CreateKey}
use Rattle.hive_edit.proofs.KeyLevels.{Way, way, gone, depth_is, IsNextLevel, next_level}

-- what is encoded with keys down to a depth: the tree itself, or the tree after the creation of a path's beginning
abbrev pub LevelsMade : (TreeMap → Type 0) → ℕ → TreeMap → List (List ℕ) → ℕ → ℕ → ℕ → Type 0
LevelsMade Encodes hive tree path there depth moment = ((depth ≡ there) × Encodes tree) ⊎ ((there < depth) × Encodes (tree_after tree (CreateKey hive (take depth path)) moment))

-- the beginning of a path to a depth past that of the last key on its way that is there
past_front : (front further : List (List ℕ)) (name : List ℕ) (depth : ℕ) → length front < depth → take depth (front ++ name ∷ further) ≡ front ++ name ∷ take (depth - length front - 1) further
past_front front further name depth past =
    ap (λ n. take n (front ++ name ∷ further)) (omega (arith, past)) ∙ take-append-add front (name ∷ further) (suc (depth - length front - 1))

module _ (tree : TreeMap) (is : IsTree tree) (path : List (List ℕ)) (absent : row tree (folded_path path) ≡ None) (there : ℕ) (there_is : there ≡ depth_there tree (folded_path path)) where
  w : Way tree path
  w = way tree is path absent

  long : length w.front ≡ there
  long = depth_is tree is path w ∙ sym there_is

  first_front : take there path ≡ w.front
  first_front = ap (λ n. take n path) (sym long) ∙ ap (take (length w.front)) w.is ∙ take-append_seam w.front (w.name ∷ w.further)

  first_name : slice_index_or path there [] ≡ w.name
  first_name = ap (λ n. slice_index_or path n []) (sym long) ∙ ap (λ p. slice_index_or p (length w.front) []) w.is ∙ get_or-append_seam w.front w.name w.further []

  -- the first level is missing
  pub first_absent : row tree (folded_path (take there path) ++ folded (slice_index_or path there []) ∷ []) ≡ None
  first_absent = (λ i. row tree (folded_path (first_front i) ++ folded (first_name i) ∷ [])) ∙ w.absent

  -- and so is each below it
  pub deep_absent : (depth : ℕ) → there < depth → row tree (folded_path (take depth path)) ≡ None
  deep_absent depth past =
      let past_it : length w.front < depth = omega (arith, past, long) in
      ap (λ p. row tree (folded_path p)) (ap (take depth) w.is ∙ past_front w.front w.further w.name depth past_it)
      ∙ ap (row tree) (map-append folded w.front (w.name ∷ take (depth - length w.front - 1) w.further))
      ∙ gone tree is path w (folded_path (take (depth - length w.front - 1) w.further))

  module _ (Now New : TreeMap → Type 0) (trees : (t : TreeMap) → Now t → IsTree t) (hive moment depth : ℕ) (name : List ℕ) (short : depth < length path) (name_is : name ≡ slice_index_or path depth [])
      (creates : (t : TreeMap) → Now t → row t (folded_path (take depth path) ++ folded name ∷ []) ≡ None → New (tree_after t (CreateKey hive (take depth path ++ name ∷ [])) moment)) where
    longer : take depth path ++ name ∷ [] ≡ take (depth + 1) path
    longer = ap (λ (n : List ℕ). take depth path ++ n ∷ []) name_is ∙ sym (take_more path depth [] short)

    made_longer : there < depth + 1 → New (tree_after tree (CreateKey hive (take depth path ++ name ∷ [])) moment) → LevelsMade New hive tree path there (depth + 1) moment
    made_longer past new = inr (past, subst (λ (p : List (List ℕ)). New (tree_after tree (CreateKey hive p) moment)) longer new)

    further : there < depth → Now (tree_after tree (CreateKey hive (take depth path)) moment) → LevelsMade New hive tree path there (depth + 1) moment
    further past now =
        let n : IsNextLevel tree hive moment name (take depth path) = next_level tree is hive moment (take depth path) name (deep_absent depth past) (trees (tree_after tree (CreateKey hive (take depth path)) moment) now) in
        made_longer (omega (arith, past)) (subst New n.1 (creates (tree_after tree (CreateKey hive (take depth path)) moment) now n.0))

    -- a level more
    pub level_made : LevelsMade Now hive tree path there depth moment → LevelsMade New hive tree path there (depth + 1) moment
    level_made (inl (at, now)) = made_longer (omega (arith, at)) (creates tree now (ap (λ (n : List ℕ). row tree (folded_path (take depth path) ++ folded n ∷ [])) name_is ∙ subst (λ (d : ℕ). row tree (folded_path (take d path) ++ folded (slice_index_or path d []) ∷ []) ≡ None) (sym at) first_absent))
    level_made (inr (past, now)) = further past now

-- all levels are there
pub all_made : (Encodes : TreeMap → Type 0) (hive : ℕ) (tree : TreeMap) (path : List (List ℕ)) (there depth moment : ℕ) → there < length path → length path ≤ depth → LevelsMade Encodes hive tree path there depth moment → Encodes (tree_after tree (CreateKey hive path) moment)
all_made Encodes hive tree path there depth moment short all (inl (at, now)) = absurd (omega (arith, short, all, at))
all_made Encodes hive tree path there depth moment short all (inr (past, now)) = subst (λ (p : List (List ℕ)). Encodes (tree_after tree (CreateKey hive p) moment)) (take_all depth path all) now
