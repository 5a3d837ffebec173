-- The keys on a way down from the root of a tree, as a cursor keeps them.
use Rattle.std.specs.Prelude.{◌≡◌, ℕ, ◌+◌, Bool, true, false, List, [], ◌∷◌, ◌++◌, map, slice_get, Option, Some, None}
use Rattle.std.specs.FinMap as finite
use Rattle.reg_tree_parts.specs.Nodes.{Entries, HasSubkeys, subkeys_of}
use Rattle.reg_tree.specs.Maps.{TreeMap}
use Rattle.regtx_c.specs.declared.block.Step.{Step}
use Rattle.regtx_c.specs.Places.{leads, way_next}

-- a step goes to the subkey of its index
pub record IsWayStep (above : Entries) (step : Step) : Type 0 where
  pub has : HasSubkeys above (subkeys_of above)
  pub found : slice_get (map (λ subkey. subkey.1) (subkeys_of above)) step.index ≡ Some step.key

-- each of these steps goes on from the key of the one before
abbrev pub LeadsFrom : Entries → List Step → Type 0
LeadsFrom above [] = Unit {0}
LeadsFrom above (step ∷ way) = IsWayStep above step × LeadsFrom step.key way

-- the key of the last of these steps
abbrev pub end_from : Entries → List Step → Entries
end_from above [] = above
end_from above (step ∷ way) = end_from step.key way

-- these steps lead down from the root of a tree
abbrev pub Leads : TreeMap → List Step → Type 0
Leads tree way = LeadsFrom (finite.entries tree) way

-- the key to which they lead, with all below it
abbrev pub end_of : TreeMap → List Step → Entries
end_of tree way = end_from (finite.entries tree) way

-- the indexes of the steps
abbrev pub indexes : List Step → List ℕ
indexes way = map (λ step. step.index) way

-- the way that was wanted is gone, if it leads to a key; else the way stays
abbrev pub StepsIf : TreeMap → Option (List ℕ) → Bool → List Step → List Step → Type 0
StepsIf tree to true before after = (leads tree to ≡ true) × (Some (indexes after) ≡ to)
StepsIf tree to false before after = (leads tree to ≡ false) × (after ≡ before)

-- a step goes to the next subkey of the key above, from the last of these steps on
pub record IsNextStep (tree : TreeMap) (way : List Step) (step : Step) : Type 0 where
  pub front : List Step
  pub last : Step
  pub whole : way ≡ front ++ last ∷ []
  pub index : step.index ≡ last.index + 1
  pub goes : IsWayStep (end_of tree front) step
  pub there : leads tree (way_next (indexes way)) ≡ true

-- there is such a step exactly if the next way leads to a key
abbrev pub FindsNext : TreeMap → List Step → Option Step → Type 0
FindsNext tree way None = leads tree (way_next (indexes way)) ≡ false
FindsNext tree way (Some step) = IsNextStep tree way step
