-- The steps of a removal.
use Rattle.std.specs.Prelude.{◌≡◌, ◌⊎◌, ℕ, false, List, [], ◌∷◌, ◌++◌, length, None}
use Rattle.std.specs.List.{All}
use Rattle.refusals.specs.declared.refusal.Refusal.{Refusal}
use Rattle.refusals.specs.declared.refusal.Refusal.TheVariants.{BadName, TooDeep}
use Rattle.refusals.specs.declared.limits.TheConstants.{MOST_PATH_NAMES}
use Rattle.reg_names.specs.Names.{folded_path, is_key_name}
use Rattle.reg_tree.specs.Maps.{TreeMap}
use Rattle.reg_tree.specs.TreeLists.{info_in}
use Rattle.reg_tree.specs.Judgement.{applied}
use Rattle.reg_tree.specs.declared.op.Op.{Op}
use Rattle.change_plan.specs.declared.extension.Extension.{Extension}
use Rattle.store_model.specs.Invariant.{AreLegalChanges}
use Rattle.change_plan.specs.Edits.{DeletesBelow}

-- legal deletions of keys at a path or below it follow the operations before
pub record DeletesMore (old : Extension) (moment hive : ℕ) (path : List (List ℕ)) (new : Extension) : Type 0 where
  pub more : List Op
  pub legal : AreLegalChanges old.view more moment
  pub below : All (DeletesBelow hive path) more
  pub ops : new.ops.items ≡ old.ops.items ++ more
  pub view : new.view ≡ applied old.view more moment

-- the key isn't there
abbrev pub IsGone : List TreeMap → ℕ → List (List ℕ) → Type 0
IsGone trees hive path = info_in trees hive (folded_path path) ≡ None

-- the path of the subkey of a name
abbrev pub IsChild : List (List ℕ) → List ℕ → List (List ℕ) → Type 0
IsChild path name child = child ≡ path ++ name ∷ []

-- why a subkey has no path: its name is none that a call may name, or the path has as many names as paths may have
abbrev pub ChildRefused : List (List ℕ) → List ℕ → Refusal → Type 0
ChildRefused path name why = ((why ≡ BadName) × (is_key_name name ≡ false)) ⊎ ((why ≡ TooDeep) × (length path ≡ MOST_PATH_NAMES))
