-- Which operations an edit asks for on trees, and why it is refused.
use Rattle.std.specs.Prelude.{◌≡◌, ◌⊎◌, ℕ, true, false, List, [], ◌∷◌, Option, Some, None, IsSome, Ok, Err, length}
use Rattle.std.specs.List.{All, Contains}
use Rattle.refusals.specs.declared.refusal.Refusal.{Refusal}
use Rattle.refusals.specs.declared.refusal.Refusal.TheVariants.{BadName, Fixed, TooDeep}
use Rattle.refusals.specs.declared.limits.TheConstants.{MOST_PATH_NAMES}
use Rattle.reg_names.specs.Names.{folded_path, is_key_name}
use Rattle.reg_tree_parts.specs.Nodes.{begins_path}
use Rattle.reg_tree_parts.specs.declared.value.Value.{Value}
use Rattle.reg_tree.specs.Maps.{TreeMap}
use Rattle.reg_tree.specs.Judgement.{applied, legal}
use Rattle.reg_tree.specs.TreeLists.{info_in, subkeys_in, value_in}
use Rattle.reg_tree.specs.declared.op.Op.{Op}
use Rattle.reg_tree.specs.declared.op.Op.TheVariants.{DeleteKey, DeleteValue, SetValue}
use Rattle.reg_tree.specs.declared.op.Legality.TheVariants.{Legal, Opened}
use Rattle.store_model.specs.Invariant.{AreLegalChanges}
use Rattle.change_plan.specs.declared.edit.Edit.{Edit}
use Rattle.change_plan.specs.declared.edit.Edit.TheVariants.{Operation, WriteValue, RemoveValue, RemoveKey}

-- an operation asks for itself, if it is legal; for nothing, if it creates a key that is there
abbrev pub OperationAsks : List TreeMap → Op → List Op → Type 0
OperationAsks trees op ops = ((legal trees op ≡ Ok Legal) × (ops ≡ op ∷ [])) ⊎ ((legal trees op ≡ Ok Opened) × (ops ≡ []))

-- a value is there, with this type and this data
abbrev pub IsDatum : Option Value → ℕ → List ℕ → Type 0
IsDatum None kind bytes = ⊥
IsDatum (Some value) kind bytes = (value.kind ≡ kind) × (value.«data» ≡ bytes)

-- the value of a name at a path of a hive is there, with this type and this data
abbrev pub HasDatum : List TreeMap → ℕ → List (List ℕ) → List ℕ → ℕ → List ℕ → Type 0
HasDatum trees hive path name kind bytes = IsDatum (value_in trees hive (folded_path path) name) kind bytes

-- an operation deletes a key at a path or below it
abbrev pub DeletesBelow : ℕ → List (List ℕ) → Op → Type 0
DeletesBelow hive path op = (deleted : List (List ℕ)) × (op ≡ DeleteKey hive deleted) × (begins_path (folded_path path) (folded_path deleted) ≡ true)

-- Operations remove a key with all keys below it: each is legal on the trees after those before it, and deletes the key
-- or one below it; and then the key isn't there.
pub record RemovesKey (trees : List TreeMap) (moment hive : ℕ) (path : List (List ℕ)) (ops : List Op) : Type 0 where
  pub legal : AreLegalChanges trees ops moment
  pub below : All (DeletesBelow hive path) ops
  pub gone : info_in (applied trees ops moment) hive (folded_path path) ≡ None

-- the operations that an edit asks for, on trees at a moment
abbrev pub EditAsks : List TreeMap → ℕ → Edit → List Op → Type 0
EditAsks trees moment (Operation op) ops = OperationAsks trees op ops
EditAsks trees moment (WriteValue hive path name kind bytes) ops =
    (HasDatum trees hive path name kind bytes × (ops ≡ []))
    ⊎ (¬ (HasDatum trees hive path name kind bytes) × OperationAsks trees (SetValue hive path name kind bytes) ops)
EditAsks trees moment (RemoveValue hive path name) ops =
    ((value_in trees hive (folded_path path) name ≡ None) × (ops ≡ []))
    ⊎ (IsSome (value_in trees hive (folded_path path) name) × OperationAsks trees (DeleteValue hive path name) ops)
EditAsks trees moment (RemoveKey hive path) ops = RemovesKey trees moment hive path ops

-- the key at a way has a subkey of this name
abbrev pub HasSubkey : List TreeMap → ℕ → List (List ℕ) → List ℕ → Type 0
HasSubkey trees hive way name = (names : List (List ℕ)) × (subkeys_in trees hive (folded_path way) ≡ Some names) × Contains names name

-- Why a key isn't removed with all keys below it.
pub data RemovalRefused (trees : List TreeMap) (moment hive : ℕ) (path : List (List ℕ)) : Refusal → Type 0 where
  -- it is the root
  is_root : path ≡ [] → RemovalRefused trees moment hive path Fixed
  -- after legal deletions of others the deletion of a key, at the path or below it, isn't legal
  is_kept : (why : Refusal) (ops : List Op) (kept : List (List ℕ)) → AreLegalChanges trees ops moment → All (DeletesBelow hive path) ops
      → begins_path (folded_path path) (folded_path kept) ≡ true → legal (applied trees ops moment) (DeleteKey hive kept) ≡ Err why → RemovalRefused trees moment hive path why
  -- after legal deletions of others a key, at the path or below it, has a subkey whose name no call may name
  is_unnamed : (ops : List Op) (way : List (List ℕ)) (name : List ℕ) → AreLegalChanges trees ops moment → All (DeletesBelow hive path) ops
      → begins_path (folded_path path) (folded_path way) ≡ true → HasSubkey (applied trees ops moment) hive way name → is_key_name name ≡ false → RemovalRefused trees moment hive path BadName
  -- after legal deletions of others a key, at the path or below it, has a subkey, and its way has as many names as paths may have
  is_deep : (ops : List Op) (way : List (List ℕ)) (name : List ℕ) → AreLegalChanges trees ops moment → All (DeletesBelow hive path) ops
      → begins_path (folded_path path) (folded_path way) ≡ true → HasSubkey (applied trees ops moment) hive way name → length way ≡ MOST_PATH_NAMES → RemovalRefused trees moment hive path TooDeep

-- why an edit is refused
abbrev pub EditRefused : List TreeMap → ℕ → Edit → Refusal → Type 0
EditRefused trees moment (Operation op) why = legal trees op ≡ Err why
EditRefused trees moment (WriteValue hive path name kind bytes) why =
    ¬ (HasDatum trees hive path name kind bytes) × (legal trees (SetValue hive path name kind bytes) ≡ Err why)
EditRefused trees moment (RemoveValue hive path name) why = legal trees (DeleteValue hive path name) ≡ Err why
EditRefused trees moment (RemoveKey hive path) why = RemovalRefused trees moment hive path why
