-- What a change asks of a store's trees.
use Rattle.std.specs.Prelude.{◌≡◌, ◌⊎◌, ℕ, List, [], ◌∷◌, None}
use Rattle.refusals.specs.declared.refusal.Refusal.{Refusal}
use Rattle.refusals.specs.declared.refusal.Refusal.TheVariants.{NoMemory, NotFound}
use Rattle.reg_names.specs.Names.{folded_path}
use Rattle.reg_tree.specs.Maps.{TreeMap}
use Rattle.reg_tree.specs.TreeLists.{info_in}
use Rattle.reg_tree.specs.declared.op.Op.TheVariants as op
use Rattle.change_plan.specs.declared.edit.Edit.{Edit}
use Rattle.change_plan.specs.declared.edit.Edit.TheVariants.{Operation, WriteValue, RemoveKey}
use Rattle.change_plan.specs.Plans.{Planned, TakesEdit, NotTaken}
use Rattle.store_values.specs.declared.change.Change.{Change}
use Rattle.store_values.specs.declared.change.Change.TheVariants.{SetValue, CreateKey, DeleteValue, DeleteKey, DeleteTree}

-- The edits that a change asks for, one after the other. The creation of a key that is there asks for nothing, and so
-- does the write of a value that is there with this type and this data.
abbrev pub edits_of : Change → List Edit
edits_of (SetValue hive path name datum) = Operation (op.CreateKey hive path) ∷ WriteValue hive path name datum.kind datum.«data» ∷ []
edits_of (CreateKey hive path) = Operation (op.CreateKey hive path) ∷ []
edits_of (DeleteValue hive path name) = Operation (op.DeleteValue hive path name) ∷ []
edits_of (DeleteKey hive path) = Operation (op.DeleteKey hive path) ∷ []
edits_of (DeleteTree hive path) = RemoveKey hive path ∷ []

-- a key is to be deleted with all below it that isn't there
abbrev pub KeyIsMissing : List TreeMap → Change → Type 0
KeyIsMissing trees (SetValue hive path name datum) = ⊥
KeyIsMissing trees (CreateKey hive path) = ⊥
KeyIsMissing trees (DeleteValue hive path name) = ⊥
KeyIsMissing trees (DeleteKey hive path) = ⊥
KeyIsMissing trees (DeleteTree hive path) = info_in trees hive (folded_path path) ≡ None

-- edits are taken into a plan, one after the other
abbrev pub TakesEdits : Planned → List Edit → Planned → Type 0
TakesEdits old [] new = new ≡ old
TakesEdits old (edit ∷ edits) new = (mid : Planned) × TakesEdit old edit mid × TakesEdits mid edits new

-- one of them is the first that isn't taken, for this reason
abbrev pub StopsEdits : Planned → List Edit → Refusal → Type 0
StopsEdits old [] why = ⊥
StopsEdits old (edit ∷ edits) why = NotTaken old edit why ⊎ ((mid : Planned) × TakesEdit old edit mid × StopsEdits mid edits why)

-- a plan on trees, without operations, with so many bytes set aside
abbrev pub first_plan : List TreeMap → ℕ → ℕ → Planned
first_plan trees aside moment = record { view = trees; ops = []; moment = moment; aside = aside }

-- A change is planned on trees at a moment, with so many bytes set aside: its edits are taken.
pub record ChangeIsPlanned (trees : List TreeMap) (aside moment : ℕ) (change : Change) (plan : Planned) : Type 0 where
  pub there : KeyIsMissing trees change → ⊥
  pub taken : TakesEdits (first_plan trees aside moment) (edits_of change) plan

-- Why it isn't: memory is lacking, the key to be deleted with all below it isn't there, or an edit isn't taken.
abbrev pub ChangeIsDenied : List TreeMap → ℕ → ℕ → Change → Refusal → Type 0
ChangeIsDenied trees aside moment change why = (why ≡ NoMemory) ⊎ (((why ≡ NotFound) × KeyIsMissing trees change) ⊎ StopsEdits (first_plan trees aside moment) (edits_of change) why)
