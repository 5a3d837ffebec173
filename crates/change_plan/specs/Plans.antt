-- What a plan has taken.
use Rattle.std.specs.Prelude.{◌≡◌, ◌≤◌, ◌⊎◌, ◌<◌, ◌+◌, ℕ, List, ◌++◌, refl}
use Rattle.std.specs.Coded.{Coded, code_by, coded×, coded_ℕ, coded_list}
use Rattle.reg_tree.specs.contracts.op.Op as op
use Rattle.store_model.specs.Codes.{trees_code}
use Rattle.refusals.specs.declared.refusal.Refusal.{Refusal}
use Rattle.refusals.specs.declared.refusal.Refusal.TheVariants.{NoMemory, TooLarge}
use Rattle.refusals.specs.declared.limits.TheConstants.{MOST_ELEMENT_BYTES}
use Rattle.reg_tree.specs.Maps.{TreeMap}
use Rattle.reg_tree.specs.Judgement.{applied}
use Rattle.reg_tree.specs.Encodings.{element_encoded_len}
use Rattle.reg_tree.specs.declared.op.Op.{Op}
use Rattle.change_plan.specs.declared.edit.Edit.{Edit}
use Rattle.change_plan.specs.Edits.{EditAsks, EditRefused}

-- a plan as its callers see it: the trees after its operations, these, and their moment; and how many bytes of the change
-- are set aside for what its commit adds
pub record Planned : Type 0 where
  pub view : List TreeMap
  pub ops : List Op
  pub moment : ℕ
  pub aside : ℕ

-- a plan is stored as the tuple of its fields
abbrev pub planned_code : Coded Planned
planned_code = code_by (List TreeMap × (List Op × (ℕ × ℕ))) (coded× trees_code (coded× (coded_list op.the_row.coded) (coded× coded_ℕ coded_ℕ)))
    (λ p. (p.view, (p.ops, (p.moment, p.aside)))) (λ p. record { view = p.0; ops = p.1.0; moment = p.1.1.0; aside = p.1.1.1 }) (λ _. refl)

-- how long the encoding of operations is, as one change
abbrev pub ops_len : List Op → ℕ
ops_len ops = element_encoded_len (record { moment = 0; ops = ops })

-- one edit was taken: the operations that it asks for, on the trees as they were, follow those before, and the trees
-- are those after them; with what is set aside the change is as long as changes may be, at most
pub record TakesEdit (old : Planned) (edit : Edit) (new : Planned) : Type 0 where
  pub more : List Op
  pub asked : EditAsks old.view old.moment edit more
  pub ops : new.ops ≡ old.ops ++ more
  pub view : new.view ≡ applied old.view more old.moment
  pub moment : new.moment ≡ old.moment
  pub aside : new.aside ≡ old.aside
  pub short : ops_len new.ops + new.aside ≤ MOST_ELEMENT_BYTES

-- why an edit isn't taken: memory is lacking, it is refused on the trees, or it makes the change too long, with what is
-- set aside
abbrev pub NotTaken : Planned → Edit → Refusal → Type 0
NotTaken old edit why =
    (why ≡ NoMemory) ⊎ EditRefused old.view old.moment edit why
    ⊎ ((why ≡ TooLarge) × ((more : List Op) × EditAsks old.view old.moment edit more × (MOST_ELEMENT_BYTES < ops_len (old.ops ++ more) + old.aside)))
