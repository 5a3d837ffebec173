-- What an edit makes of entries.
use Rattle.std.specs.Prelude.{ℕ, List, Option, Some, None, not}
use Rattle.std.specs.FinMap.Entries.{find, put, where_key}
use Rattle.std.specs.Ordering.{eq_by_cmp}
use Rattle.std.specs.Arc.{arc_value}
use Rattle.reg_names.specs.Names.{folded}
use Rattle.persistent_map.specs.Orders.{name_order}
use Rattle.persistent_map.specs.declared.edit.MapEdit.{MapEdit}
use Rattle.persistent_map.specs.declared.edit.MapEdit.TheVariants.{Put, Remove}

-- what is under a name once a thing is put there: the thing if nothing was, else what replaces the one that was
abbrev pub merged : {A : Type 0} → (A → A → A) → Option A → A → A
merged over None new = new
merged over (Some old) new = over old new

-- the entries with a thing put under its name
abbrev pub written : {A : Type 0} → (A → List ℕ) → (A → A → A) → A → List (List ℕ × A) → List (List ℕ × A)
written key over new es = put name_order (key new) (merged over (find name_order (key new) es) new) es

-- the name of the entry that an edit puts or removes
abbrev pub edit_name : {A : Type 0} → (A → List ℕ) → MapEdit A → List ℕ
edit_name key (Put new) = key (arc_value new)
edit_name key (Remove name) = folded name.now

-- the entries after an edit: with a thing put under its name, or those of other names
abbrev pub edited : {A : Type 0} → (A → List ℕ) → (A → A → A) → MapEdit A → List (List ℕ × A) → List (List ℕ × A)
edited key over (Put new) es = written key over (arc_value new) es
edited key over (Remove name) es = where_key name_order (λ x. not (eq_by_cmp name_order (folded name.now) x)) es
