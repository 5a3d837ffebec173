-- What is read of trees that differ in times alone.
use Rattle.std.proofs.Common.{◌≡◌, ℕ, List, refl, ap}
use Rattle.std.specs.Option.{option_map}
use Rattle.reg_names.specs.Names.{folded_path}
use Rattle.reg_tree.specs.Maps.{TreeMap}
use Rattle.reg_tree.specs.Times.{SameButTimes}
use Rattle.reg_tree.proofs.Times.{value_alike, value_index_alike, subkeys_alike, subkey_index_alike, value_names_alike}
use Rattle.store_model.specs.Machine.{looked_up}
use Rattle.store_model.specs.declared.event.Question.{Question}
use Rattle.store_model.specs.declared.event.Question.TheVariants.{ValueOf, ValueAt, KeyAt, KeysOf, ValuesOf, InfoOf}
use Rattle.store_model.specs.declared.event.ReadResult.TheVariants as found

-- it is the same, if no time is asked for
pub looked_alike : (trees others : List TreeMap) → SameButTimes trees others → (hive : ℕ) (path : List (List ℕ)) (question : Question) → (question ≡ InfoOf → ⊥) → looked_up trees hive path question ≡ looked_up others hive path question
looked_alike trees others same hive path (ValueOf name) untimed = ap (option_map found.Value) (value_alike trees others same hive (folded_path path) name)
looked_alike trees others same hive path (ValueAt index) untimed = ap (option_map found.Value) (value_index_alike trees others same hive (folded_path path) index)
looked_alike trees others same hive path (KeyAt index) untimed = ap (option_map found.Key) (subkey_index_alike trees others same hive (folded_path path) index)
looked_alike trees others same hive path KeysOf untimed = ap (option_map found.Keys) (subkeys_alike trees others same hive (folded_path path))
looked_alike trees others same hive path ValuesOf untimed = ap (option_map found.ValueNames) (value_names_alike trees others same hive (folded_path path))
looked_alike trees others same hive path InfoOf untimed = absurd (untimed refl)
