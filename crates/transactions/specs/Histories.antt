-- The changes that were accepted since a store was opened, the last of which are retained in memory.
use Rattle.std.specs.Prelude.{◌≡◌, ℕ, ◌-◌, ◌≤◌, List, length, map, drop, refl}
use Rattle.std.specs.List.{AllByRecursion}
use Rattle.std.specs.Coded.{Coded, code_by, coded×, coded_ℕ, coded_list}
use Rattle.std.specs.declared.snapshot.Snapshot.{Snapshot}
use Rattle.refusals.specs.declared.limits.TheConstants.{MOST_ELEMENT_BYTES}
use Rattle.reg_tree.specs.Encodings.{element_encoded_len}
use Rattle.reg_tree.specs.contracts.element.Element as element
use Rattle.reg_tree.specs.declared.element.Element.{Element}

-- all changes, how many of the first ones were discarded, and for how many more space is reserved
pub record Changes : Type 0 where
  pub changes : List Element
  pub discard_flushed : ℕ
  pub spare : ℕ

-- the change's encoding is not longer than an accepted change's may be
abbrev pub IsShort : Element → Type 0
IsShort e = element_encoded_len e ≤ MOST_ELEMENT_BYTES

abbrev pub values_of : List (Snapshot Element) → List Element
values_of all = map (λ change. change.value) all

-- the retained ones are the last of all, and each change is short
pub record AreLastOfAll (all : List (Snapshot Element)) (recent : List Element) : Type 0 where
  pub within : length recent ≤ length all
  pub last : recent ≡ drop (length all - length recent) (values_of all)
  pub short : AllByRecursion IsShort (values_of all)

abbrev pub changes_code : Coded Changes
changes_code = code_by (List Element × (ℕ × ℕ)) (coded× (coded_list element.the_row.coded) (coded× coded_ℕ coded_ℕ))
    (λ c. (c.changes, (c.discard_flushed, c.spare))) (λ p. record { changes = p.0; discard_flushed = p.1.0; spare = p.1.1 }) (λ _. refl)
