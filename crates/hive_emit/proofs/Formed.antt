-- Keys in the form in which they are written, while other cells come and change; and those that the root leads to.
use Rattle.std.proofs.Common.{◌≡◌, inl, inr, ℕ, zero, suc, Bool, true, ◌||◌, T, List, [], ◌∷◌, ◌++◌, length, slice_get, refl, sym, ◌∙◌, ap, subst, arith, Result, Ok, Some, IsSome}
use Rattle.std.specs.List.{AllByRecursion}
use Rattle.std.specs.FinMap.Entries.{is_sorted, below_all}
use Rattle.std.specs.Ordering.{is_lt}
use Rattle.std.specs.declared.cmp.Ordering.TheVariants.{Less}
use Rattle.refusals.specs.declared.refusal.Refusal.{Refusal}
use Rattle.reg_tree_parts.specs.Orders.{name_order}
use Rattle.reg_tree_parts.specs.Rows.{Row}
use Rattle.reg_tree_parts.specs.Nodes.{Entries}
use Rattle.reg_tree_parts.proofs.SortedLists.{front_of, back_of, less_of}
use Rattle.hive_cells.specs.Bins.{Cells}
use Rattle.hive_tree_model.specs.Lists.{IsIn}
use Rattle.hive_tree_model.specs.Keys.{KeyParts, Keys, none, key, offsets, own_cells}
use Rattle.hive_tree_model.specs.Encodings.{CellsMatchKeys}
use Rattle.hive_tree_model.specs.Cells.{Grows}
use Rattle.hive_tree_model.specs.Loads.{with_last}
use Rattle.hive_tree_model.proofs.Basics.{in_either, in_front, in_back}
use Rattle.hive_records.specs.KeyNodes.{keys_in}
use Rattle.hive_records.specs.KeyEncodings.{key_node_bytes}
use Rattle.hive_records.specs.ListEncodings.{Subkey, cell_offsets}
use Rattle.hive_records.proofs.Keys.{keys_there}
use Rattle.hive_load_parts.specs.Nodes.{AreListed}
use Rattle.hive_emit.specs.KeyLists.{placed}
use Rattle.hive_emit.proofs.Stays.{holds_stays, listed_stays, values_stay}
use Rattle.hive_emit.specs.Forms.{is_past_ascii, is_plain, Rises, AreRead, IsClass, KeyForm, IsKeyForm, LeadsUnder}
use Rattle.hive_emit.specs.EmittedKeys.{any_past_ascii, listed_subkeys, AreFormed}

-- ---- cells that stay

pub class_stays : (at : ℕ) (class own : List ℕ) (old new : Cells) → ((cell : ℕ) → IsIn cell own → new cell ≡ old cell) → IsClass at class own old → IsClass at class own new
class_stays at class own old new stay (inl h) = inl h
class_stays at class own old new stay (inr h) = inr (h.0, holds_stays old new at class (stay at (subst (λ (o : List ℕ). IsIn at o) (sym h.2) (inl refl))) h.1, h.2)

form_stays : (old new : Cells) (Names : List ℕ → ℕ → Type 0) (parent at : ℕ) (parts : KeyParts Row) (subkeys : List Subkey) → ((cell : ℕ) → IsIn cell parts.own → new cell ≡ old cell) → KeyForm old Names parent at parts subkeys → KeyForm new Names parent at parts subkeys
form_stays old new Names parent at parts subkeys stay f =
    let here : (cell : ℕ) → IsIn cell (at ∷ (f.class_own ++ (f.values_own ++ f.subkeys_own))) → new cell ≡ old cell = λ cell i. stay cell (subst (λ (o : List ℕ). IsIn cell o) (sym f.own) i) in
    record {
      its = f.its;
      encoding = holds_stays old new at (key_node_bytes parts.row f.its) (here at (inl refl)) f.encoding;
      parent_is = f.parent_is;
      subkey_total = f.subkey_total;
      value_count = f.value_count;
      class_own = f.class_own;
      values_own = f.values_own;
      subkeys_own = f.subkeys_own;
      own = f.own;
      class = class_stays f.its.class parts.row.class f.class_own old new (λ cell i. here cell (inr (in_front cell f.class_own (f.values_own ++ f.subkeys_own) i))) f.class;
      values = values_stay f.its.values parts.row.values f.values_own old new (λ cell i. here cell (inr (in_back cell f.class_own (f.values_own ++ f.subkeys_own) (in_front cell f.values_own f.subkeys_own i)))) f.values;
      subkey_list = listed_stays f.its.subkey_list (is_plain subkeys) subkeys f.subkeys_own old new (λ cell i. here cell (inr (in_back cell f.class_own (f.values_own ++ f.subkeys_own) (in_back cell f.values_own f.subkeys_own i)))) f.subkey_list;
      rises = f.rises;
      security = f.security;
    }

pub formed_stay : (old new : Cells) (Names : List ℕ → ℕ → Type 0) (parent : ℕ) (f : Keys Row) → ((cell : ℕ) → IsIn cell (own_cells f) → new cell ≡ old cell) → AreFormed old Names parent f → AreFormed new Names parent f
formed_stay old new Names parent none stay h = tt
formed_stay old new Names parent (key at p below after) stay h = (
  form_stays old new Names parent at p (listed_subkeys below) (λ cell i. stay cell (in_front cell (p.own ++ own_cells below) (own_cells after) (in_front cell p.own (own_cells below) i))) h.0,
  formed_stay old new Names at below (λ cell i. stay cell (in_front cell (p.own ++ own_cells below) (own_cells after) (in_back cell p.own (own_cells below) i))) h.1,
  formed_stay old new Names parent after (λ cell i. stay cell (in_back cell (p.own ++ own_cells below) (own_cells after) i)) h.2,
)

-- if cells come beside those that are there
own_there : (cells : Cells) (f : Keys Row) → CellsMatchKeys (keys_in true cells) f → (cell : ℕ) → IsIn cell (own_cells f) → IsSome (cells cell)
own_there cells none fits cell i = absurd i
own_there cells (key at p below after) fits cell i = elim (in_either cell (p.own ++ own_cells below) (own_cells after) i) [
  | inl j ↦ elim (in_either cell p.own (own_cells below) j) [
    | inl k ↦ keys_there true cells at p fits.0 cell (in_front cell p.own p.lent k)
    | inr k ↦ own_there cells below fits.2 cell k
  ]
  | inr j ↦ own_there cells after fits.3 cell j
]

pub formed_grown : (old new : Cells) (Names : List ℕ → ℕ → Type 0) (parent : ℕ) (f : Keys Row) → CellsMatchKeys (keys_in true old) f → Grows old new → AreFormed old Names parent f → AreFormed new Names parent f
formed_grown old new Names parent f fits grows h = formed_stay old new Names parent f (λ cell i. grows cell (own_there old f fits cell i)) h

-- one key more
pub formed_last : (cells : Cells) (Names : List ℕ → ℕ → Type 0) (parent : ℕ) (f : Keys Row) (at : ℕ) (p : KeyParts Row) (below : Keys Row) → AreFormed cells Names parent f → KeyForm cells Names parent at p (listed_subkeys below) → AreFormed cells Names at below → AreFormed cells Names parent (with_last f at p below)
formed_last cells Names parent none at p below h form formed = (form, formed, tt)
formed_last cells Names parent (key to q subkey_list after) at p below h form formed = (h.0, h.1, formed_last cells Names parent after at p below h.2 form formed)

-- ---- the subkeys of one key

pub placed_subkeys : (ks : List (List ℕ × Entries)) (f : Keys Row) → AreListed ks f → placed (offsets f) ks ≡ listed_subkeys f
placed_subkeys [] none h = refl
placed_subkeys [] (key at p below after) h = absurd h
placed_subkeys (k ∷ ks) none h = absurd h
placed_subkeys (k ∷ ks) (key at p below after) h =
    ap (λ (n : List ℕ). record { at = at; name = n } ∷ placed (offsets after) ks) h.0 ∙ ap (λ (xs : List Subkey). record { at = at; name = p.name } ∷ xs) (placed_subkeys ks after h.2)

rises_below : (n offsets : List ℕ) (ks : List (List ℕ × Entries)) → T (below_all name_order n ks) → AllByRecursion (λ (j : Subkey). name_order n j.name ≡ Less) (placed offsets ks)
rises_below n [] ks h = tt
rises_below n (o ∷ offsets) [] h = tt
rises_below n (o ∷ offsets) (k ∷ ks) h = (less_of (name_order n k.0) (front_of (is_lt (name_order n k.0)) (below_all name_order n ks) h), rises_below n offsets ks (back_of (is_lt (name_order n k.0)) (below_all name_order n ks) h))

pub placed_rise : (offsets : List ℕ) (ks : List (List ℕ × Entries)) → T (is_sorted name_order ks) → Rises (placed offsets ks)
placed_rise [] ks h = tt
placed_rise (o ∷ offsets) [] h = tt
placed_rise (o ∷ offsets) (k ∷ ks) h = (rises_below k.0 offsets ks (front_of (below_all name_order k.0 ks) (is_sorted name_order ks) h), placed_rise offsets ks (back_of (below_all name_order k.0 ks) (is_sorted name_order ks) h))

pub plain_placed : (offsets : List ℕ) (ks : List (List ℕ × Entries)) → length offsets ≡ length ks → any_past_ascii ks ≡ is_plain (placed offsets ks)
plain_placed [] [] h = refl
plain_placed [] (k ∷ ks) h = absurd (omega (arith, h))
plain_placed (o ∷ offsets) [] h = absurd (omega (arith, h))
plain_placed (o ∷ offsets) (k ∷ ks) h = ap (λ (b : Bool). is_past_ascii k.0 || b) (plain_placed offsets ks (omega (arith, h)))

-- ---- keys that the root leads to

subkeys_read : (cells : Cells) (f : Keys Row) → CellsMatchKeys (keys_in true cells) f → AreRead (keys_in true cells) (listed_subkeys f)
subkeys_read cells none fits = tt
subkeys_read cells (key at p below after) fits = ((p, fits.0, refl), subkeys_read cells after fits.3)

subkeys_places : (f : Keys Row) → cell_offsets (listed_subkeys f) ≡ offsets f
subkeys_places none = refl
subkeys_places (key at p below after) = ap (λ (xs : List ℕ). at ∷ xs) (subkeys_places after)

-- a key that is read, with all that is below it, in its form
pub record Here (cells : Cells) (Names : List ℕ → ℕ → Type 0) (parent at : ℕ) : Type 0 where
  parts : KeyParts Row
  below : Keys Row
  read : keys_in true cells at ≡ Ok parts
  listed : offsets below ≡ parts.subkey_list
  fits : CellsMatchKeys (keys_in true cells) below
  form : KeyForm cells Names parent at parts (listed_subkeys below)
  formed : AreFormed cells Names at below

picked : (cells : Cells) (Names : List ℕ → ℕ → Type 0) (parent : ℕ) (f : Keys Row) (i at : ℕ) → slice_get (offsets f) i ≡ Some at → CellsMatchKeys (keys_in true cells) f → AreFormed cells Names parent f → Here cells Names parent at
picked cells Names parent none i at e fits formed = absurd (let no : ⊥ = cc in no)
picked cells Names parent (key to p below after) zero at e fits formed =
    let same : to ≡ at = cc in
    subst (Here cells Names parent) same (record { parts = p; below = below; read = fits.0; listed = fits.1; fits = fits.2; form = formed.0; formed = formed.1 })
picked cells Names parent (key to p below after) (suc i) at e fits formed = picked cells Names parent after i at e fits.3 formed.2

same_parts : (r : Result (KeyParts Row) Refusal) (o p : KeyParts Row) → r ≡ Ok o → r ≡ Ok p → o ≡ p
same_parts r o p e f = let same : Ok o ≡ Ok p = sym e ∙ f in cc

pub led : (cells : Cells) (Names : List ℕ → ℕ → Type 0) (above at : ℕ) → Here cells Names above at → (way : List ℕ) (parent to : ℕ) → LeadsUnder (keys_in true cells) above at way parent to → IsKeyForm cells Names parent to
led cells Names above at h [] parent to leads = subst (λ (p : ℕ). IsKeyForm cells Names p to) leads.0 (subst (IsKeyForm cells Names above) leads.1 (record {
  parts = h.parts;
  subkeys = listed_subkeys h.below;
  reads = h.read;
  listed = subkeys_places h.below ∙ h.listed;
  named = subkeys_read cells h.below h.fits;
  form = h.form;
}))
led cells Names above at h (i ∷ way) parent to leads =
    let same : leads.0 ≡ h.parts = same_parts (keys_in true cells at) leads.0 h.parts leads.2 h.read in
    let there : slice_get (offsets h.below) i ≡ Some leads.1 = ap (λ (ks : List ℕ). slice_get ks i) h.listed ∙ ap (λ (p : KeyParts Row). slice_get p.subkey_list i) (sym same) ∙ leads.3 in
    led cells Names at leads.1 (picked cells Names at h.below i leads.1 there h.fits h.formed) way parent to leads.4

pub root_led : (cells : Cells) (Names : List ℕ → ℕ → Type 0) (above root : ℕ) (parts : KeyParts Row) (below : Keys Row) → keys_in true cells root ≡ Ok parts → offsets below ≡ parts.subkey_list → CellsMatchKeys (keys_in true cells) below → KeyForm cells Names above root parts (listed_subkeys below) → AreFormed cells Names root below
    → (way : List ℕ) (parent to : ℕ) → LeadsUnder (keys_in true cells) above root way parent to → IsKeyForm cells Names parent to
root_led cells Names above root parts below read listed fits form formed way parent to leads = led cells Names above root (record { parts = parts; below = below; read = read; listed = listed; fits = fits; form = form; formed = formed }) way parent to leads

-- ---- other names of security cells

form_as : (cells : Cells) (Names Others : List ℕ → ℕ → Type 0) (parent at : ℕ) (parts : KeyParts Row) (subkeys : List Subkey) → ((descriptor : List ℕ) (to : ℕ) → Names descriptor to → Others descriptor to) → KeyForm cells Names parent at parts subkeys → KeyForm cells Others parent at parts subkeys
form_as cells Names Others parent at parts subkeys on f = record {
  its = f.its;
  encoding = f.encoding;
  parent_is = f.parent_is;
  subkey_total = f.subkey_total;
  value_count = f.value_count;
  class_own = f.class_own;
  values_own = f.values_own;
  subkeys_own = f.subkeys_own;
  own = f.own;
  class = f.class;
  values = f.values;
  subkey_list = f.subkey_list;
  rises = f.rises;
  security = on parts.row.descriptor f.its.security f.security;
}

pub is_form_as : (cells : Cells) (Names Others : List ℕ → ℕ → Type 0) (parent at : ℕ) → ((descriptor : List ℕ) (to : ℕ) → Names descriptor to → Others descriptor to) → IsKeyForm cells Names parent at → IsKeyForm cells Others parent at
is_form_as cells Names Others parent at on f = record { parts = f.parts; subkeys = f.subkeys; reads = f.reads; listed = f.listed; named = f.named; form = form_as cells Names Others parent at f.parts f.subkeys on f.form }
