-- What a cursor's calls tell of the key and the values at its place.
use Rattle.std.proofs.Common.{◌≡◌, ℕ, List, [], length, Option, Some, None, Result, Ok, Err, IsOk, IfOk, refl, sym, ◌∙◌, ap, subst, ok_or}
use Rattle.std.specs.FinMap as finite
use Rattle.refusals.specs.declared.refusal.Refusal.{Refusal}
use Rattle.reg_tree_parts.specs.declared.value.Value.{Value}
use Rattle.reg_tree_parts.specs.Rows.{Row}
use Rattle.reg_tree.specs.Maps.{TreeMap}
use Rattle.reg_tree.specs.declared.tree.Info.{Info}
use Rattle.regtx_c.specs.declared.reads.KeyInfo.{KeyInfo}
use Rattle.regtx_c.specs.declared.cursors.ValueInfo.{ValueInfo}
use Rattle.regtx_c.specs.Buffers.{IsCopied, AreCopied}
use Rattle.regtx_c.specs.Handles.{coded}
use Rattle.regtx_c.specs.Parts.{IsPart}
use Rattle.regtx_c.specs.Places.{TreePlace}
use Rattle.regtx_c.specs.Cursors.{TellsKey, TellsValue, OpensAt}

pub tells_key : (there : Option (Row × Info)) (key : Row) (names : List (List ℕ)) → there ≡ Some (key, record { subkeys = length names; values = finite.len key.values; time = key.time })
    → (info : KeyInfo) (subkeys values time : ℕ) (units before after : List ℕ) (len_before len code : ℕ) → subkeys ≡ length names → values ≡ finite.len key.values → time ≡ key.time → units ≡ key.name → IsCopied units before after len code
    → TellsKey (ok_or {E = ℕ} there 2) info (record { subkeys = subkeys; values = values; time = time }) before after len_before len code
tells_key there key names is info subkeys values time units before after len_before len code s v t u copied =
    subst (λ (o : Option (Row × Info)). TellsKey (ok_or {E = ℕ} o 2) info (record { subkeys = subkeys; values = values; time = time }) before after len_before len code) (sym is)
    (λ i. record { subkeys = s i; values = v i; time = t i }, subst (λ (name : List ℕ). IsCopied name before after len code) u copied)

pub tells_no_value : (there : Option Value) → None ≡ there → (info : ValueInfo) (name bytes : List ℕ) (code : ℕ) → code ≡ 2 → TellsValue (ok_or {E = ℕ} there 2) info info name name bytes bytes code
tells_no_value there is info name bytes code e = subst (λ (o : Option Value). TellsValue (ok_or {E = ℕ} o 2) info info name name bytes bytes code) is (refl, e, refl, refl)

pub tells_value : (there : Option Value) (value : Value) → Some value ≡ there → (info : ValueInfo) (units bytes name_before name before after : List ℕ) (code : ℕ) → units ≡ value.name → bytes ≡ value.data
    → AreCopied units bytes name_before name before after code
    → TellsValue (ok_or {E = ℕ} there 2) info (record { kind = value.kind; name_len = length units; len = length bytes }) name_before name before after code
tells_value there value is info units bytes name_before name before after code u b copied =
    subst (λ (o : Option Value). TellsValue (ok_or {E = ℕ} o 2) info (record { kind = value.kind; name_len = length units; len = length bytes }) name_before name before after code) is
    (λ i. record { kind = value.kind; name_len = length (u i); len = length (b i) }, subst (λ (d : List ℕ). AreCopied value.name d name_before name before after code) b (subst (λ (n : List ℕ). AreCopied n bytes name_before name before after code) u copied))

-- a cursor is opened where the path leads
pub opens_at : (answer : Result (TreeMap × List (List ℕ)) Refusal) (place : TreePlace) → IsOk answer → IfOk answer (λ found. IsPart found.0 found.1 place.tree) → place.way ≡ [] → (before after : Option TreePlace) → after ≡ Some place → OpensAt (coded answer) before after 0
opens_at (Ok found) place ok part start before after is = (refl, place.tree, part, is ∙ ap (λ (way : List ℕ). Some (record { tree = place.tree; way = way })) start)
opens_at (Err why) place ok part start before after is = cc
