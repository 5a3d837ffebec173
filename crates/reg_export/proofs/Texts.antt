-- Several texts, from their units with a 0 between each two.
use Rattle.std.proofs.Common.{◌≡◌, ℕ, zero, suc, cond, List, [], ◌∷◌, ◌++◌, map, refl, sym, ◌∙◌, ap, append_assoc, codes}
use Rattle.std.specs.List.{flat_map, onto_first, join_with_byte}
use Rattle.std.specs.Prelude.{if◌then◌else◌}
use Rattle.std.proofs.Math.Dec.{eqb-suc-zero}
use Rattle.hex.specs.Hex.{encode_with}
use Rattle.reg_export.specs.declared.unit_form.UnitForm.TheVariants.{JsonTexts}
use Rattle.reg_export.specs.Meanings.{parted}
use Rattle.reg_export.specs.UnitForms.{json_unit, meaning_unit, form_text}
use Rattle.reg_export.specs.JsonTexts.{json_string, json_texts}
use Rattle.reg_export.specs.TsvTexts.{tsv_texts}

same_tail : (xs ys : List ℕ) → 34 ∷ xs ≡ 34 ∷ ys → xs ≡ ys
same_tail xs ys e = cc

-- a unit other than 0 goes on with a part
parted_on : (n : ℕ) (units : List ℕ) → parted (suc n ∷ units) ≡ onto_first (suc n) (parted units)
parted_on n units = ap (λ b. cond b ([] ∷ parted units) (onto_first (suc n) (parted units))) (eqb-suc-zero n)

-- units have at least one part
parts_of : (units : List ℕ) → (text : List ℕ) × (texts : List (List ℕ)) × (parted units ≡ text ∷ texts)
parts_of [] = ([], [], refl)
parts_of (zero ∷ units) = ([], parted units, refl)
parts_of (suc n ∷ units) = let rest = parts_of units in (suc n ∷ rest.0, rest.1, parted_on n units ∙ ap (onto_first (suc n)) rest.2)

-- strings after the first one
abbrev more_strings : List (List ℕ) → List ℕ
more_strings [] = []
more_strings (text ∷ texts) = 44 ∷ join_with_byte 44 (map json_string (text ∷ texts))

-- strings after the quote that begins the first one
abbrev begun : List ℕ → List (List ℕ) → List ℕ
begun text texts = flat_map json_unit text ++ 34 ∷ more_strings texts

strings : (text : List ℕ) (texts : List (List ℕ)) → join_with_byte 44 (map json_string (text ∷ texts)) ≡ 34 ∷ begun text texts
strings text [] = refl
strings text (next ∷ texts) = ap (λ t. 34 ∷ t) (append_assoc (flat_map json_unit text) (34 ∷ []) (more_strings (next ∷ texts)))

-- all strings of texts, from their units
pub json_parts : (units : List ℕ) → join_with_byte 44 (map json_string (parted units)) ≡ 34 ∷ (flat_map (form_text JsonTexts) units ++ 34 ∷ [])
json_parts [] = refl
json_parts (zero ∷ units) =
    let rest = parts_of units in
    strings [] (parted units) ∙ ap (λ ps. 34 ∷ 34 ∷ more_strings ps) rest.2 ∙ ap (λ ps. 34 ∷ 34 ∷ 44 ∷ join_with_byte 44 (map json_string ps)) (sym rest.2) ∙ ap (λ t. 34 ∷ 34 ∷ 44 ∷ t) (json_parts units)
json_parts (suc n ∷ units) =
    let rest = parts_of units in
    ap (λ ps. join_with_byte 44 (map json_string ps)) (parted_on n units) ∙ ap (λ ps. join_with_byte 44 (map json_string (onto_first (suc n) ps))) rest.2 ∙ strings (suc n ∷ rest.0) rest.1
    ∙ ap (λ t. 34 ∷ t) (append_assoc (json_unit (suc n)) (flat_map json_unit rest.0) (34 ∷ more_strings rest.1)
    ∙ ap (λ t. json_unit (suc n) ++ t) (same_tail _ _ (sym (strings rest.0 rest.1) ∙ ap (λ ps. join_with_byte 44 (map json_string ps)) (sym rest.2) ∙ json_parts units))
    ∙ sym (append_assoc (json_unit (suc n)) (flat_map (form_text JsonTexts) units) (34 ∷ []))
    ∙ ap (λ b. ((if b then codes "\",\"" else json_unit (suc n)) ++ flat_map (form_text JsonTexts) units) ++ 34 ∷ []) (sym (eqb-suc-zero n)))

pub json_parted : (units : List ℕ) → (codes ",\"texts\":[\"" ++ flat_map (form_text JsonTexts) units) ++ codes "\"]" ≡ json_texts (parted units)
json_parted units =
    ap (λ (t : List ℕ). codes ",\"texts\":[\"" ++ t) (sym (append_assoc (flat_map (form_text JsonTexts) units) (34 ∷ []) (93 ∷ []))) ∙ ap (λ (t : List ℕ). codes ",\"texts\":[" ++ t ++ codes "]") (sym (json_parts units))

tsv_first : (n : ℕ) (text : List ℕ) (texts : List (List ℕ)) → tsv_texts ((n ∷ text) ∷ texts) ≡ meaning_unit n ++ tsv_texts (text ∷ texts)
tsv_first n text [] = refl
tsv_first n text (next ∷ texts) = append_assoc (meaning_unit n ++ flat_map meaning_unit text) (codes "%0000") (tsv_texts (next ∷ texts)) ∙ append_assoc (meaning_unit n) (flat_map meaning_unit text) (codes "%0000" ++ tsv_texts (next ∷ texts)) ∙ ap (λ t. meaning_unit n ++ t) (sym (append_assoc (flat_map meaning_unit text) (codes "%0000") (tsv_texts (next ∷ texts))))

zero_unit : codes "%0000" ≡ meaning_unit 0
unfolding encode_with
zero_unit = refl

pub tsv_parted : (units : List ℕ) → tsv_texts (parted units) ≡ flat_map meaning_unit units
tsv_parted [] = refl
tsv_parted (zero ∷ units) =
    let rest = parts_of units in
    ap (λ ps. tsv_texts ([] ∷ ps)) rest.2 ∙ ap (λ ps. codes "%0000" ++ tsv_texts ps) (sym rest.2) ∙ ap (λ t. codes "%0000" ++ t) (tsv_parted units) ∙ ap (λ (t : List ℕ). t ++ flat_map meaning_unit units) zero_unit
tsv_parted (suc n ∷ units) =
    let rest = parts_of units in
    ap tsv_texts (parted_on n units) ∙ ap (λ ps. tsv_texts (onto_first (suc n) ps)) rest.2 ∙ tsv_first (suc n) rest.0 rest.1 ∙ ap (λ ps. meaning_unit (suc n) ++ tsv_texts ps) (sym rest.2) ∙ ap (λ t. meaning_unit (suc n) ++ t) (tsv_parted units)
