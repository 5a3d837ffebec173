use Rattle.std.proofs.Common.{rules, ◌≡◌, inl, inr, true, ◌∙◌, ap}
use Rattle.reg_names.specs.Names.{is_value_name, name_if}
use Rattle.uuid.specs.Text.{hyphenated_text, lower}
use Rattle.commit_outcomes.proofs.UnitNames.{named, names_value}
use Rattle.commit_outcomes.proofs.units.unit_name.Goals as goal

pub unreachable-requires : goal.unreachable-requires
unreachable-requires c =
    let text = c.as_bytes.result.now in
    let is : text ≡ hyphenated_text lower c.args.unit.now = c.as_bytes.ensures.value ∙ c.encode_lower-text.ensures.text ∙ ap (hyphenated_text lower) c.hyphenated.ensures in
    let may : is_value_name text ≡ true = ap is_value_name is ∙ names_value (hyphenated_text lower c.args.unit.now) (named c.args.unit.now) in
    elim c.in-Err.ensures [
      | inl e ↦ let bad = e ∙ ap (λ b. name_if b text) may in let never : ⊥ = cc in never
      | inr e ↦ search (rules, e)
    ]
