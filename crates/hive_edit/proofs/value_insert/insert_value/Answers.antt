use Rattle.std.proofs.Common.{rules, ℕ, List, ◌<◌, ◌^◌, ◌∙◌, sym, refl, subst, length}
use Rattle.hive_records.specs.NameEncodings.{AreUnits, name_bytes}
use Rattle.hive_edit.proofs.value_insert.insert_value.Goals as goal

pub insert_small-requires-clause-fits : goal.insert_small-requires-clause-fits
insert_small-requires-clause-fits c =
    let same = c.units.ensures ∙ sym c.in_ok-name.ensures in
    let short = c.if-not-is_short.ensures refl in
    record {
      units = subst (λ (z : List ℕ). AreUnits z) same short.0;
      name = subst (λ (z : List ℕ). length (name_bytes z) < 2 ^ 16) same short.1;
      kind = search rules;
    }

pub insert_large-requires-clause-fits : goal.insert_large-requires-clause-fits
insert_large-requires-clause-fits c =
    let same = c.units.ensures ∙ sym c.in_ok-name.ensures in
    let short = c.if-not-is_short.ensures refl in
    record {
      units = subst (λ (z : List ℕ). AreUnits z) same short.0;
      name = subst (λ (z : List ℕ). length (name_bytes z) < 2 ^ 16) same short.1;
      kind = search rules;
    }
